use Rattle.std.proofs.Common.{◌≡◌, take}
use Rattle.ffs_layout.specs.Entry.{any_nul_or_slash}
use Rattle.ffs_layout.proofs.entries.has_nul_or_slash_in_part.Given as goal

abbrev pub invariant-loop-byte : goal.invariant-loop-byte
invariant-loop-byte g l = l.any ≡ any_nul_or_slash (take l.byte-index l.part)
