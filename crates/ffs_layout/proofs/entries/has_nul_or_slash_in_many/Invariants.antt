use Rattle.std.proofs.Common.{◌≡◌, ◌*◌, drop}
use Rattle.ffs_layout.specs.Entry.{any_nul_or_slash}
use Rattle.ffs_layout.proofs.entries.has_nul_or_slash_in_many.Given as goal

-- what is left decides
abbrev pub invariant-loop-part : goal.invariant-loop-part
invariant-loop-part l = any_nul_or_slash l.bytes ≡ any_nul_or_slash (drop (l.part-index * 8) l.bytes)
