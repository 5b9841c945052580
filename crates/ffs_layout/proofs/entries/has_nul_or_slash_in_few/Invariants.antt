use Rattle.std.{proofs.Common.{◌≡◌, ◌==◌, take, false}, specs.List.list_any}
use Rattle.ffs_layout.proofs.entries.has_nul_or_slash_in_few.Given as goal

-- no byte so far is NUL or `/`
abbrev pub invariant-loop-byte : goal.invariant-loop-byte
invariant-loop-byte l = record {
  nul : list_any (λ b. b == 0) (take l.byte-index l.bytes) ≡ false;
  slash : list_any (λ b. b == 47) (take l.byte-index l.bytes) ≡ false;
}
