use Rattle.std.proofs.{Common.{[], refl}, lemmas.Bool.false≢true}
use Rattle.ffs_names.proofs.Entered.{end_seen}
use Rattle.ffs_names.proofs.entries.Entries.stop.Goals as goal

pub returns-clause-stopped : goal.returns-clause-stopped
returns-clause-stopped c = let s = c.args.self.now in record {
  entries = λ b. end_seen s.at_start s.index s.order s.chunk [];
  shape = λ b. refl;
  reads = λ b. refl;
  held = λ blocks w may. absurd (false≢true may);
  left = refl;
  geometry = refl;
}
