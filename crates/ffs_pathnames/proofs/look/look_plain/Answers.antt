use Rattle.std.proofs.Common.{false, refl, sym}
use Rattle.ffs_layout.specs.Entry.{entry_value}
use Rattle.ffs_pathnames.{specs.Sees.stamps_in, proofs.LookLaws.silent_unstamped}
use Rattle.ffs_pathnames.proofs.look.look_plain.Goals as goal

pub returns-then-is_harmless-clause-stamps : goal.returns-then-is_harmless-clause-stamps
returns-then-is_harmless-clause-stamps c = record {
  after = λ v s. sym (silent_unstamped v c.args.dir _ (stamps_in c.args.inodes.now c.args.words.now.items)
      (entry_value c.args.entry.now) (c.is_harmless.ensures c.if-is_harmless.true v s false));
  words = record { places = λ x. refl; long = refl };
}
