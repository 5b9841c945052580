use Rattle.std.proofs.{Common.{refl, sym, ◌∙◌, arith}, lemmas.Grind.common_steps}
use Rattle.ffs_volume.specs.declared.Role.TheVariants.{Plain}
use Rattle.ffs_layout.specs.Entry.{entry_value}
use Rattle.ffs_pathnames.proofs.StampLaws.{after_stamp}
use Rattle.ffs_pathnames.proofs.look.stamp.Goals as goal

pub returns-then-belongs : goal.returns-then-belongs
returns-then-belongs c = record {
  after = λ v s.
      after_stamp v c.args.inodes.now c.args.dir c.with_due.result c.args.words.now.items _ Plain
      (entry_value c.args.entry.now) s c.requires.dir refl (sym c.belongs.ensures ∙ c.if-belongs.true)
      c.set.ensures.items c.with_due.ensures.due;
  words = grind (arith, common_steps);
}
