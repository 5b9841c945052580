use Rattle.std.proofs.Common.{◌≡◌, ◌<◌, arith, Bool, true, ap, sym, subst, ◌∙◌, if◌then◌else◌, rules, slice_set}
use Rattle.std.proofs.lemmas.Grind.{common_steps}
use Rattle.ffs_volume.specs.Directories.Roles.{is_plain}
use Rattle.ffs_layout.specs.Entry.{entry_value}
use Rattle.ffs_pathnames.proofs.{StampLaws.after_pass, verdict.pass.Goals.{then-is_suspect, else-is_suspect}}
use Rattle.ffs_pathnames.proofs.verdict.pass.Goals as goal

pub returns-then-stamp_of-dir : goal.returns-then-stamp_of-dir
returns-then-stamp_of-dir c = record {
  after = λ v s.
      let plain : is_plain c.args.role ≡ true = search rules in
      let x = c.args.entry.now.number in
      let flags = c.args.flags.now.items in
      let by = λ (b : Bool). if b then slice_set flags x true else flags in
      let flagged : c.if-is_suspect.flags.items ≡ by c.is_suspect.result = elim c.if-is_suspect.branch [
        | then-is_suspect w ↦ rw w.flags-is (w.set.ensures.items ∙ sym (ap by w.if-is_suspect.true))
        | else-is_suspect w ↦ rw w.flags-is (sym (ap by w.if-is_suspect.false))
      ] in
      after_pass v c.args.inodes.now c.args.dir c.without_due.result c.is_suspect.result flags _ c.args.words.now.items _
      c.args.role (entry_value c.args.entry.now) s plain
      (subst (λ n. x < n) c.count.ensures c.if-entry-count.false) c.is_suspect.ensures flagged
      (sym c.stamp_of.ensures ∙ c.if-stamp_of-dir.true) c.set-then-stamp_of-dir.ensures.items c.without_due.ensures.due;
  flags = grind (arith, common_steps);
  words = grind (arith, common_steps);
}
