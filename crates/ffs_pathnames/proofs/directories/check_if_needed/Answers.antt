use Rattle.std.proofs.Common.{refl, sym, ap, ◌∙◌, ◌≡◌, ◌==◌, ℕ, List, true, map, [], slice_index, arith}
use Rattle.std.proofs.lemmas.{Bool.{and_parts, both_ways}, Result.IfOk-weaker}
use Rattle.ffs_image.specs.Device.{Device}
use Rattle.ffs_volume.specs.{declared.Layout.Layout, Messages.Kinds.of_tree}
use Rattle.ffs_workspace.{specs.declared.workspace.Workspace.Workspace, proofs.Leaving.leaves_all}
use Rattle.ffs_report.proofs.{Paying.paid_none, Reporting.{of_begins, of_same, reports_same, reports_knowing}}
use Rattle.ffs_pathnames.proofs.Carrying.{directory_context, lines_looked, lines_skipped, noted_next, before_skipped}
use Rattle.ffs_pathnames.specs.ReadsLeft.{KnowsForBoth, KnowsForNext}
use Rattle.ffs_pathnames.proofs.directories.check_if_needed.Goals as goal

-- what is known of a directory that is looked at
both : {v : Layout} {device : Device} {w : Workspace} {d left : ℕ} {b : List ℕ} →
    (slice_index w.kinds.items d == 4) ≡ true → KnowsForNext v device w d left b → KnowsForBoth v device w d left b
both looked k = record { knows = directory_context looked k.0; passed = k.0.before.passed; enough = k.1 }

pub returns-then-needs_check-clause-lines : goal.returns-then-needs_check-clause-lines
returns-then-needs_check-clause-lines g c =
    let looked = (and_parts _ _ (sym c.needs_check.ensures ∙ c.if-needs_check.true)).0 in
    let checked = c.check_directory.ensures.lines in
    record {
      text = reports_same (Unit {0}) _ _ _ _ _ c.check_directory.result
          (λ b k. sym (ap (map of_tree) (lines_looked looked k.0.before)))
          (reports_knowing (Unit {0}) _ _ _ _ _ c.check_directory.result (λ b k. both looked k) checked.text);
      reads = λ b k noted. rw (lines_looked looked k.0.before) (checked.reads b (both looked k) noted);
      spends = λ b k. checked.spends b (both looked k);
      paid = checked.paid;
      holds = IfOk-weaker c.check_directory.result _ _
          (λ x h b k. (
            noted_next refl checked.leaves.survey checked.leaves.places (h b (both looked k)).0 k.0,
            (h b (both looked k)).1,
          ))
          checked.holds;
      leaves = checked.leaves;
    }

pub returns-clause-lines : goal.returns-clause-lines
returns-clause-lines g c =
    let other = sym c.needs_check.ensures ∙ c.if-needs_check.false in
    let ready = c.requires.path in
    record {
      text = of_same {rest' = λ b. []} of_begins (λ b k. lines_skipped c.requires.low other k.0.before);
      reads = λ b k noted. omega arith;
      spends = λ b k. omega arith;
      paid = paid_none (omega arith);
      holds = λ b k. (
        record { before = before_skipped c.args.geometry.now.sound other k.0.before; noted = k.0.noted },
        λ x set. set,
      );
      leaves = record {
        image = refl;
        survey = leaves_all _;
        places = λ x. refl;
        ready = record { ready = ready.ready; kept_parent = ready.kept_parent };
      };
    }

-- what needs no check isn't read
pub returns-then-needs_check-clause-skipped : goal.returns-then-needs_check-clause-skipped
returns-then-needs_check-clause-skipped g c = λ no.
    absurd (both_ways _ no (sym c.needs_check.ensures ∙ c.if-needs_check.true))
