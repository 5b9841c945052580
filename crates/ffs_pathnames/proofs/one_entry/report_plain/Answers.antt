use Rattle.std.proofs.{Common.{arith, sym, ap, ◌∙◌, ℕ, List, map, ◌≡◌, ◌≤◌, length}, lemmas.Result.err_from_is_err_and}
use Rattle.ffs_volume.specs.{Messages.Kinds.of_tree, Directories.{Volumes.volume_of, PathnameCheck.plain_lines}}
use Rattle.ffs_volume.{specs.Directories.PathnameCheck.verdict_lines, proofs.VerdictLaws.{silent_lines, some_lines}}
use Rattle.ffs_layout.specs.Entry.{entry_value}
use Rattle.ffs_report.proofs.{Paying.paid_none, Reporting.says_none}
use Rattle.ffs_pathnames.specs.{Gathers.plain_lines_by, KnowsAtDirectory.{KnowsAtDirectory, KnowsPath}}
use Rattle.ffs_pathnames.proofs.{LineCounts.few_none, EntryReports.{entry_unread, entry_said, entry_stopped}}
use Rattle.ffs_pathnames.proofs.one_entry.report_plain.{Given.Over, Goals.{After-gather_entry, After-say_verdict}}
use Rattle.ffs_pathnames.proofs.one_entry.report_plain.Goals as goal

-- a verdict that isn't silent has a line
some_line : (g : Over) (c : After-gather_entry g) (b : List ℕ) → KnowsAtDirectory c.args.geometry.now.layout
    (g.I.Image.device c.args.image.now).contents c.args.workspace.now c.args.entry.now.dir b →
    1 ≤ length (plain_lines_by (volume_of c.args.geometry.now.layout b) c.args.workspace.now c.args.entry.now)
some_line g c b k = grind arith

-- the lines are those of what was gathered
lines_are : (g : Over) (c : After-say_verdict g) (b : List ℕ) → KnowsPath c.args.geometry.now.layout
    (g.I.Image.device c.args.image.now).contents c.args.workspace.now c.args.entry.now.dir c.args.texts.now b →
    plain_lines_by (volume_of c.args.geometry.now.layout b) c.args.workspace.now c.args.entry.now
    ≡ verdict_lines c.verdict_of-verdict.result c.args.entry.now.entry.number c.in_ok-attr.attr c.last.result.now
    c.as_slice.result.now
lines_are g c b k = grind arith

pub returns-then-is_silent-clause-lines : goal.returns-then-is_silent-clause-lines
returns-then-is_silent-clause-lines g c = record {
  text = says_none (λ b k. ap (map of_tree) (ap (plain_lines (volume_of c.args.geometry.now.layout b) c.args.entry.now.dir
      (entry_value c.args.entry.now.entry)) (sym (c.verdict_of-verdict.ensures.verdict c.args.geometry.now.layout b
      c.requires.ready.ready.ready.made k.knows.block_check k.knows.survey))
      ∙ silent_lines c.verdict_of-verdict.result _ _ _ _ (sym c.is_silent.ensures ∙ c.if-is_silent.true)));
  path = λ b k. k.path;
  settled = λ settled. settled;
  once = λ b k noted. omega arith;
  counted = λ b k noted. few_none;
  paid = paid_none (omega arith);
}

pub returns-in_err-attr-clause-lines : goal.returns-in_err-attr-clause-lines
returns-in_err-attr-clause-lines g c =
    let p = err_from_is_err_and c.from_residual.result c.from_residual.ensures.1 in
    rw (p.1, p.2) (entry_unread c.gather_entry.ensures.path c.in_err-attr.ensures.leaves c.in_err-attr.ensures.once.stays
    c.in_err-attr.ensures.once.once
    (some_line g (goal.at.returns-in_err-attr-clause-lines g c).After-gather_entry))

pub returns-in_err-say_verdict-clause-lines : goal.returns-in_err-say_verdict-clause-lines
returns-in_err-say_verdict-clause-lines g c =
    let at = goal.at.returns-in_err-say_verdict-clause-lines g c in
    let p = err_from_is_err_and c.from_residual-in_err-say_verdict.result
    c.from_residual-in_err-say_verdict.ensures.1 in
    rw (p.1, p.2) (entry_stopped c.gather_entry.ensures.path c.in_ok-attr.ensures.leaves c.in_ok-attr.ensures.once.stays
    c.in_ok-attr.ensures.once.once
    (some_line g at.After-gather_entry) _ (some_lines c.verdict_of-verdict.result _ _ _ _ (sym c.is_silent.ensures ∙ c.if-is_silent.false))
    (lines_are g at.After-say_verdict) c.in_err-say_verdict.ensures)

pub returns-clause-lines : goal.returns-clause-lines
returns-clause-lines g c =
    let at = goal.at.returns-clause-lines g c in
    entry_said c.gather_entry.ensures.path c.in_ok-attr.ensures.leaves c.in_ok-attr.ensures.once.stays
    c.in_ok-attr.ensures.once.once (some_line g at.After-gather_entry) _
    (some_lines c.verdict_of-verdict.result _ _ _ _ (sym c.is_silent.ensures ∙ c.if-is_silent.false))
    (lines_are g at.After-say_verdict) c.in_ok-say_verdict.ensures
