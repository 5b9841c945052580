use Rattle.std.proofs.{Common.{arith, ◌≡◌, ◌≤◌, List, ℕ, length}, lemmas.Result.err_from_is_err_and}
use Rattle.ffs_volume.specs.Directories.{PathnameCheck.extra_lines, Volumes.volume_of}
use Rattle.ffs_layout.specs.Entry.{entry_value}
use Rattle.ffs_pathnames.proofs.{EntryReports.{entry_unread, entry_said, entry_stopped}, LineCounts.extra_some}
use Rattle.ffs_pathnames.proofs.one_entry.report_extra.{Given.Over, Goals.{After-gather_extra, After-say_extra}}
use Rattle.ffs_pathnames.specs.{KnowsAtDirectory.KnowsPath, Gathers.extra_reported}
use Rattle.ffs_pathnames.proofs.one_entry.report_extra.Goals as goal

some_line : (g : Over) (c : After-gather_extra g) (b : List ℕ) →
    1 ≤ length (extra_reported (volume_of c.args.geometry.now.layout b) c.args.entry.now)
some_line g c b = extra_some _ _ (entry_value c.args.entry.now.entry)

-- the line is that of what was gathered
line_is : (g : Over) (c : After-say_extra g) (b : List ℕ) → KnowsPath c.args.geometry.now.layout
    (g.I.Image.device c.args.image.now).contents c.args.workspace.now c.args.entry.now.dir c.args.texts.now b →
    extra_reported (volume_of c.args.geometry.now.layout b) c.args.entry.now
    ≡ extra_lines c.in_ok-attr.attr c.as_slice.result.now (entry_value c.args.entry.now.entry)
line_is g c b k = grind arith

pub returns-in_err-attr-clause-lines : goal.returns-in_err-attr-clause-lines
returns-in_err-attr-clause-lines g c =
    let at = goal.at.returns-in_err-attr-clause-lines g c in
    let p = err_from_is_err_and c.from_residual.result c.from_residual.ensures.1 in
    rw (p.1, p.2) (entry_unread c.gather_extra.ensures.path c.in_err-attr.ensures.leaves c.in_err-attr.ensures.once.stays
    c.in_err-attr.ensures.once.once
    (λ b k. some_line g at.After-gather_extra b))

pub returns-in_err-say_extra-clause-lines : goal.returns-in_err-say_extra-clause-lines
returns-in_err-say_extra-clause-lines g c =
    let at = goal.at.returns-in_err-say_extra-clause-lines g c in
    let p = err_from_is_err_and c.from_residual-in_err-say_extra.result c.from_residual-in_err-say_extra.ensures.1 in
    rw (p.1, p.2) (entry_stopped c.gather_extra.ensures.path c.in_ok-attr.ensures.leaves c.in_ok-attr.ensures.once.stays
    c.in_ok-attr.ensures.once.once
    (λ b k. some_line g at.After-gather_extra b) _
    (extra_some c.in_ok-attr.attr c.as_slice.result.now (entry_value c.args.entry.now.entry))
    (line_is g at.After-say_extra) c.in_err-say_extra.ensures)

pub returns-clause-lines : goal.returns-clause-lines
returns-clause-lines g c =
    let at = goal.at.returns-clause-lines g c in
    entry_said c.gather_extra.ensures.path c.in_ok-attr.ensures.leaves c.in_ok-attr.ensures.once.stays
    c.in_ok-attr.ensures.once.once (λ b k. some_line g at.After-gather_extra b) _
    (extra_some c.in_ok-attr.attr c.as_slice.result.now (entry_value c.args.entry.now.entry))
    (line_is g at.After-say_extra) c.in_ok-say_extra.ensures
