use Rattle.std.proofs.Common.{◌≡◌, ◌≤◌, ◌++◌, ◌+◌, ◌*◌, Bool, slice_index, [], List, ℕ, map, refl, ap, sym, ◌∙◌}
use Rattle.std.proofs.Common.{append-nil, true, false, arith, length, Result, Err, inl, inr, ◌∷◌, ◌==◌}
use Rattle.std.proofs.lemmas.Bool.{both_ways, cases_Bool}
use Rattle.ffs_workspace.specs.{Moments.WorkMoment, Holds.HoldsBlockCheck, Ready.CanRead}
use Rattle.ffs_workspace.specs.declared.workspace.Workspace.{Workspace}
use Rattle.ffs_pathnames.{proofs.{Findings.findings_kept, LineCounts.lines_long}, specs.Before.KnowsBefore}
use Rattle.ffs_pathnames.proofs.Carrying.{goes_is, root_kind_is, root_marked_is, tree_is, tree_lines}
use Rattle.ffs_pathnames.{specs.RootAnswers.{root_reported, AnswersRoot}, proofs.pass2.check_tree.Given.Over}
use Rattle.ffs_pathnames.{proofs.pass2.check_tree.Goals.After-report_root, specs.DirectoryLines.ReportsTree}
use Rattle.ffs_pathnames.{proofs.Begun.image_same, specs.declared.pass2.Root.Root}
use Rattle.ffs_volume.specs.{Encodings.Kinds.is_dir_kind, Directories.{Roles.Volume, Volumes.volume_of}}
use Rattle.ffs_volume.specs.Messages.Kinds.{of_tree, TreeMessage, Message, of_directory, stops_check}
use Rattle.ffs_volume.specs.{Directories.PathnameCheck.{continues_after_root, pathname_lines}, Report.Reads.line_reads}
use Rattle.ffs_volume.specs.declared.{Layout.Layout, tree_lines.DirectoryLine.TheVariants.{RootNone, RootNotDir}}
use Rattle.ffs_volume.proofs.Results.{fails_with}
use Rattle.ffs_report.proofs.{Reporting.{of_begins, of_says, of_stops, of_part, of_fault}, Paying.paid_said}
use Rattle.ffs_report.{proofs.Paying.{paid_answer, paid_fault, paid_text, paid_then}, specs.PhaseOutcome.ImageAfter}
use Rattle.ffs_report.specs.{PhaseOutcome.PhaseReports, Progress.Progress, declared.fault.RunFault.RunFault}
use Rattle.ffs_report.specs.declared.fault.RunFault.TheVariants.{Read, Out}
use Rattle.ffs_image.specs.{Known.ForBytes, Device.Device}
use Rattle.ffs_pathnames.proofs.pass2.check_tree.Goals as goal

-- what the kind of the root that was read says
kind_is : (g : Over) (c : After-report_root g) →
    c.index-kind.result.now ≡ slice_index c.args.workspace.now.kinds.items 2
kind_is g c = grind (arith, root_kind_is)

-- the lines, by the root's and by those of the tree
lines_are : (g : Over) (c : After-report_root g) (b : List ℕ) (goes : Bool) →
    HoldsBlockCheck c.args.geometry.now.layout b c.args.workspace.now → goes ≡ is_dir_kind c.index-kind.result.now →
    map of_tree (pathname_lines (volume_of c.args.geometry.now.layout b))
    ≡ map of_tree (root_reported c.index-kind.result.now c.index-marked.result.now)
    ++ map of_tree (tree_lines c.args.geometry.now.layout b goes)
lines_are g c b goes h q = search (arith, tree_is, kind_is, root_marked_is)

-- the answer is that of the volume
goes : (g : Over) (c : After-report_root g) (b : List ℕ) →
    KnowsBefore c.args.geometry.now.layout (g.I.Image.device c.args.image.now).contents c.args.workspace.now 2 b →
    is_dir_kind c.index-kind.result.now ≡ continues_after_root (volume_of c.args.geometry.now.layout b)
goes g c b k = goes_is c.args.geometry.now.layout b c.args.workspace.now _ (kind_is g c) k.block_check

-- a read failed where the run continues
read_where_goes : {v : Layout} (d : Device) {w : Workspace} (fault : RunFault) →
    ForBytes (KnowsBefore v d.contents w 2) (λ b. continues_after_root (volume_of v b) ≡ true) →
    AnswersRoot v d w (Err fault)
read_where_goes d (Read fault) on = on
read_where_goes d (Out fault) on = tt

pub returns-in-Stop-clause-root : goal.returns-in-Stop-clause-root
returns-in-Stop-clause-root g c = λ b k.
    c.in-Stop.ensures ∙ goes g (goal.at.returns-in-Stop-clause-root g c).After-report_root b k

pub returns-in_err-check_directories-in-Go-clause-root : goal.returns-in_err-check_directories-in-Go-clause-root
returns-in_err-check_directories-in-Go-clause-root g c =
    let at = (goal.at.returns-in_err-check_directories-in-Go-clause-root g c).After-report_root in
    rw (fails_with _ c.from_residual-in_err-check_directories-in-Go.ensures.1)
    (read_where_goes (g.I.Image.device c.args.image.now) c.in_err-check_directories-in-Go.field-0.0
    (λ b k. sym (c.in-Go.ensures ∙ goes g at b k)))

pub returns-in_ok-check_directories-in-Go-clause-root : goal.returns-in_ok-check_directories-in-Go-clause-root
returns-in_ok-check_directories-in-Go-clause-root g c = λ b k.
    c.in-Go.ensures ∙ goes g (goal.at.returns-in_ok-check_directories-in-Go-clause-root g c).After-report_root b k

-- the root's line reads nothing
few_more : (all root tree : List TreeMessage) (before after cost : ℕ) →
    map of_tree all ≡ map of_tree root ++ map of_tree tree → after ≤ before + (cost + line_reads * length tree) →
    after ≤ before + (cost + line_reads * length all)
few_more all root tree before after cost is few = let long = lines_long _ _ _ is in omega (arith, few, long)

-- what is said, what is read for it, and what is left, where nothing is read
only_said : {T : Type 0} {v : Layout} {d : Device} {w : Workspace} {lines : Volume → List TreeMessage}
    {said said' : Progress} {count : ℕ} (r : Result T RunFault) → ImageAfter d d r → CanRead v d w →
    PhaseReports (KnowsBefore v d.contents w 2) (λ b. map of_tree (lines (volume_of v b))) said said' r →
    let at : WorkMoment = record { image = d; reads = count; workspace = w } in
    ReportsTree v lines (record { at = at; report = said; kept = tt }) (record { at = at; report = said'; kept = tt }) r
only_said {w = w} r image ready text = let kept = findings_kept w in grind (arith, paid_text)

pub returns-in_err-report_root-clause-tree : goal.returns-in_err-report_root-clause-tree
returns-in_err-report_root-clause-tree g c =
    let at = (goal.at.returns-in_err-report_root-clause-tree g c).After-report_root in
    rw (fails_with _ c.from_residual.ensures.1) (only_said _ refl c.requires (of_stops _ _ _ _ _ _ _ _ of_begins
    (λ b k. lines_are g at b _ k.block_check refl) c.in_err-report_root.ensures))

pub returns-in-Stop-clause-tree : goal.returns-in-Stop-clause-tree
returns-in-Stop-clause-tree g c =
    let at = (goal.at.returns-in-Stop-clause-tree g c).After-report_root in
    only_said _ refl c.requires (of_says {rest' = λ b. []} of_begins
    (λ b k. lines_are g at b false k.block_check c.in-Stop.ensures) c.in_ok-report_root.ensures)

pub returns-in_err-check_directories-in-Go-clause-tree : goal.returns-in_err-check_directories-in-Go-clause-tree
returns-in_err-check_directories-in-Go-clause-tree g c =
    let at = goal.at.returns-in_err-check_directories-in-Go-clause-tree g c in
    let tree = c.in_err-check_directories-in-Go.ensures.tree in
    let fault = c.in_err-check_directories-in-Go.field-0.0 in
    rw (fails_with _ c.from_residual-in_err-check_directories-in-Go.ensures.1) (record {
      text = of_fault (Unit {0}) (Unit {0}) _ _ _ (λ b. []) _ _ _ _ fault
          (of_says of_begins
          (λ b k. lines_are g at.After-report_root b true k.block_check c.in-Go.ensures) c.in_ok-report_root.ensures)
          (λ b k. sym (append-nil _)) tree.text;
      reads = λ b k. few_more _ _ _ _ _ _ (lines_are g at.After-report_root b true k.block_check c.in-Go.ensures) (tree.reads b k);
      looks = λ b k checks. few_more _ _ _ _ _ _ (lines_are g at.After-report_root b true k.block_check c.in-Go.ensures)
          (tree.looks b k checks);
      paid = paid_fault fault
          (paid_then (paid_said _ c.in_ok-report_root.ensures (omega arith)) tree.paid);
      image = image_same (Unit {0}) Root _ _ _ fault refl tree.image;
      holds = tree.holds;
      findings = tree.findings;
      ready = tree.ready;
    })

pub returns-in_ok-check_directories-in-Go-clause-tree : goal.returns-in_ok-check_directories-in-Go-clause-tree
returns-in_ok-check_directories-in-Go-clause-tree g c =
    let at = goal.at.returns-in_ok-check_directories-in-Go-clause-tree g c in
    let tree = c.in_ok-check_directories-in-Go.ensures.tree in
    record {
      text = of_part {rest' = λ b. []}
          (of_says of_begins
          (λ b k. lines_are g at.After-report_root b true k.block_check c.in-Go.ensures) c.in_ok-report_root.ensures)
          (λ b k. sym (append-nil _)) tree.text;
      reads = λ b k. few_more _ _ _ _ _ _ (lines_are g at.After-report_root b true k.block_check c.in-Go.ensures) (tree.reads b k);
      looks = λ b k checks. few_more _ _ _ _ _ _ (lines_are g at.After-report_root b true k.block_check c.in-Go.ensures)
          (tree.looks b k checks);
      paid = paid_answer
          (paid_then (paid_said _ c.in_ok-report_root.ensures (omega arith)) tree.paid);
      image = tree.image;
      holds = tree.holds;
      findings = tree.findings;
      ready = tree.ready;
    }

-- the root's message, where the check stops after it
record StopLine (kind : ℕ) (marked : Bool) : Type 0 where
  pub line : Message
  pub stops : stops_check line ≡ true
  pub alone : map of_tree (root_reported kind marked) ≡ line ∷ []

stop_line : (kind : ℕ) (marked : Bool) → false ≡ is_dir_kind kind → StopLine kind marked
unfolding root_reported
stop_line kind marked other = elim (cases_Bool (kind == 0)) [
  | inl e ↦ record { line = of_tree (of_directory RootNone); stops = refl; alone = rw e refl }
  | inr e ↦ record { line = of_tree (of_directory RootNotDir); stops = refl; alone = rw (e, sym other) refl }
]

pub returns-in-Stop-clause-stop : goal.returns-in-Stop-clause-stop
returns-in-Stop-clause-stop g c = λ _.
    let at = (goal.at.returns-in-Stop-clause-stop g c).After-report_root in
    let one = stop_line c.index-kind.result.now c.index-marked.result.now c.in-Stop.ensures in
    record {
      last = one.line;
      stops = one.stops;
      right = λ b k. sym one.alone ∙ sym (append-nil _) ∙ sym (lines_are g at b false k.block_check c.in-Stop.ensures);
      said = rw one.alone at c.in_ok-report_root.ensures;
    }

-- where the root isn't a directory, no directory is checked
pub returns-in_err-check_directories-in-Go-clause-unread : goal.returns-in_err-check_directories-in-Go-clause-unread
returns-in_err-check_directories-in-Go-clause-unread g c = λ other.
    let at = (goal.at.returns-in_err-check_directories-in-Go-clause-unread g c).After-report_root in
    absurd (both_ways _ (ap is_dir_kind (kind_is g at) ∙ other) (sym c.in-Go.ensures))

pub returns-in_ok-check_directories-in-Go-clause-unread : goal.returns-in_ok-check_directories-in-Go-clause-unread
returns-in_ok-check_directories-in-Go-clause-unread g c = λ other.
    let at = (goal.at.returns-in_ok-check_directories-in-Go-clause-unread g c).After-report_root in
    absurd (both_ways _ (ap is_dir_kind (kind_is g at) ∙ other) (sym c.in-Go.ensures))
