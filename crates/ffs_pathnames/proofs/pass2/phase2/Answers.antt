use Rattle.std.proofs.Common.{[], ◌∷◌, List, ℕ, refl, ap, ◌∙◌, inl, inr, arith, ◌≡◌, ◌*◌, OnOk, Result, Ok, Err, IfOk, map}
use Rattle.std.proofs.{Common.{sym, true, false}, lemmas.{Bool.both_ways, Result.err_from_is_err_and}}
use Rattle.ffs_image.specs.{Device.Device, Known.ForBytes}
use Rattle.ffs_report.proofs.Reporting.{heading_alone, heading_part, heading_reads, of_reads, of_last, reports_knowing}
use Rattle.ffs_report.proofs.{Reporting.{says_heading, stops_heading}, Paying.{paid_said, paid_text, paid_then}}
use Rattle.ffs_report.specs.{Progress.{Progress, Said}, declared.fault.RunFault.{RunFault, TheVariants.{Read, Out}}}
use Rattle.ffs_report.proofs.Reports.{said_then}
use Rattle.ffs_volume.specs.{Messages.Kinds.{phase2, Message, of_tree}, declared.Layout.Layout}
use Rattle.ffs_volume.{proofs.RunBounds.runs_bounded, specs.Directories.PathnameCheck.pathname_lines}
use Rattle.ffs_volume.{specs.Directories.Volumes.volume_of, proofs.Results.{fails_with, at_error}}
use Rattle.ffs_pathnames.specs.{declared.pass2.Root.{Root, TheVariants.{Go, Stop}}, Before.KnowsBefore}
use Rattle.ffs_pathnames.specs.{Phase2.Phase2Ends, RootAnswers.{AnswersRoot, SaidStop, is_go}}
use Rattle.ffs_pathnames.proofs.{Carrying.{before_first, goes_is, references_on}, SilentLaws.calm_silent}
use Rattle.ffs_pathnames.proofs.{pass2.phase2.{Given.Over, Goals.After-check_tree}, ChecksNeededLaws.looked_at_first}
use Rattle.ffs_names.{proofs.{DirCosts.noted_all_within, RunSums.costs_bounded}, specs.Surveys.SurveysNoMore}
use Rattle.ffs_workspace.specs.{declared.workspace.Workspace.Workspace, Found.WithBlockCheck, Holds.HoldsBlockCheck}
use Rattle.ffs_workspace.{specs.Holds.{HoldsFindings, HoldsReferences, HoldsSurvey}, proofs.Leaving.block_check_kept}
use Rattle.ffs_workspace.proofs.Leaving.{block_check_more, claims_left, findings_claims}
use Rattle.ffs_pathnames.proofs.pass2.phase2.Goals as goal

-- what is known before the first directory
before_tree : (g : Over) (c : After-check_tree g) (b : List ℕ) →
    WithBlockCheck c.args.geometry.now.layout (g.I.Image.device c.args.image.now) c.args.workspace.now b →
    KnowsBefore c.args.geometry.now.layout (g.I.Image.device c.survey.new.image).contents
    c.clear_passed_and_windows.new.workspace 2 b
before_tree g c b k =
    let v = c.args.geometry.now.layout in
    let found = c.in_ok-survey.ensures in
    let clear = c.clear_passed_and_windows.ensures in
    let claims = (found.survey b k).block_check in
    before_first v _ b _ _ (ap (λ d. d.contents) found.leaves.read ∙ k.0) claims (found.survey b k).survey
    (clear.ready v _ found.leaves.ready).ready.made clear
    (calm_silent v b _ c.args.geometry.now.sound found.leaves.ready.made claims (found.survey b k).survey
    (found.survey b k).calm)

-- and what is held after the last one
found_after : (g : Over) (c : After-check_tree g) (b : List ℕ) →
    WithBlockCheck c.args.geometry.now.layout (g.I.Image.device c.args.image.now) c.args.workspace.now b →
    HoldsFindings c.args.geometry.now.layout b c.check_tree.new.workspace
found_after g c b k =
    let tree = c.check_tree.ensures.tree in
    let left = tree.holds b (before_tree g c b k) in
    record {
      block_check = left.0;
      survey = left.1;
      references = references_on c.args.geometry.now.layout b _ _
          (tree.findings.references ∙ c.clear_passed_and_windows.ensures.survey.findings.references)
          (c.in_ok-survey.ensures.survey b k).references;
    }

-- the phase ends as the check of the tree does
ends_by : (v : Layout) (d d' : Device) (old w new : Workspace) (before after : Progress) (r : Result Root RunFault) →
    ForBytes (WithBlockCheck v d old) (KnowsBefore v d'.contents w 2) →
    ForBytes (WithBlockCheck v d old) (λ b. HoldsFindings v b new) → AnswersRoot v d' w r →
    IfOk r (λ root. is_go root ≡ false → SaidStop (WithBlockCheck v d old) (phase2 ∷ [])
    (λ b. phase2 ∷ map of_tree (pathname_lines (volume_of v b))) before after) → Phase2Ends v d old new before after r
ends_by v d d' old w new before after (Ok Go) more found answer stop = λ b k. (sym (answer b (more b k)), found b k)
ends_by v d d' old w new before after (Ok Stop) more found answer stop =
    (λ b k. (sym (answer b (more b k)), found b k), stop refl)
ends_by v d d' old w new before after (Err (Read fault)) more found answer stop =
    (inr (λ b k. answer b (more b k)), λ e. found)
ends_by v d d' old w new before after (Err (Out fault)) more found answer stop = λ b k. (found b k).block_check

-- after the heading the root's message is said
stop_after : (v : Layout) (d d' : Device) (old w : Workspace) (a b c : Progress) (r : Result Root RunFault) →
    ForBytes (WithBlockCheck v d old) (KnowsBefore v d'.contents w 2) → Said a b (phase2 ∷ []) →
    IfOk r (λ root. is_go root ≡ false → SaidStop (KnowsBefore v d'.contents w 2) []
    (λ b. map of_tree (pathname_lines (volume_of v b))) b c) →
    IfOk r (λ root. is_go root ≡ false → SaidStop (WithBlockCheck v d old) (phase2 ∷ [])
    (λ b. phase2 ∷ map of_tree (pathname_lines (volume_of v b))) a c)
stop_after v d d' old w a b c (Ok root) more heading stop = λ ends.
    let one = stop ends in
    record {
      last = one.last;
      stops = one.stops;
      right = λ bytes k. ap (λ (ms : List Message). phase2 ∷ ms) (one.right bytes (more bytes k));
      said = said_then a b c (phase2 ∷ []) (one.last ∷ []) heading one.said;
    }
stop_after v d d' old w a b c (Err fault) more heading stop = tt

pub returns-in_err-say-clause-text : goal.returns-in_err-say-clause-text
returns-in_err-say-clause-text g c =
    rw (fails_with _ c.from_residual.ensures.1) (stops_heading c.in_err-say.ensures.said)

pub returns-in_err-say-clause-ends : goal.returns-in_err-say-clause-ends
returns-in_err-say-clause-ends g c = rw (fails_with _ c.from_residual.ensures.1) (λ b k. k.1)

pub returns-in_err-survey-clause-ends : goal.returns-in_err-survey-clause-ends
returns-in_err-survey-clause-ends g c =
    rw (fails_with _ c.from_residual-in_err-survey.ensures.1) (
      inl c.in_ok-say.ensures.said,
      λ e. absurd (both_ways c.survey.new.workspace.surveyed c.in_err-survey.ensures.leaves.unsurveyed e),
    )

pub returns-in_err-survey-clause-text : goal.returns-in_err-survey-clause-text
returns-in_err-survey-clause-text g c =
    rw (fails_with _ c.from_residual-in_err-survey.ensures.1)
    (of_reads (says_heading (λ b k. refl) c.in_ok-say.ensures.said))

pub returns-clause-text : goal.returns-clause-text
returns-clause-text g c =
    of_last Root _ _ _ _ _ _ _ c.check_tree.result (says_heading (λ b k. refl) c.in_ok-say.ensures.said) (λ b k. refl) (reports_knowing Root _ _ _ _ _ c.check_tree.result
    (λ b k. before_tree g (goal.at.returns-clause-text g c).After-check_tree b k) c.check_tree.ensures.tree.text)

pub returns-clause-ends : goal.returns-clause-ends
returns-clause-ends g c =
    let v = c.args.geometry.now.layout in
    let d = g.I.Image.device c.args.image.now in
    let d' = g.I.Image.device c.survey.new.image in
    let tree = (goal.at.returns-clause-ends g c).After-check_tree in
    ends_by v d d' _ c.clear_passed_and_windows.new.workspace _ _ _ c.check_tree.result (before_tree g tree)
    (found_after g tree) c.check_tree.ensures.root
    (stop_after v d d' _ c.clear_passed_and_windows.new.workspace _ _ _ c.check_tree.result (before_tree g tree)
    c.in_ok-say.ensures.said c.check_tree.ensures.stop)

-- its heading, of any image
pub returns-in_err-survey-clause-heading : goal.returns-in_err-survey-clause-heading
returns-in_err-survey-clause-heading g c = grind (arith, err_from_is_err_and, heading_alone, heading_reads)

pub returns-clause-heading : goal.returns-clause-heading
returns-clause-heading g c = heading_part _ _ c.check_tree.result
    (heading_alone {x = tt {0}} c.in_ok-say.ensures.said) c.check_tree.ensures.tree.text

pub check_tree-requires : goal.check_tree-requires
check_tree-requires g c = c.clear_passed_and_windows.ensures.ready _ _ c.in_ok-survey.ensures.leaves.ready

-- what the block check left
pub returns-in_err-say-clause-block_check : goal.returns-in_err-say-clause-block_check
returns-in_err-say-clause-block_check g c = block_check_kept _

pub returns-in_err-survey-clause-block_check : goal.returns-in_err-survey-clause-block_check
returns-in_err-survey-clause-block_check g c = c.survey.ensures.leaves.same

pub returns-clause-block_check : goal.returns-clause-block_check
returns-clause-block_check g c =
    let surveyed = block_check_more _ _ _ c.in_ok-survey.ensures.leaves.same
    c.clear_passed_and_windows.ensures.survey.findings.block_check in
    block_check_more _ _ _ surveyed c.check_tree.ensures.tree.findings.block_check

-- a survey that was made before is made still
unmade_before : {reads reads' : ℕ} (old new : Workspace) → (old.surveyed ≡ true → SurveysNoMore reads reads' old new) →
    new.surveyed ≡ false → old.surveyed ≡ false
unmade_before old new again unmade = grind (arith, ap)

pub returns-in_err-say-clause-surveyed : goal.returns-in_err-say-clause-surveyed
returns-in_err-say-clause-surveyed g c =
    rw (fails_with _ c.from_residual.ensures.1) (λ unmade. (unmade, λ b k. (refl, c.in_err-say.ensures.said)))

pub returns-in_err-survey-clause-surveyed : goal.returns-in_err-survey-clause-surveyed
returns-in_err-survey-clause-surveyed g c = rw (fails_with _ c.from_residual-in_err-survey.ensures.1) (λ unmade. (
  unmade_before c.args.workspace.now c.survey.new.workspace c.survey.ensures.again unmade,
  λ b k. (refl, c.in_ok-say.ensures.said),
))

pub returns-clause-surveyed : goal.returns-clause-surveyed
returns-clause-surveyed g c = λ unmade.
    let cleared = c.clear_passed_and_windows.ensures.survey.findings in
    let left = c.check_tree.ensures.tree.findings.surveyed ∙ cleared.surveyed in
    let first = sym left ∙ unmade in (
      unmade_before c.args.workspace.now c.survey.new.workspace c.survey.ensures.again first,
      λ b k. absurd (both_ways _ first (c.in_ok-survey.ensures.survey b k).surveyed),
    )

-- how often the image was read
pub returns-in_err-say-clause-reads : goal.returns-in_err-say-clause-reads
returns-in_err-say-clause-reads g c = record {
  known = λ b k. omega arith;
  directories = λ b k. omega arith;
  looked_at = λ first b k. omega arith;
  surveyed_before = λ second b k. omega arith;
  stopped = λ b k ends. omega arith;
}

pub returns-in_err-say-clause-paid : goal.returns-in_err-say-clause-paid
returns-in_err-say-clause-paid g c = paid_text _ _ _ (returns-in_err-say-clause-text g c) (omega arith)

pub returns-in_err-survey-clause-reads : goal.returns-in_err-survey-clause-reads
returns-in_err-survey-clause-reads g c = record {
  known = grind (arith, costs_bounded, runs_bounded);
  directories = λ b k.
      let v = c.args.geometry.now.layout in
      omega (arith, c.survey.ensures.reads.each b k, noted_all_within v b (v.ncg * v.ipg));
  looked_at = λ first b k. omega (arith, c.survey.ensures.reads.each b k);
  surveyed_before = λ second b k. let unread = (c.survey.ensures.again second).unread in omega (arith, unread);
  stopped = λ b k ends. omega (arith, c.survey.ensures.reads.each b k);
}

pub returns-in_err-survey-clause-paid : goal.returns-in_err-survey-clause-paid
returns-in_err-survey-clause-paid g c =
    paid_text _ _ _ (returns-in_err-survey-clause-text g c) (omega (arith, c.survey.ensures.reads.most))

pub returns-clause-reads : goal.returns-clause-reads
returns-clause-reads g c = record {
  known = grind (arith, costs_bounded, runs_bounded, before_tree);
  directories = λ b k.
      let before = before_tree g (goal.at.returns-clause-reads g c).After-check_tree b k in
      let v = c.args.geometry.now.layout in
      let sweep = noted_all_within v b (v.ncg * v.ipg) in
      omega (arith, c.survey.ensures.reads.each b k, c.check_tree.ensures.tree.reads b before, sweep);
  looked_at = λ first b k.
      let before = before_tree g (goal.at.returns-clause-reads g c).After-check_tree b k in
      let v = c.args.geometry.now.layout in
      let claims = (c.in_ok-survey.ensures.survey b k).block_check in
      let flags = c.in_ok-survey.ensures.flags first b k in
      let checks = looked_at_first v b c.survey.new.workspace c.clear_passed_and_windows.new.workspace claims flags
      c.clear_passed_and_windows.ensures in
      omega (arith, c.survey.ensures.reads.each b k, c.check_tree.ensures.tree.looks b before checks);
  surveyed_before = λ second b k.
      let before = before_tree g (goal.at.returns-clause-reads g c).After-check_tree b k in
      let unread = (c.survey.ensures.again second).unread in
      omega (arith, unread, c.check_tree.ensures.tree.reads b before);
  stopped = λ b k ends.
      let before = before_tree g (goal.at.returns-clause-reads g c).After-check_tree b k in
      let v = c.args.geometry.now.layout in
      let other = goes_is v b c.clear_passed_and_windows.new.workspace _ refl before.block_check ∙ ends in
      let unread = c.check_tree.ensures.unread other in
      omega (arith, c.survey.ensures.reads.each b k, unread);
}

pub returns-clause-paid : goal.returns-clause-paid
returns-clause-paid g c = paid_then
    (paid_said (phase2 ∷ []) c.in_ok-say.ensures.said (omega (arith, c.survey.ensures.reads.most)))
    c.check_tree.ensures.tree.paid
