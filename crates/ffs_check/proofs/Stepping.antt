-- One phase after another: for each phase a lemma on the stage that it leaves, and one on a fault in it.
use Rattle.std.proofs.Common.{◌≡◌, ◌<◌, ◌≤◌, ◌+◌, ◌*◌, ◌∙◌, sym, ap, ℕ, List, [], ◌∷◌, ◌++◌, length, append_assoc}
use Rattle.std.proofs.Common.{append-nil, arith, refl, Bool, true, false, not, Ok, Err, inl, inr, map, subst, OnErr}
use Rattle.std.proofs.{Common.{OnOk, None, Result}, lemmas.Result.on_err_weaker}
use Rattle.ffs_image.specs.{Device.Device, Known.ForBytes}
use Rattle.ffs_volume.specs.{Disk.Superblock.Superblock, Directories.Volumes.volume_of, Messages.Kinds.Message}
use Rattle.ffs_volume.specs.{Messages.Kinds.{of_tree, phase2, phase3, phase4, phase5}, Report.Memory.runs_limit}
use Rattle.ffs_volume.specs.Directories.{Connectivity.{connectivity_lines, unref_dir_lines}}
use Rattle.ffs_volume.specs.Directories.{ReferenceCheck.{reference_lines, reference_lines_at}}
use Rattle.ffs_volume.specs.{Directories.PathnameCheck.{continues_after_root, pathname_lines}, Report.Reads.group_reads}
use Rattle.ffs_volume.specs.Report.{Reads.{line_reads, sweep_reads}, Whole.{phase_lines, summary_of, file_count}}
use Rattle.ffs_volume.specs.Report.Whole.{claimed_count, phase1_messages, phase1b_messages_if_dups, phase2_messages}
use Rattle.ffs_volume.specs.Report.Whole.{phase3_messages, phase4_messages, phase5_messages, summary_messages}
use Rattle.ffs_volume.{specs.{Laws.Geometry.IsAcceptedLayout, Costs.VolumeReads.later_reads}, proofs.Results.at_error}
use Rattle.ffs_volume.proofs.Results.{on_any}
use Rattle.ffs_report.specs.{Progress.Progress, Paid.Paid, PhaseOutcome.ImageAfter, declared.fault.RunFault.RunFault}
use Rattle.ffs_report.{specs.declared.fault.RunFault.TheVariants.{Read, Out}, proofs.Reporting.{of_begins, of_says}}
use Rattle.ffs_report.proofs.{Reporting.{of_part, of_fault, said_knows, reports_knowing}, Paying.paid_answer}
use Rattle.ffs_report.proofs.Paying.{paid_fault, paid_none, paid_then, paid_within}
use Rattle.ffs_check.{specs.AllPhases.{HaveRun, AnswersAfterPhases, SaidWhole}, proofs.RestOfText.from_phase2}
use Rattle.ffs_check.{proofs.RestOfText.after_phase2, specs.Rescan.{AnswersDups, RescanLeaves, RescanReadsWithin}}
use Rattle.ffs_check.{specs.{Rescan.WithLeftByPhase1, Reads.PhasesPay}, proofs.Answering.{answers_stay, unanswered}}
use Rattle.ffs_check.proofs.{VolumeReading.text_parts, Stages.{some_more, more_after, root_or_more, Left, each, Point}}
use Rattle.ffs_check.proofs.Stages.{Given, Stage, report_at, RunsPhases, Spends, Ran, begun, phase1_done, phase1b_done}
use Rattle.ffs_check.proofs.Stages.{Rooted, phase2_done, phase3_done, phase4_done, phase5_done, root_stays}
use Rattle.ffs_check.proofs.Stages.{windows_stay, with_ok, spends_left, spends_lines, IsClaimed, spends_names}
use Rattle.ffs_check.proofs.Stages.{spends_knowing, within_both, whole_said}
use Rattle.ffs_counts.specs.Summary.{SaysSummary}
use Rattle.ffs_claims.specs.Phases.{IsLeftByPhase1, Phase1Keeps, Phase1Reads}
use Rattle.ffs_pathnames.specs.{declared.pass2.Root.{Root, TheVariants.{Go, Stop}}, Phase2.{Phase2Ends, Phase2Reads}}
use Rattle.ffs_pathnames.specs.RootAnswers.{is_go}
use Rattle.ffs_workspace.specs.{declared.workspace.Workspace.Workspace, Leaves.{LeavesBlockCheck, LeavesSurvey}}
use Rattle.ffs_workspace.specs.{Ready.IsReady, Found.{WithFresh, WithBlockCheck, WithSurvey, WithFindings}}
use Rattle.ffs_workspace.{specs.Holds.{HoldsBlockCheck, HoldsFindings}, proofs.Leaving.{claims_left, findings_held}}
use Rattle.ffs_workspace.{specs.TableReads.blocks_with_lines, proofs.TableReadLaws.{reference_few, unref_few}}
use Rattle.ffs_workspace.proofs.Leaving.{references_left, survey_left}

-- the next point, or the end of all where a phase answers a fault
abbrev Comes : {T : Type 0} → Result T RunFault → (T → Type 0) → (RunFault → Type 0) → Type 0
Comes (Ok x) Next Falls = Next x
Comes (Err fault) Next Falls = Falls fault

pub begins : (s : Superblock) {d : Device} {w : Workspace} {start : Progress} {reads : ℕ} → IsAcceptedLayout s.layout →
    Stage s d w start reads (begun s w) d start reads
begins s {start = start} sound = record {
  sound = sound;
  image = refl;
  sure = tt;
  holds = λ bytes k. k.1;
  said = of_begins;
  read = λ bytes k. omega arith;
  paid = paid_none (omega arith);
}

module _ (s : Superblock) where
  -- what is known at a stage
  given : {d on : Device} {w : Workspace} {start report : Progress} {reads now : ℕ}
      {P : Point} → Stage s d w start reads P on report now → ForBytes (WithFresh s.layout d w) (Given on P.Holds)
  given at = λ bytes k. (ap (λ (x : Device). x.contents) at.image ∙ k.0, at.holds bytes k)

  -- nothing is to come
  ends : {d on : Device} {w u : Workspace} {start report : Progress} {reads now : ℕ}
      {P : Point} (root : Root) → Stage s d w start reads P on report now →
      SaidWhole (not (is_go root)) (WithFresh s.layout d w) (λ bytes. phase_lines bytes s) start report →
      Rooted s d w u root → ForBytes (WithFresh s.layout d w) (λ bytes. HoldsFindings s.layout bytes u) →
      IsReady s.layout on u → RunsPhases s d on w u start report reads now (Ok root)
  ends root at whole sure found ready = record {
    ran = record {
      image = at.image;
      text = whole;
      goes = sure.goes;
    };
    reads = record {
      known = λ bytes k. let within = at.read bytes k in within_both s at.sound bytes (omega (arith, within));
      paid = paid_answer (paid_within at.paid (omega arith) (omega arith));
    };
    leaves = record { answers = sure.answers; holds = λ _. found; ready = ready };
  }

  -- a phase answered a fault: what was read
  pays : {d on : Device} {w : Workspace} {start report report' : Progress} {reads now now' : ℕ}
      {T : Type 0} {P : Point} (on' : Device) (fault : RunFault) (left' : Left) →
      Stage s d w start reads P on report now →
      Spends {T = T} (Given on P.Holds) P.left left' report report' now now' (Err fault) →
      PhasesPay {T = Root} (WithFresh s.layout d w) s (report_at d reads start) (report_at on' now' report') (Err fault)
  pays on' fault left' at spent = record {
    known = λ bytes k.
        within_both s at.sound bytes (omega (arith, at.read bytes k, spent.known bytes (given at bytes k)));
    paid = paid_fault fault (paid_within (paid_then at.paid spent.paid) (omega arith) (omega arith));
  }

  module _ {d on on' : Device} {w : Workspace} {start report report' : Progress} {reads now now' : ℕ}
      {T : Type 0} {P : Point} {less : List ℕ → Type 0} {part : List ℕ → List Message} where
    -- a phase answered Ok
    passes : {x : T} (Q : Point) → Stage s d w start reads P on report now → ForBytes (Given on P.Holds) less →
        Ran less part on on' report report' (Ok x) →
        Spends (Given on P.Holds) P.left Q.left report report' now now' (Ok x) →
        ForBytes (Given on P.Holds) (λ bytes. P.rest bytes ≡ part bytes ++ Q.rest bytes) → Q.Sure →
        ForBytes (Given on P.Holds) Q.Holds → Stage s d w start reads Q on' report' now'
    passes Q at knows ran spent e sure holds = record {
      sound = at.sound;
      image = ran.image ∙ at.image;
      sure = sure;
      holds = λ bytes k. holds bytes (given at bytes k);
      said = of_part {rest' = Q.rest} at.said (λ bytes k. e bytes (given at bytes k))
          (said_knows (λ bytes k. knows bytes (given at bytes k)) ran.text);
      read = λ bytes k. omega (arith, at.read bytes k, spent.known bytes (given at bytes k));
      paid = paid_then at.paid (paid_answer spent.paid);
    }

    -- a phase answered a fault: what was said, where other messages were to follow
    says : (fault : RunFault) (rest' : List ℕ → List Message) → Stage s d w start reads P on report now →
        ForBytes (Given on P.Holds) less →
        Ran {T = T} less part on on' report report' (Err fault) →
        ForBytes (Given on P.Holds) (λ bytes. P.rest bytes ≡ part bytes ++ rest' bytes) →
        ForBytes (Given on P.Holds) (λ bytes. 0 < length (rest' bytes)) →
        HaveRun s w (report_at d reads start) (report_at on' now' report') (Err fault)
    says (Read fault) rest' at knows ran e more =
        record {
          image = rw at.image at ran.image;
          text = record {
            rest = λ bytes. ran.text.rest bytes ++ rest' bytes;
            prefix = of_says {rest' = λ bytes. ran.text.rest bytes ++ rest' bytes} {ms = ran.text.messages} at.said
                (λ bytes k. let known = given at bytes k in
                e bytes known ∙ ap (λ (xs : List Message). xs ++ rest' bytes)
                (sym (ran.text.right bytes (knows bytes known)))
                ∙ append_assoc ran.text.messages (ran.text.rest bytes) (rest' bytes))
                ran.text.outcome;
            more = λ bytes k. more_after (ran.text.rest bytes) (rest' bytes) (more bytes (given at bytes k));
          };
          goes = tt;
        }
    says (Out fault) rest' at knows ran e more = record {
      image = ran.image ∙ at.image;
      text = of_fault T Root _ _ part rest' _ _ _ _ (Out fault) at.said (λ bytes k. e bytes (given at bytes k))
          (reports_knowing T _ _ part _ _ (Err (Out fault)) (λ bytes k. knows bytes (given at bytes k)) ran.text);
      goes = tt;
    }

    -- a phase that others follow
    next : {u' : Workspace} (r : Result T RunFault) (Q : Point) → Stage s d w start reads P on report now →
        ForBytes (Given on P.Holds) less →
        Ran less part on on' report report' r → Spends less P.left Q.left report report' now now' r →
        ForBytes (Given on P.Holds) (λ bytes. P.rest bytes ≡ part bytes ++ Q.rest bytes) →
        ForBytes (Given on P.Holds) (λ bytes. 0 < length (Q.rest bytes)) →
        OnOk r (Q.Sure × ForBytes (Given on P.Holds) Q.Holds) →
        OnErr r (ForBytes (WithFresh s.layout d w) (λ bytes. AnswersDups s.layout bytes w u')) →
        u'.runs_seen ≤ runs_limit s.layout → IsReady s.layout on' u' →
        Comes r (λ x. Stage s d w start reads Q on' report' now')
        (λ fault. RunsPhases s d on' w u' start report' reads now' (Err fault))
    next (Ok x) Q at knows ran spent e more found dups few ready =
        passes Q at knows ran (spends_knowing knows spent) e found.0 found.1
    next (Err fault) Q at knows ran spent e more found dups few ready = record {
      ran = says fault Q.rest at knows ran e more;
      reads = pays _ fault Q.left at (spends_knowing knows spent);
      leaves = unanswered dups few ready;
    }

  -- ---- the phases
  pub phase1_comes : {d on on' : Device} {w u' : Workspace} {start report report' : Progress} {reads now now' : ℕ}
      {T : Type 0} (r : Result T RunFault) → Stage s d w start reads (begun s w) on report now →
      Ran (WithFresh s.layout on w) (λ bytes. phase1_messages s.layout bytes) on on' report report' r →
      OnOk r (ForBytes (WithFresh s.layout on w) (λ bytes. IsLeftByPhase1 s.layout bytes u')) →
      Phase1Reads s.layout on w u' now now' → Phase1Keeps w u' r → IsReady s.layout on' u' →
      Comes r (λ x. Stage s d w start reads (phase1_done s w u') on' report' now')
      (λ fault. RunsPhases s d on' w u' start report' reads now' (Err fault))
  phase1_comes {w = w} {u' = u'} r at ran leaves scan stays ready =
      next r (phase1_done s w u') at (λ bytes k. k) ran
      (spends_left _ r ran.text (omega (arith, scan.reads, scan.runs)) (λ bytes k. omega (arith, scan.known bytes k)))
      (λ bytes k. text_parts bytes s)
      (λ bytes k. more_after (phase1b_messages_if_dups s.layout bytes) (from_phase2 bytes s) (some_more phase2 _))
      (with_ok _ r (scan.runs, ap (λ (w : Workspace). w.runs_again) stays.changes.only) leaves)
      (on_err_weaker r (λ same. λ bytes k. inl same) stays.has_dups) scan.runs ready

  rescanned : {d on on' : Device} {w u u' : Workspace} {start report : Progress} {reads now : ℕ}
      (r : Result (Unit {0}) RunFault) → Stage s d w start reads (phase1_done s w u) on report now →
      RescanLeaves s.layout on on' u u' r → OnOk r (AnswersAfterPhases true (WithFresh s.layout d w) s.layout w u'
      × ForBytes (WithLeftByPhase1 s.layout on u) (λ bytes. HoldsBlockCheck s.layout bytes u'
      × (u'.surveyed ≡ false)))
  rescanned (Ok x) at again = (
    record {
      known = λ e bytes k.
          let answers = again.answers bytes (given at bytes k) in
          record { has_dups = answers.has_dups; seen = answers.seen; again = rw at.sure.1 at answers.again };
      dups = λ bytes k. inr (again.answers bytes (given at bytes k)).has_dups;
      most = rw again.seen at.sure.0;
    },
    λ bytes k. (again.holds bytes k, again.unsurveyed bytes k),
  )
  rescanned (Err fault) at again = tt

  -- phase 2 answered a fault: its heading alone was said, or the check continues after the root
  says_root : {d on on' : Device} {w u : Workspace} {start report report' : Progress} {reads now : ℕ} (now' : ℕ)
      (u' : Workspace) (fault : RunFault) → Stage s d w start reads (phase1b_done s d w u) on report now →
      Ran {T = Root} (WithBlockCheck s.layout on u) (λ bytes. phase2_messages s.layout bytes) on on' report report' (Err fault) →
      Phase2Ends s.layout on u u' report report' (Err fault) →
      HaveRun s w (report_at d reads start) (report_at on' now' report') (Err fault)
  says_root now' u' (Read fault) at ran (inl said, found) =
      let rest : List ℕ → List Message = λ bytes. map of_tree (pathname_lines (volume_of s.layout bytes))
      ++ after_phase2 (continues_after_root (volume_of s.layout bytes)) bytes s in
      record {
        image = rw at.image at ran.image;
        text = record {
          rest = rest;
          prefix = of_says {rest' = rest} {ms = phase2 ∷ []} at.said (λ bytes k. refl) said;
          more = λ bytes k. root_or_more (volume_of s.layout bytes) (λ go. after_phase2 go bytes s)
              (some_more phase3 _);
        };
        goes = tt;
      }
  says_root now' u' (Read fault) at ran (inr goes, found) =
      says (Read fault) (λ bytes. after_phase2 (continues_after_root (volume_of s.layout bytes)) bytes s) at
      (λ bytes k. (k.0, k.1.0)) ran (λ bytes k. refl)
      (λ bytes k.
      subst (λ go. 0 < length (after_phase2 go bytes s)) (sym (goes bytes (k.0, k.1.0))) (some_more phase3 _))
  says_root now' u' (Out fault) at ran left = record {
    image = ran.image ∙ at.image;
    text = of_fault Root Root _ _ (λ bytes. phase2_messages s.layout bytes)
        (λ bytes. after_phase2 (continues_after_root (volume_of s.layout bytes)) bytes s) _ _ _ _ (Out fault) at.said
        (λ bytes k. refl) (reports_knowing Root _ _ (λ bytes. phase2_messages s.layout bytes) _ _ (Err (Out fault))
        (λ bytes k. let known = given at bytes k in (known.0, known.1.0)) ran.text);
    goes = tt;
  }

  -- phase 2 answered whether the check continues after the root, and left what it found
  root_left : (on : Device) (u u' : Workspace) (report report' : Progress) (root : Root) →
      Phase2Ends s.layout on u u' report report' (Ok root) → ForBytes (WithBlockCheck s.layout on u)
      (λ bytes. (is_go root ≡ continues_after_root (volume_of s.layout bytes)) × HoldsFindings s.layout bytes u')
  root_left on u u' report report' Go left = λ bytes k. let both = left bytes k in (sym both.0, both.1)
  root_left on u u' report report' Stop left = λ bytes k. let both = left.0 bytes k in (sym both.0, both.1)

  module _ {d on on' : Device} {w u u' : Workspace} {start report report' : Progress} {reads now now' : ℕ} where
    -- phase 1b, or nothing
    pub phase1b_comes : (r : Result (Unit {0}) RunFault) → Stage s d w start reads (phase1_done s w u) on report now →
        Ran (WithLeftByPhase1 s.layout on u) (phase1b_messages_if_dups s.layout) on on' report report' r →
        RescanLeaves s.layout on on' u u' r → RescanReadsWithin s.layout on u now now' →
        Comes r (λ x. Stage s d w start reads (phase1b_done s d w u') on' report' now')
        (λ fault. RunsPhases s d on' w u' start report' reads now' (Err fault))
    phase1b_comes r at ran again few =
        next r (phase1b_done s d w u') at (λ bytes k. k) ran
        (spends_left _ r ran.text (omega (arith, few.any)) (λ bytes k. omega (arith, few.known bytes k)))
        (λ bytes k. refl)
        (λ bytes k. some_more phase2 _) (rescanned r at again)
        (at_error r (λ bytes k. inr (again.has_dups ∙ (at.holds bytes k).has_dups))) (rw again.seen at.sure.0)
        again.ready

    pub phase2_comes : (r : Result Root RunFault) → Stage s d w start reads (phase1b_done s d w u) on report now →
        Ran (WithBlockCheck s.layout on u) (λ bytes. phase2_messages s.layout bytes) on on' report report' r →
        Phase2Reads s.layout on u now now' → Paid line_reads report report' (now + 4 * sweep_reads s.layout) now' r →
        Phase2Ends s.layout on u u' report report' r → LeavesBlockCheck u u' →
        IsReady s.layout on' u' → Comes r (λ root. Stage s d w start reads (phase2_done s d w u' root) on' report' now')
        (λ fault. RunsPhases s d on' w u' start report' reads now' (Err fault))
    phase2_comes (Ok root) at ran named paid left stays ready =
        let goes : ForBytes (IsClaimed s on u) (λ bytes. is_go root ≡ continues_after_root (volume_of s.layout bytes)) =
        λ bytes k. (root_left on u u' report report' root left bytes (k.0, k.1.0)).0 in
        passes (phase2_done s d w u' root) at (λ bytes k. (k.0, k.1.0)) ran
        (spends_names s (later_reads (is_go root) s.layout) named paid (λ bytes k. rw (goes bytes k) (omega arith)))
        (λ bytes k. ap (λ (go : Bool). phase2_messages s.layout bytes ++ after_phase2 go bytes s) (sym (goes bytes k)))
        (record { answers = answers_stay at.sure stays; goes = λ bytes k. goes bytes (given at bytes k) })
        (λ bytes k. (root_left on u u' report report' root left bytes (k.0, k.1.0)).1)
    phase2_comes (Err fault) at ran named paid left stays ready = record {
      ran = says_root _ u' fault at ran left;
      reads = pays _ fault (record { any = group_reads s.layout; known = λ bytes. 0 }) at
          (spends_names s (λ bytes. 0) named paid (λ bytes k. omega arith));
      leaves = let stay = answers_stay at.sure stays in unanswered stay.dups stay.most ready;
    }

    -- the check ends after the root: its message is the last
    pub stops : (root : Root) → is_go root ≡ false → Stage s d w start reads (phase1b_done s d w u) on report now →
        Phase2Ends s.layout on u u' report report' (Ok root) →
        Stage s d w start reads (phase2_done s d w u' root) on' report' now' →
        IsReady s.layout on' u' → RunsPhases s d on' w u' start report' reads now' (Ok root)
    stops Go ended before left at ready = absurd (cc)
    stops Stop ended before left at ready =
        let stop = left.1 in
        ends Stop at (whole_said (phase2 ∷ []) stop.last before.said (λ bytes k.
        let known = given before bytes k in
        ap (λ (go : Bool). phase2_messages s.layout bytes ++ after_phase2 go bytes s)
        (left.0 bytes (known.0, known.1.0)).0
        ∙ append-nil (phase2_messages s.layout bytes) ∙ sym (stop.right bytes (known.0, known.1.0)))
        stop.said stop.stops) at.sure at.holds ready

    pub phase3_comes : {T : Type 0} (r : Result T RunFault) {root : Root} → is_go root ≡ true →
        Stage s d w start reads (phase2_done s d w u root) on report now →
        Ran (WithSurvey s.layout on u) (λ bytes. phase3_messages s.layout bytes) on on' report report' r →
        ForBytes (WithSurvey s.layout on u)
        (λ bytes. now' ≤ now + blocks_with_lines s.layout (unref_dir_lines (volume_of s.layout bytes))) →
        Paid 1 report report' now now' r → LeavesSurvey u u' → IsReady s.layout on' u' →
        Comes r (λ x. Stage s d w start reads (phase3_done s d w u' root) on' report' now')
        (λ fault. RunsPhases s d on' w u' start report' reads now' (Err fault))
    phase3_comes r {root} goes at ran read paid survey ready =
        let sure = root_stays at.sure survey.findings.block_check in
        next r (phase3_done s d w u' root) at (λ bytes k. (k.0, k.1.block_check, k.1.survey)) ran
        (spends_lines (group_reads s.layout) (λ bytes. length (connectivity_lines (volume_of s.layout bytes)))
        (phase2_done s d w u root).left.known (phase3_done s d w u' root).left.known
        (λ bytes k. omega (arith, read bytes k, unref_few s.layout bytes)) paid (λ bytes k. rw goes (omega arith)))
        (λ bytes k. ap (λ go. after_phase2 go bytes s) goes) (λ bytes k. some_more phase4 _)
        (on_any r (sure, λ bytes k. grind (arith, claims_left, survey_left, references_left)))
        (at_error r sure.answers.dups) sure.answers.most ready

    pub phase4_comes : {T : Type 0} (r : Result T RunFault) {root : Root} →
        Stage s d w start reads (phase3_done s d w u root) on report now →
        Ran (WithFindings s.layout on u) (λ bytes. phase4_messages s.layout bytes) on on' report report' r →
        ForBytes (WithFindings s.layout on u)
        (λ bytes. now' ≤ now + blocks_with_lines s.layout (reference_lines_at (volume_of s.layout bytes))) →
        Paid 1 report report' now now' r → u' ≡ record u { windows = u'.windows } → IsReady s.layout on' u' →
        Comes r (λ x. Stage s d w start reads (phase4_done s d w u' root) on' report' now')
        (λ fault. RunsPhases s d on' w u' start report' reads now' (Err fault))
    phase4_comes r {root} at ran read paid held ready =
        let sure = root_stays at.sure (windows_stay held) in
        next r (phase4_done s d w u' root) at (λ bytes k. k) ran
        (spends_lines (group_reads s.layout) (λ bytes. length (reference_lines (volume_of s.layout bytes)))
        (phase3_done s d w u root).left.known (phase4_done s d w u' root).left.known
        (λ bytes k. omega (arith, read bytes k, reference_few s.layout bytes)) paid (λ bytes k. omega arith))
        (λ bytes k. refl) (λ bytes k. some_more phase5 _)
        (on_any r (sure, λ bytes k. findings_held s.layout bytes u u' held k.1)) (at_error r sure.answers.dups)
        sure.answers.most ready

    pub phase5_comes : {T : Type 0} (r : Result T RunFault) {root : Root} →
        Stage s d w start reads (phase4_done s d w u root) on report now →
        Ran (WithBlockCheck s.layout on u) (λ bytes. phase5_messages bytes s) on on' report report' r →
        now' ≤ now + group_reads s.layout → u' ≡ record u { windows = u'.windows } → IsReady s.layout on' u' →
        Comes r (λ x. Stage s d w start reads (phase5_done s d w u' root) on' report' now')
        (λ fault. RunsPhases s d on' w u' start report' reads now' (Err fault))
    phase5_comes r {root} at ran few held ready =
        let sure = root_stays at.sure (windows_stay held) in
        next r (phase5_done s d w u' root) at (λ bytes k. (k.0, k.1.block_check)) ran
        (spends_left _ r ran.text (omega (arith, few)) (λ bytes k. omega (arith, few))) (λ bytes k. refl)
        (λ bytes k. some_more (summary_of s (file_count s.layout bytes) (claimed_count s.layout bytes)) [])
        (on_any r (sure, λ bytes k. findings_held s.layout bytes u u' held k.1)) (at_error r sure.answers.dups)
        sure.answers.most ready

  -- the summary reads nothing
  says_last : {d on : Device} {w : Workspace} {start report report' : Progress} {reads now : ℕ}
      {T : Type 0} {P : Point} (less : List ℕ → Type 0) (now' : ℕ) (fault : RunFault) →
      Stage s d w start reads P on report now → ForBytes P.Holds less →
      ((image : Device) → Ran {T = T} less P.rest image image report report' (Err fault)) →
      HaveRun s w (report_at d reads start) (report_at on now' report') (Err fault)
  says_last less now' (Read fault) at knows ran =
      let none : Device = record { contents = None; size = 0; failures = 0; failed_sector = 0; lent = [] } in
      absurd (let rose = (ran none).image.rose in omega arith)
  says_last {on = on} {T = T} {P = P} less now' (Out fault) at knows ran = record {
    image = at.image;
    text = of_fault T Root _ _ P.rest (λ bytes. []) _ _ _ _ (Out fault) at.said
        (λ bytes k. sym (append-nil (P.rest bytes)))
        (reports_knowing T _ _ P.rest _ _ (Err (Out fault)) (λ bytes k. knows bytes (at.holds bytes k)) (ran on).text);
    goes = tt;
  }

-- what the summary says is its part of the text
summary_right : (s : Superblock) (u : Workspace) (files claimed : ℕ) →
    ForBytes (λ bytes. HoldsBlockCheck s.layout bytes u) (λ bytes. files ≡ file_count s.layout bytes) →
    ForBytes (λ bytes. HoldsBlockCheck s.layout bytes u) (λ bytes. claimed ≡ claimed_count s.layout bytes) →
    ForBytes (λ bytes. HoldsBlockCheck s.layout bytes u)
    (λ bytes. summary_of s files claimed ∷ [] ≡ summary_messages bytes s)
summary_right s u files claimed e f bytes k = rw (e bytes k, f bytes k) refl

summary_ran : {T : Type 0} (s : Superblock) (u : Workspace) (report report' : Progress) (r : Result T RunFault) →
    ((image : Device) → ImageAfter image image r) → SaysSummary s u report report' r → (image : Device) →
    Ran (λ bytes. HoldsBlockCheck s.layout bytes u) (λ bytes. summary_messages bytes s) image image report report' r
summary_ran s u report report' (Ok x) kept say image = record {
  image = kept image;
  text = record {
    messages = summary_of s say.files say.claimed ∷ [];
    right = summary_right s u say.files say.claimed say.files_right say.claimed_right;
    said = say.said;
  };
}
summary_ran s u report report' (Err (Read fault)) kept say image =
    let none : Device = record { contents = None; size = 0; failures = 0; failed_sector = 0; lent = [] } in
    absurd (let rose = (kept none).rose in omega arith)
summary_ran s u report report' (Err (Out fault)) kept say image = record {
  image = kept image;
  text = record {
    messages = summary_of s say.files say.claimed ∷ [];
    rest = λ bytes. [];
    right = summary_right s u say.files say.claimed say.files_right say.claimed_right;
    outcome = say.said;
  };
}

module _ (s : Superblock) {d on : Device} {w u : Workspace} {start report report' : Progress} {reads now : ℕ} where
  pub summary_comes : {T : Type 0} (r : Result T RunFault) (root : Root) → is_go root ≡ true →
      Stage s d w start reads (phase5_done s d w u root) on report now → ((image : Device) → ImageAfter image image r) →
      SaysSummary s u report report' r → IsReady s.layout on u →
      Comes r (λ x. RunsPhases s d on w u start report' reads now (Ok root))
      (λ fault. RunsPhases s d on w u start report' reads now (Err fault))
  summary_comes {T = T} (Ok x) root goes at kept say ready =
      let ran = summary_ran {T = T} s u report report' (Ok x) kept say in
      let done : Point = record { Sure = Unit {0}; Holds = λ bytes. Unit {0}; rest = λ bytes. []; left = each 0 } in
      ends s root (passes s done at (λ bytes k. k.1.block_check) (ran on) (spends_knowing (λ bytes k. k.1.block_check)
      (spends_left _ (Ok x) (ran on).text (omega arith) (λ bytes k. omega arith)))
      (λ bytes k. sym (append-nil (summary_messages bytes s))) tt (λ bytes k. tt))
      (whole_said [] (summary_of s say.files say.claimed) at.said
      (λ bytes k. sym (summary_right s u say.files say.claimed say.files_right say.claimed_right bytes
      (given s at bytes k).1.block_check))
      say.said (ap not (sym goes))) at.sure at.holds ready
  summary_comes {T = T} (Err fault) root goes at kept say ready =
      let ran = summary_ran {T = T} s u report report' (Err fault) kept say in
      record {
        ran = says_last s _ _ fault at (λ bytes k. k.block_check) ran;
        reads = pays s {T = T} _ fault (each 0) at (spends_knowing (λ bytes k. k.1.block_check)
            (spends_left _ (Err fault) (ran on).text (omega arith) (λ bytes k. omega arith)));
        leaves = unanswered at.sure.answers.dups at.sure.answers.most ready;
      }
