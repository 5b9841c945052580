-- What a workspace answers of the block check, from the phases to the end of a check.
use Rattle.std.proofs.Common.{◌≡◌, ◌≤◌, ℕ, Bool, true, false, List, ◌∙◌, refl, ap, inl, inr, Result, Ok, Err, is_ok}
use Rattle.ffs_volume.specs.declared.{Layout.Layout, End.{End, TheVariants.{ReadFault, WriteFault}}}
use Rattle.ffs_volume.specs.Report.Memory.{runs_limit}
use Rattle.ffs_report.specs.{Progress.Progress, declared.fault.RunFault.{RunFault, TheVariants.{Read, Out}}}
use Rattle.ffs_pathnames.specs.declared.pass2.Root.{Root}
use Rattle.ffs_workspace.specs.{declared.workspace.Workspace.Workspace, Found.WithFresh, Leaves.LeavesBlockCheck}
use Rattle.ffs_workspace.specs.Ready.{IsReady}
use Rattle.ffs_image.specs.{Device.Device, Known.ForBytes}
use Rattle.ffs_check.specs.{AllPhases.{MakesEnd, AnswersAfterPhases, PhasesLeave, can_end_report}, Rescan.AnswersDups}

-- where a phase failed nothing is said of them but the bound, and what `has_dups` may answer
pub unanswered : {d d' : Device} {v : Layout} {w w' : Workspace} {fault : RunFault} →
    ForBytes (WithFresh v d w) (λ bytes. AnswersDups v bytes w w') → w'.runs_seen ≤ runs_limit v → IsReady v d' w' →
    PhasesLeave v d d' w w' (Err fault)
unanswered dups few ready = record {
  answers = record { known = λ e. absurd (cc); dups = dups; most = few };
  holds = λ e. absurd (cc);
  ready = ready;
}

-- a phase leaves what the block check left
pub answers_stay : {whole : Bool} {knows : List ℕ → Type 0} {v : Layout} {w u u' : Workspace} →
    AnswersAfterPhases whole knows v w u → LeavesBlockCheck u u' → AnswersAfterPhases whole knows v w u'
answers_stay answers stays = record {
  known = λ e bytes k.
      let now = answers.known e bytes k in
      record {
        has_dups = stays.has_dups ∙ now.has_dups;
        seen = stays.runs_seen ∙ now.seen;
        again = stays.runs_again ∙ now.again;
      };
  dups = λ bytes k. rw stays.has_dups (answers.dups bytes k);
  most = rw stays.runs_seen answers.most;
}

-- no whole report ends in a fault
not_whole : (end fault : End) → end ≡ fault → can_end_report fault ≡ false → can_end_report end ≡ true → false ≡ true
not_whole end fault is none whole = cc (ap can_end_report is)

-- an end is that of a whole report only where the phases answered Ok
pub whole_end : (had_defect : Bool) (b c : Progress) (r : Result Root RunFault) (end : End) →
    MakesEnd had_defect b c r end → can_end_report end ≡ true → is_ok r ≡ true
whole_end had_defect b c (Ok root) end e whole = refl
whole_end had_defect b c (Err (Read fault)) end e whole = elim e [
  | inl said ↦ not_whole end (ReadFault fault.sector) said.1 refl whole
  | inr stopped ↦ not_whole end WriteFault stopped.1 refl whole
]
whole_end had_defect b c (Err (Out fault)) end e whole = not_whole end WriteFault e.1 refl whole

pub answers_end : {knows : List ℕ → Type 0} {v : Layout} {w w' : Workspace} (had_defect : Bool) (b c : Progress)
    (r : Result Root RunFault) (end : End) → MakesEnd had_defect b c r end → AnswersAfterPhases (is_ok r) knows v w w' →
    AnswersAfterPhases (can_end_report end) knows v w w'
answers_end had_defect b c r end e answers = record {
  known = λ whole. answers.known (whole_end had_defect b c r end e whole);
  dups = answers.dups;
  most = answers.most;
}
