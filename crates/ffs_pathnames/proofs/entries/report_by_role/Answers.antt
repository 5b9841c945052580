use Rattle.std.proofs.Common.{◌≡◌, arith, refl, ℕ, List, [], Ok, inl, inr}
use Rattle.ffs_workspace.specs.Moments.{WorkMoment}
use Rattle.ffs_volume.specs.{declared.Layout.Layout, Directories.Roles.Volume, Messages.Kinds.{TreeMessage}}
use Rattle.ffs_report.{specs.Progress.Progress, proofs.{Reporting.says_none, Paying.paid_none}}
use Rattle.ffs_pathnames.specs.{EntryLines.ReportsOneEntry, Moments.{LinesMoment}, Ready.CanMakePath, PassedNames.roled_reported}
use Rattle.ffs_pathnames.{specs.declared.entry_texts.EntryTexts.EntryTexts}
use Rattle.ffs_pathnames.proofs.entries.report_by_role.Goals as goal

-- where there is no line, nothing changes
nothing_said : {v : Layout} {at : WorkMoment} {x : ℕ} {t : EntryTexts} {lines : Volume → List TreeMessage}
    {said : Progress} → CanMakePath v at.image at.workspace t.kept_parent x → ((vol : Volume) → lines vol ≡ []) →
    let now : LinesMoment EntryTexts = record { at = at; report = said; kept = t } in
    ReportsOneEntry {T = Unit {0}} v x lines now now (Ok tt)
nothing_said r none = grind (arith, says_none, paid_none)

pub returns-in-Empty : goal.returns-in-Empty
unfolding roled_reported
returns-in-Empty g c = elim c.in-Empty.is [
  | inl empty ↦ rw empty (nothing_said c.requires (λ v. refl))
  | inr is ↦ elim is [
    | inl dot ↦ rw dot (nothing_said c.requires (λ v. refl))
    | inr dotdot ↦ rw dotdot (nothing_said c.requires (λ v. refl))
  ]
]

pub returns-in-Extra : goal.returns-in-Extra
unfolding roled_reported
returns-in-Extra g c =
    rw c.in-Extra.is (record { lines = c.report_extra.ensures.lines; leaves = c.report_extra.ensures.leaves })

pub returns-in-Plain : goal.returns-in-Plain
unfolding roled_reported
returns-in-Plain g c =
    rw c.in-Plain.is (record { lines = c.report_plain.ensures.lines; leaves = c.report_plain.ensures.leaves })
