use Rattle.std.proofs.Common.{arith}
use Rattle.std.proofs.Common.{◌≡◌, ℕ, zero, suc, false, refl, replicate}
use Rattle.ffs_workspace.proofs.{Leaving.{claims_held, counts_same, counts_stand}, PlaceLaws.{filled_noted, zero_index}, Readiness.{can_read_same}}
use Rattle.ffs_survey.{specs.Survey.bool_at}
use Rattle.ffs_names.proofs.surveying.survey.Goals as goal

none_set : (n x : ℕ) → bool_at (replicate n false) x ≡ false
none_set zero x = refl
none_set (suc n) zero = refl
none_set (suc n) (suc x) = none_set n x

-- what an earlier survey found stands
pub returns-then-workspace-clause-survey : goal.returns-then-workspace-clause-survey
returns-then-workspace-clause-survey g c = grind (arith, counts_stand, filled_noted, counts_same, none_set)

pub returns-then-workspace-clause-leaves : goal.returns-then-workspace-clause-leaves
returns-then-workspace-clause-leaves g c = grind (arith, zero_index)

-- what the first survey needs
pub survey_unlimited-surveyed-requires-clause-ready : goal.survey_unlimited-surveyed-requires-clause-ready
survey_unlimited-surveyed-requires-clause-ready g c =
    rw c.new-limited.ensures.device (can_read_same c.args.geometry.now.layout (g.I.Image.device c.args.image.now) _ _
    refl refl (c.forget_windows.ensures.forgets c.args.geometry.now.layout _ c.requires))

-- what it found, by the bytes of the image below the limit
pub returns-clause-survey : goal.returns-clause-survey
returns-clause-survey g c = grind (arith, claims_held)

pub returns-clause-flags : goal.returns-clause-flags
returns-clause-flags g c = grind (arith, claims_held)
