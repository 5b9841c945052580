-- Each condition of a consistent volume holds exactly where nothing is reported for it.
use Rattle.std.proofs.{Common.{arith, ◌≡◌, ℕ, false, not, List, [], ◌∷◌, ◌++◌, refl}, lemmas.Bool.or_from}
use Rattle.std.{proofs.{lemmas.List.Folds.list_any-append, Math.Bool.or-false}, specs.List.{list_all, list_any}}
use Rattle.ffs_volume.specs.declared.{Class.Class, BlockMessage.BlockMessage, Step.Step, Layout.Layout}
use Rattle.ffs_volume.specs.{Disk.Superblock.Superblock, Blocks.Claims.{Claims, no_claims, after_offer, offer_lines}}
use Rattle.ffs_volume.specs.Blocks.Claims.{lines_of_offers, run_lines, after_step, step_lines, lines_of_steps}
use Rattle.ffs_volume.specs.Blocks.{Claims.after_owner, BlockCheck.{class_lines, count_lines, owner_lines}}
use Rattle.ffs_volume.specs.Blocks.{BlockCheck.{lines_of_owners, phase1_lines}, Owners.Owner}
use Rattle.ffs_volume.specs.{Consistent.BlocksRight.is_right_class, Laws.Geometry.IsAcceptedLayout}
use Rattle.ffs_volume.{specs.Directories.Volumes.whole_volume, proofs.AcceptedLaws.accepted_sound}
use Rattle.ffs_certificate.specs.Conditions.{is_class_message, ConditionsReported, ConditionsAreReported}
use Rattle.ffs_certificate.proofs.DirsCertificate.{checks_reported, counts_reported, dirs_reported, links_reported}
use Rattle.ffs_certificate.proofs.{GroupLaws.{phase5_silent, same_free}, VolumeLaws.{whole_is_volume, whole_unmarked}}
use Rattle.ffs_certificate.proofs.{VolumeLaws.same_whole, BlocksSilent.phase1_silent, ReportLaws.settings_reported}

none_append : (xs ys : List BlockMessage) → list_any is_class_message xs ≡ false → list_any is_class_message ys ≡ false
    → list_any is_class_message (xs ++ ys) ≡ false
none_append xs ys g h = simp (list_any-append, or_from)

offer_none : (v : Layout) (i : ℕ) (s : Claims) (f : ℕ) → list_any is_class_message (offer_lines v i s f) ≡ false
offer_none v i s f = grind arith

offers_none : (v : Layout) (i : ℕ) (s : Claims) (fs : List ℕ) → list_any is_class_message (lines_of_offers v i s fs)
    ≡ false
offers_none v i s [] = refl
offers_none v i s (f ∷ fs) = simp (none_append, offer_none, offers_none v i (after_offer v s f) fs)

run_none : (v : Layout) (i : ℕ) (s : Claims) (start len : ℕ) → list_any is_class_message (run_lines v i s start len)
    ≡ false
run_none v i s start len = grind (arith, offers_none)

step_none : (v : Layout) (i : ℕ) (s : Claims) (step : Step) → list_any is_class_message (step_lines v i s step) ≡ false
step_none v i s step = grind (arith, run_none)

steps_none : (v : Layout) (i : ℕ) (s : Claims) (steps : List Step) →
    list_any is_class_message (lines_of_steps v i s steps) ≡ false
steps_none v i s [] = refl
steps_none v i s (step ∷ steps) = simp (none_append, step_none, steps_none v i (after_step v s step) steps)

count_none : (v : Layout) (o : Owner) (end : Claims) → list_any is_class_message (count_lines v o end) ≡ false
count_none v o end = grind arith

class_some : (i : ℕ) (c : Class) → list_any is_class_message (class_lines i c) ≡ not (is_right_class c)
class_some i c = grind arith

owner_some : (v : Layout) (s : Claims) (o : Owner) → list_any is_class_message (owner_lines v s o)
    ≡ not (is_right_class o.class)
owner_some v s o = simp (list_any-append, class_some, steps_none, count_none, or-false)

owners_some : (v : Layout) (s : Claims) (os : List Owner) → list_any is_class_message (lines_of_owners v s os)
    ≡ not (list_all (λ o. is_right_class o.class) os)
owners_some v s [] = refl
owners_some v s (o ∷ os) = grind (arith, list_any-append, owner_some, owners_some v (after_owner v s o) os)

-- a class message is reported exactly where a class isn't right
pub classes_reported : (v : Layout) (os : List Owner) → list_any is_class_message (phase1_lines v os)
    ≡ not (list_all (λ o. is_right_class o.class) os)
unfolding phase1_lines
classes_reported v os = owners_some v (no_claims v) os

-- THE WHOLE
conditions : (image : List ℕ) (s : Superblock) → IsAcceptedLayout s.layout → ConditionsReported image s
conditions image s g =
    let v = s.layout in
    let volume = whole_is_volume v image g in
    let checks = checks_reported (whole_volume v image) volume in
    let dirs = dirs_reported (whole_volume v image) volume in
    let links = links_reported (whole_volume v image) volume in
    grind (
      arith,
      settings_reported,
      classes_reported,
      phase1_silent,
      same_whole,
      whole_unmarked,
      counts_reported,
      same_free,
      phase5_silent,
    )

pub conditions_reported : ConditionsAreReported
conditions_reported image sector s e = conditions image s (accepted_sound image sector s e).geometry
