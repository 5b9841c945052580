-- What is known of an image's volume, and that all is kept where the block check is silent.
use Rattle.std.proofs.Common.{zero, suc, ◌≡◌, ℕ, ◌+◌, ◌-◌, ◌*◌, ◌<◌, ◌≤◌, true, false, arith, refl, sym, ap, ◌∙◌, List}
use Rattle.std.proofs.{Common.{[], ◌∷◌, map, Bool}, lemmas.{Bool.and_parts, List.Folds.list_all-map}}
use Rattle.std.{proofs.lemmas.List.FromFn.length-range_with_len, specs.List.range_with_len}
use Rattle.ffs_volume.specs.{declared.{Step.Step, Layout.Layout}, Blocks.Claims.{Claims, no_claims, reserved_map}}
use Rattle.ffs_volume.specs.Blocks.{Claims.{at_next_inode, after_step, after_owner, after_owners}, BlockCheck.is_marked}
use Rattle.ffs_volume.specs.Blocks.{KeptSteps.{kept_steps, claims_before, kept_steps_of}, Inodes.{inode_of, class_of}}
use Rattle.ffs_volume.specs.{Blocks.{Owners.{owner_of, owners_of}, Steps.steps_of}, Directories.Volumes.is_inode_number}
use Rattle.ffs_volume.specs.Directories.Volumes.{class_at, marked_at, steps_of_inode, kept_steps_of_inode, volume_with}
use Rattle.ffs_volume.specs.Directories.{Volumes.{volume_of, whole_volume}, Roles.roled_entries}
use Rattle.ffs_volume.specs.{Consistent.BlocksRight.{is_right_class, BlocksRight}, Laws.Geometry.IsAcceptedLayout}
use Rattle.ffs_volume.proofs.Sizes.{no_steps}
use Rattle.ffs_certificate.{specs.Premises.{IsVolume, IsUnmarked}, proofs.BlockLaws.{NothingReported, unreported_open, are_steps_silent}}
use Rattle.ffs_certificate.proofs.BlockLaws.{step_claims, is_owner_silent, are_owners_silent, owner_claims, owners_from}
use Rattle.ffs_certificate.proofs.{BlocksSilent.{right_quiet, blocks_silent}, GroupLaws.all_at}

steps_kept_quiet : (v : Layout) (s : Claims) (steps : List Step) → NothingReported s → are_steps_silent v s.used steps ≡ true →
    kept_steps v s steps ≡ steps
steps_kept_quiet v s [] c e = refl
steps_kept_quiet v s (step ∷ steps) c e =
    let rest = steps_kept_quiet v (after_step v s step) steps in grind (arith, step_claims, unreported_open, length-range_with_len)

kept_at : (v : Layout) (image : List ℕ) (s : Claims) (a k d x : ℕ) → a + d ≡ x → d < k →
    are_owners_silent v s.used (map (owner_of v image) (range_with_len a k)) ≡ true →
    kept_steps v (at_next_inode (after_owners v s (map (owner_of v image) (range_with_len a d))))
    (steps_of v (inode_of v image x) image) ≡ steps_of v (inode_of v image x) image
unfolding owner_of
kept_at v image s a zero d x e lt q = absurd (omega arith)
kept_at v image s a (suc k) zero x e lt q = grind (arith, steps_kept_quiet)
kept_at v image s a (suc k) (suc d) x e lt q =
    let parts = and_parts (is_owner_silent v s.used (owner_of v image a)) _ q in
    kept_at v image (after_owner v s (owner_of v image a)) (a + 1) k d x (omega (arith, e)) (omega arith)
    (ap (λ u. are_owners_silent v u (map (owner_of v image) (range_with_len (a + 1) k)))
    (owner_claims v s (owner_of v image a) parts.0).used ∙ parts.1)

-- each step of each inode is kept
pub all_kept : (v : Layout) (image : List ℕ) → BlocksRight v (owners_of v image) → (x : ℕ) → 2 ≤ x → x < v.ncg * v.ipg →
    kept_steps_of v image x ≡ steps_of v (inode_of v image x) image
unfolding kept_steps_of claims_before owners_of no_claims
all_kept v image r x low high =
    kept_at v image (no_claims v) 2 (v.ncg * v.ipg - 2) (x - 2) x (omega arith) (omega arith)
    (owners_from v (reserved_map v) (owners_of v image) (right_quiet v (owners_of v image) r))

-- no inode is marked
pub none_marked : (v : Layout) (image : List ℕ) → BlocksRight v (owners_of v image) → (x : ℕ) → 2 ≤ x →
    x < v.ncg * v.ipg → is_marked v image x ≡ false
unfolding is_marked owners_of owner_of
none_marked v image r x low high =
    let none = (blocks_silent v (owners_of v image)).1 r in
    let whole = all_at (λ y. is_right_class (class_of v (inode_of v image y))) 2 (v.ncg * v.ipg - 2) x in
    grind (arith, list_all-map)

-- each volume of an image is one of those that the laws on directories speak of
volume_is : (v : Layout) (image : List ℕ) (steps : ℕ → List Step) (marked : ℕ → Bool) → IsAcceptedLayout v →
    ((d : ℕ) → is_inode_number v d ≡ true → (inode_of v image d).size ≡ 0 → steps d ≡ []) →
    IsVolume (volume_with v image steps marked)
unfolding volume_with roled_entries class_of
volume_is v image steps marked g none = grind arith

steps_none : (v : Layout) (image : List ℕ) → IsAcceptedLayout v → (d : ℕ) → is_inode_number v d ≡ true →
    (inode_of v image d).size ≡ 0 → steps_of v (inode_of v image d) image ≡ []
steps_none v image g d number z = grind (arith, no_steps)

pub whole_is_volume : (v : Layout) (image : List ℕ) → IsAcceptedLayout v → IsVolume (whole_volume v image)
unfolding whole_volume
whole_is_volume v image g = grind (arith, volume_is, steps_none)

-- where the blocks are right, each inode is free, a file or a directory
whole_number : (v : Layout) (image : List ℕ) → BlocksRight v (owners_of v image) → (x : ℕ) → is_inode_number v x ≡ true
    → is_right_class (class_of v (inode_of v image x)) ≡ true
unfolding owners_of owner_of
whole_number v image r x h =
    let whole = all_at (λ y. is_right_class (class_of v (inode_of v image y))) 2 (v.ncg * v.ipg - 2) x in
    grind (arith, list_all-map)

whole_class : (v : Layout) (image : List ℕ) → BlocksRight v (owners_of v image) → (x : ℕ) →
    is_right_class (class_at v image x) ≡ true
whole_class v image r x = grind (arith, whole_number)

pub whole_unmarked : (v : Layout) (image : List ℕ) → BlocksRight v (owners_of v image) →
    IsUnmarked (whole_volume v image)
unfolding whole_volume volume_with
whole_unmarked v image r = record {
  marked = λ x. refl;
  known = λ x e. (let w : false ≡ true = sym (ap is_right_class e) ∙ whole_class v image r x in cc);
  whole = λ x e. (let w : false ≡ true = sym (ap is_right_class e) ∙ whole_class v image r x in cc);
}

-- where the blocks are right, the volume of the kept steps is that of all steps
same_steps : (v : Layout) (image : List ℕ) → BlocksRight v (owners_of v image) →
    kept_steps_of_inode v image ≡ steps_of_inode v image
same_steps v image r = grind (arith, all_kept)

same_marks : (v : Layout) (image : List ℕ) → BlocksRight v (owners_of v image) → marked_at v image ≡ (λ x. false)
same_marks v image r = grind (arith, none_marked)

pub same_whole : (v : Layout) (image : List ℕ) → BlocksRight v (owners_of v image) →
    volume_of v image ≡ whole_volume v image
unfolding volume_of whole_volume
same_whole v image r = simp (same_steps, same_marks)
