-- The cut of an inode fits 32 bits, and says which of its steps are kept.
use Rattle.std.proofs.Common.{◌≡◌, ℕ, ◌<◌, ◌^◌, true, arith, ◌∙◌, List, length, refl}
use Rattle.std.{proofs.lemmas.List.FromFn.length-map-range_with_len}
use Rattle.ffs_volume.{specs.Blocks.Owners.owner_of, proofs.Potentials.owner_moves}
use Rattle.ffs_volume.proofs.{Potentials.kept_bound, ReplayIsKeeping.replay_is_keeping, RunBounds.inodes_move}
use Rattle.ffs_volume.specs.Blocks.Claims.{no_claims, reserved_map, at_next_inode, after_steps}
use Rattle.ffs_volume.specs.Blocks.{Inodes.inode_of, KeptSteps.claims_before, KeptSteps.kept_steps_of, Steps.steps_of}
use Rattle.ffs_volume.specs.Directories.Volumes.{is_inode_number, kept_steps_of_inode}
use Rattle.ffs_volume.specs.Encodings.Replay.{cut_of, cut_at, fresh_replay, replayed_steps}
use Rattle.ffs_volume.specs.{Laws.Geometry.IsAcceptedLayout, declared.Layout.Layout}

-- the map keeps its length from inode to inode
pub before_length : (v : Layout) (image : List ℕ) (x : ℕ) → IsAcceptedLayout v → length (claims_before v image x).used ≡
    v.size
unfolding claims_before no_claims reserved_map
before_length v image x g = grind (arith, inodes_move, length-map-range_with_len)

-- an inode keeps fewer than 2^32 offers
kept_few : (v : Layout) (image : List ℕ) (x : ℕ) → IsAcceptedLayout v
    → (after_steps v (at_next_inode (claims_before v image x)) (steps_of v (inode_of v image x) image)).kept < 2 ^ 32
unfolding owner_of
kept_few v image x g =
    let h = before_length v image x g in
    let m = owner_moves v image (claims_before v image x) x g h in
    omega (arith, kept_bound _ _ v.size (m.used_length ∙ h) (omega arith) (omega arith) refl m, g.numbers.size_below)

-- so the cut in 32 bits is the cut
pub cut_is : (v : Layout) (image : List ℕ) (x : ℕ) → IsAcceptedLayout v → is_inode_number v x ≡ true
    → cut_at v image x ≡ cut_of
    (after_steps v (at_next_inode (claims_before v image x)) (steps_of v (inode_of v image x) image))
unfolding owner_of
cut_is v image x g h = grind (arith, kept_few)

-- and replaying an inode's steps with it gives those that are kept
pub replay_at : (v : Layout) (image : List ℕ) (x : ℕ) → IsAcceptedLayout v → is_inode_number v x ≡ true
    → replayed_steps v (cut_at v image x) fresh_replay (steps_of v (inode_of v image x) image)
    ≡ kept_steps_of_inode v image x
unfolding kept_steps_of
replay_at v image x g h = grind (arith, cut_is, replay_is_keeping)
