-- A bound on the Runs that are seen: one for each fragment, and 22 for each inode.
use Rattle.std.proofs.Common.{◌≡◌, ℕ, ◌+◌, ◌*◌, ◌≤◌, List, [], ◌∷◌, length, arith, ◌∙◌, map}
use Rattle.std.proofs.lemmas.List.{FromFn.{length-range_with_len, length-map-range_with_len}, Sums.count_by-le-length}
use Rattle.ffs_volume.{proofs.Potentials.owner_moves, specs.Blocks.Claims.{Claims, reserved_map, no_claims, all_claims}}
use Rattle.ffs_volume.specs.Blocks.{Claims.{after_owner, after_owners}, Owners.{owner_of, owners_of}}
use Rattle.ffs_volume.specs.{Laws.{ClaimBounds.used_bits, Geometry.IsAcceptedLayout}, Report.Memory.runs_limit}
use Rattle.ffs_volume.specs.{Report.Whole.run_count, declared.Layout.Layout}

-- over inodes, what is beside a first claim is at most 22 for each, and the map keeps its length
pub inodes_move : (v : Layout) (image : List ℕ) (s : Claims) (xs : List ℕ) → IsAcceptedLayout v → length s.used ≡ v.size →
    ((after_owners v s (map (owner_of v image) xs)).runs + used_bits s ≤ s.runs
    + used_bits (after_owners v s (map (owner_of v image) xs)) + 22 * length xs)
    × (length (after_owners v s (map (owner_of v image) xs)).used ≡ v.size)
inodes_move v image s [] g h = (omega arith, h)
inodes_move v image s (x ∷ xs) g h =
    let one = owner_moves v image s x g h in
    omega (arith, inodes_move v image (after_owner v s (owner_of v image x)) xs g (one.used_length ∙ h))

pub runs_bounded : (v : Layout) (image : List ℕ) → IsAcceptedLayout v → run_count v image ≤ runs_limit v
unfolding run_count all_claims owners_of no_claims reserved_map
runs_bounded v image g =
    grind (arith, inodes_move, length-map-range_with_len, length-range_with_len, count_by-le-length)
