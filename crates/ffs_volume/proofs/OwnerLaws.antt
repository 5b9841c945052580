-- Laws of `specs/Blocks/Owners`: the claims of one inode after another.
use Rattle.std.proofs.Common.{◌≡◌, ℕ, ◌+◌, ◌-◌, ◌≤◌, List, [], ◌∷◌, ◌++◌, map, refl, arith}
use Rattle.std.{proofs.lemmas.List.FromFn.map-range_with_len_more, specs.List.range_with_len}
use Rattle.ffs_volume.specs.Blocks.{Owners.Owner, Owners.owner_of, Claims.Claims, Claims.no_claims, Claims.after_owner}
use Rattle.ffs_volume.specs.{Blocks.Claims.after_owners, declared.Layout.Layout, Blocks.KeptSteps.claims_before}

owners_append : (v : Layout) (s : Claims) (xs ys : List Owner) →
    after_owners v s (xs ++ ys) ≡ after_owners v (after_owners v s xs) ys
owners_append v s [] ys = refl
owners_append v s (x ∷ xs) ys = owners_append v (after_owner v s x) xs ys

-- what is known before the next inode
pub before_next : (v : Layout) (bytes : List ℕ) (x : ℕ) → 2 ≤ x →
    claims_before v bytes (x + 1) ≡ after_owner v (claims_before v bytes x) (owner_of v bytes x)
unfolding claims_before
before_next v bytes x low =
    let more : x + 1 - 2 ≡ x - 2 + 1 = omega arith in
    rw (more, map-range_with_len_more (owner_of v bytes) 2 (x - 2) x (omega arith))
    (owners_append v (no_claims v) (map (owner_of v bytes) (range_with_len 2 (x - 2))) (owner_of v bytes x ∷ []))
