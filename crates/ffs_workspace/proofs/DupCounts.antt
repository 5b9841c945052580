-- How many bits of a map are set, by its fragments and by its list.
use Rattle.std.proofs.Common.{◌≡◌, ℕ, suc, ◌+◌, Bool, false, List, [], ◌∷◌, length, count_by, if◌then◌else◌, arith}
use Rattle.std.{proofs.Common.{refl, ap, ◌∙◌}, specs.List.{range_with_len, slice_index_or}}
use Rattle.std.proofs.lemmas.List.Sums.{sum_by-cons}
use Rattle.ffs_maps.specs.WordBits.{set_among}
use Rattle.ffs_volume.specs.Blocks.BlockCheck.{set_count}

count_from : (p : ℕ → Bool) (bits : List Bool) (a : ℕ) → ((i : ℕ) → p (a + i) ≡ slice_index_or bits i false) →
    count_by p (range_with_len a (length bits)) ≡ set_count bits
count_from p [] a h = refl
count_from p (bit ∷ bits) a h =
    let here : p a ≡ bit = ap p (omega arith) ∙ h 0 in
    let more : count_by p (range_with_len (a + 1) (length bits)) ≡ set_count bits =
    count_from p bits (a + 1) (λ i. ap p (omega arith) ∙ h (suc i)) in
    let places = sum_by-cons (λ f. if p f then 1 else 0) a (range_with_len (a + 1) (length bits)) in
    let set = sum_by-cons (λ (b : Bool). if b then 1 else 0) bit bits in
    omega (arith, places, ap {B = ℕ} (λ (b : Bool). if b then 1 else 0) here, more, set)

pub count_all : (bits : List Bool) → set_among bits 0 (length bits) ≡ set_count bits
count_all bits = grind (arith, count_from)
