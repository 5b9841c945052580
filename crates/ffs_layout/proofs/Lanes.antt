-- Bytes that are looked at together, and where the first is that passes a test.
use Rattle.std.proofs.Common.{zero, suc, ◌≡◌, ◌||◌, ◌∷◌, ◌≤◌, ◌∙◌, ◌%◌, ◌^◌, [], ap, refl, inl, inr, ℕ, List, cond, eqb}
use Rattle.std.{proofs.Common.{arith, take, length, map, true, false, Bool, not}, specs.Prelude.{nat_lt, bit_or}}
use Rattle.std.{specs.List.{list_any, prefix_len}, proofs.lemmas.{Bool.cases_eq, List.length-map}}
use Rattle.std.proofs.lemmas.Simd.{leading_from_mask_l, trailing_mask_l, map-map, mask_l-mod}
use lib.Count.{count_trailing_zeros}
use lib.Lanes.{mask_l, top}
use Rattle.ffs_layout.specs.Entry.{any_nul_or_slash}

-- the first that passes is among the first few just where one of those passes
first_among : (test : ℕ → Bool) (xs : List ℕ) (n : ℕ) → n ≤ length xs →
    nat_lt (prefix_len (λ x. not (test x)) xs) n ≡ list_any test (take n xs)
first_among test [] zero few = refl
first_among test [] (suc n) few = grind arith
first_among test (x ∷ xs) zero few = grind arith
first_among test (x ∷ xs) (suc n) few = grind (arith, first_among test xs n (omega arith))

none_set : count_trailing_zeros 64 0 ≡ 64
unfolding count_trailing_zeros
none_set = refl

-- the place of the lowest bit, and so of the first that passes
bit_among : (test : ℕ → Bool) (xs : List ℕ) (n : ℕ) → n ≤ length xs → length xs ≤ 64 →
    nat_lt (count_trailing_zeros 64 (mask_l (map test xs))) n ≡ list_any test (take n xs)
bit_among test xs n few most =
    elim (cases_eq (mask_l (map test xs)) 0) [
      | inl none ↦
          grind (arith, ap (count_trailing_zeros 64) none, none_set, first_among test xs n few, leading_from_mask_l test xs none)
      | inr some ↦
          ap (λ k. nat_lt k n) (trailing_mask_l test 64 xs most (omega arith)) ∙ first_among test xs n few
    ]

either_passes : (xs : List ℕ) → list_any (λ x. eqb x 0 || eqb x 47) xs ≡ any_nul_or_slash xs
either_passes [] = refl
either_passes (x ∷ xs) = grind (arith, either_passes xs)

-- a lane's mark of two comparisons, as a test
marked : (a b : Bool) → top 7 (bit_or (cond a 255 0) (cond b 255 0)) ≡ (a || b)
marked false false = refl
marked false true = refl
marked true false = refl
marked true true = refl

map_same : (f g : ℕ → Bool) → ((x : ℕ) → f x ≡ g x) → (xs : List ℕ) → map f xs ≡ map g xs
map_same f g same [] = refl
map_same f g same (x ∷ xs) = λ i. same x i ∷ map_same f g same xs i

abbrev pub mark : ℕ → ℕ
mark x = bit_or (cond (eqb x 0) 255 0) (cond (eqb x 47) 255 0)

-- the lanes that are NUL or `/` say whether one of the first few bytes is
pub lanes_tell : (xs lanes : List ℕ) (n : ℕ) → n ≤ length xs → length xs ≤ 64 → lanes ≡ map mark xs →
    nat_lt (count_trailing_zeros 64 (mask_l (map (top 7) lanes) % 2 ^ 64)) n ≡ any_nul_or_slash (take n xs)
lanes_tell xs lanes n few most are =
    let test : ℕ → Bool = λ x. eqb x 0 || eqb x 47 in
    let set = ap (map (top 7)) are
    ∙ (map-map (top 7) mark xs ∙ map_same (λ x. top 7 (mark x)) test (λ x. marked (eqb x 0) (eqb x 47)) xs) in
    ap (λ ms. nat_lt (count_trailing_zeros 64 (mask_l ms % 2 ^ 64)) n) set
    ∙ ap (λ m. nat_lt (count_trailing_zeros 64 m) n) (mask_l-mod (map test xs) 64 (omega (arith, length-map xs test)))
    ∙ bit_among test xs n few most
    ∙ either_passes (take n xs)
