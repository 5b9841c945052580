-- Blocks and fragments have sizes that are powers of two. A shift divides by one, and a mask gives
-- the remainder.
use Rattle.std.proofs.Common.{zero, suc, ◌≡◌, ◌==◌, ◌-◌, ◌/◌, ◌%◌, ◌^◌, ◌<◌, ◌≤◌, ℕ, List, [], ◌∷◌, true, refl, sym, ap}
use Rattle.std.{proofs.Common.{arith, bit_and, inl, inr, subst}, specs.Int.{IsPowerOfTwo, trailing_zeros, w32}}
use Rattle.std.{specs.Int.Count.count_trailing_zeros, proofs.lemmas.{Nat.and_mask, Bool.{or_cases, cases_lt}}}
use Rattle.std.proofs.{lemmas.Bool.Decides.nat_tests, Math.{Nat.pow-suc, Pow.pow_mono}}
use Rattle.ffs_volume.{proofs.GeometryLaws.shape_holds, specs.{declared.Layout.Layout, Laws.Geometry.IsAcceptedLayout}}
use Rattle.ffs_volume.specs.Disk.Outcome.{is_among, is_block_size, is_fragment_size, has_valid_sizes}

-- each of the numbers is a power of two
ArePowers : List ℕ → Type 0
ArePowers [] = Unit
ArePowers (x ∷ xs) = IsPowerOfTwo x × ArePowers xs

power_among : (xs : List ℕ) (n : ℕ) → ArePowers xs → is_among xs n ≡ true → IsPowerOfTwo n
unfolding ArePowers
power_among [] n p e = cc
power_among (x ∷ xs) n p e = elim (or_cases (n == x) (is_among xs n) e) [
  | inl here ↦ let same : x ≡ n = grind (arith, nat_tests) in subst IsPowerOfTwo same p.0
  | inr there ↦ power_among xs n p.1 there
]

-- the sizes of blocks and fragments of an accepted layout
block_power : (n : ℕ) → is_block_size n ≡ true → IsPowerOfTwo n
unfolding is_block_size ArePowers
block_power n e = power_among (4096 ∷ 8192 ∷ 16384 ∷ 32768 ∷ 65536 ∷ []) n
    ((12, refl), ((13, refl), ((14, refl), ((15, refl), ((16, refl), tt))))) e

fragment_power : (n : ℕ) → is_fragment_size n ≡ true → IsPowerOfTwo n
unfolding is_fragment_size ArePowers
fragment_power n e = power_among (512 ∷ 1024 ∷ 2048 ∷ 4096 ∷ 8192 ∷ 16384 ∷ 32768 ∷ 65536 ∷ []) n
    ((9, refl), ((10, refl), ((11, refl), ((12, refl), ((13, refl), ((14, refl), ((15, refl), ((16, refl), tt)))))))) e

pub bsize_power : (v : Layout) → IsAcceptedLayout v → IsPowerOfTwo v.bsize
unfolding has_valid_sizes
bsize_power v g =
    let e = (shape_holds v g.shaped).0 in
    let b : is_block_size v.bsize ≡ true = grind (arith, nat_tests) in
    block_power v.bsize b

pub fsize_power : (v : Layout) → IsAcceptedLayout v → IsPowerOfTwo v.fsize
unfolding has_valid_sizes
fsize_power v g =
    let e = (shape_holds v g.shaped).0 in
    let f : is_fragment_size v.fsize ≡ true = grind (arith, nat_tests) in
    fragment_power v.fsize f

-- a power of two ends with as many zeros as its exponent
zeros_of_power : (w k : ℕ) → k < w → count_trailing_zeros w (2 ^ k) ≡ k
unfolding count_trailing_zeros
zeros_of_power zero k h = absurd (omega (arith, h))
zeros_of_power (suc w) zero h = refl
zeros_of_power (suc w) (suc k) h =
    let e = pow-suc 2 k in
    grind (arith, e, zeros_of_power w k)

-- so it is 2 to the power of the zeros that it ends with
pub power_of_zeros : (n : ℕ) → IsPowerOfTwo n → n < 2 ^ 32 → n ≡ 2 ^ trailing_zeros w32 n
power_of_zeros n p small = elim (cases_lt p.0 32) [
  | inl less ↦ let zeros = zeros_of_power 32 p.0 less in grind (arith, p.1, zeros)
  | inr more ↦ let above : 2 ^ 32 ≤ 2 ^ p.0 = pow_mono more in absurd (omega (arith, p.1, above, small))
]

-- a shift by the zeros that a power of two ends with divides by it
pub shifted : (size n : ℕ) → IsPowerOfTwo n → n < 2 ^ 32 → size / 2 ^ trailing_zeros w32 n ≡ size / n
shifted size n p small = ap (λ m. size / m) (sym (power_of_zeros n p small))

-- a mask of the bits below a power of two gives the remainder
pub masked : (size n : ℕ) → IsPowerOfTwo n → bit_and size (n - 1) ≡ size % n
masked size n p = grind (arith, and_mask)
