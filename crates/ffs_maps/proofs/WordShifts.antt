-- Bits that are 0 or 1, and shifts of words by bits.
use Rattle.std.proofs.Common.{◌≡◌, ℕ, zero, suc, ◌<◌, cond, nat_eq, min, max, arith, refl, ◌+◌, ◌-◌, ◌*◌, ◌/◌, ◌%◌, ◌^◌}
use Rattle.std.proofs.{Common.{◌≤◌, List, get_or, bit_or, bit_and, ap, ◌∙◌, sym, not, add-zero}, lemmas.Bool.lt-ltb}
use Rattle.std.proofs.lemmas.Nat.{div-add-mod', one_shl, Bits.{bit_at_or, bit_at_and, bit_at_not, bit_at-zero}}
use Rattle.std.proofs.lemmas.Nat.Bits.{bit_at-lt, bit_at_ones, bit_at_ones_above, bit_at_above, bit_at_cat_low}
use Rattle.std.{proofs.{lemmas.Nat.Bits.bit_at_cat_high, Math.Nat.one-le-pow}, specs.Int.{bit_at, w64}}
use Rattle.ffs_maps.{specs.{Bits.is_clear, WordBits.bits_of_words}, proofs.Bits.bit_in}

pub one_bit : (b : ℕ) → b < 2 → b ≡ cond (nat_eq b 1) 1 0
one_bit b h = grind arith

pub min_zero : (a b : ℕ) → b ≡ 0 → min a b ≡ 0
min_zero a b e = omega arith

pub max_zero : (a b : ℕ) → b ≡ 0 → max a b ≡ a
max_zero a b e = omega arith

pub zero_max : (a b : ℕ) → a ≡ 0 → max a b ≡ b
zero_max a b e = omega arith

some_pow : (s : ℕ) → 0 < 2 ^ s
some_pow s = omega (arith, one-le-pow s 2 (omega arith))

pub bit_mod : (n w k : ℕ) → k < w → bit_at (n % 2 ^ w) k ≡ bit_at n k
bit_mod n w k h = sym (bit_at_cat_low (n / 2 ^ w) w (n % 2 ^ w) k h) ∙ ap (λ x. bit_at x k) (div-add-mod' n (2 ^ w))

pub bit_shr : (n s k : ℕ) → bit_at (n / 2 ^ s) k ≡ bit_at n (k + s)
bit_shr n s k =
    let below : n % 2 ^ s < 2 ^ s = omega (arith, some_pow s) in
    let back : k + s - s ≡ k = omega arith in
    sym (ap (λ x. bit_at x (k + s)) (sym (div-add-mod' n (2 ^ s)))
    ∙ bit_at_cat_high (n / 2 ^ s) s (n % 2 ^ s) (k + s) below (omega arith) ∙ rw back refl)

pub bit_shl_low : (x s k : ℕ) → k < s → bit_at (x * 2 ^ s) k ≡ 0
bit_shl_low x s k h = rw (← (add-zero (x * 2 ^ s))) (bit_at_cat_low x s 0 k h ∙ bit_at-zero k)

pub bit_shl_high : (x s k : ℕ) → s ≤ k → bit_at (x * 2 ^ s) k ≡ bit_at x (k - s)
bit_shl_high x s k h = rw (← (add-zero (x * 2 ^ s))) (bit_at_cat_high x s 0 k (some_pow s) h)

-- a fragment of the map, by its bit in the turned word
pub clear_is : (words : List ℕ) (size index k w : ℕ) → k < 64 → w < 2 ^ 64 → w ≡ get_or words index 0 →
    64 * index + k < size →
    nat_eq (bit_at (2 ^ 64 - 1 - w) k) 1 ≡ is_clear (bits_of_words words size) size (64 * index + k)
clear_is words size index k w h fits e low =
    rw (
      bit_at_not w64 w k fits h,
      bit_in words size (64 * index + k) index k w low (omega arith) (omega arith) e,
      lt-ltb (64 * index + k) size low,
    ) (flip (bit_at w k) (bit_at-lt w k))
  where
    flip : (b : ℕ) → b < 2 → nat_eq (1 - b) 1 ≡ not (nat_eq b 1)
    flip zero h = refl
    flip (suc zero) h = refl
    flip (suc (suc b)) h = absurd (omega arith)

pub small : (n : ℕ) → n < 64 → 1 * 2 ^ n % 2 ^ 64 - 1 ≡ 2 ^ n - 1
small n h = ap (λ x. x - 1) (one_shl n 64 h)

-- the last word, cut off at the size
pub clear_in_last : (words : List ℕ) (size index k w : ℕ) → k < 64 → w < 2 ^ 64 → w ≡ get_or words index 0 →
    64 * index ≤ size → size - 64 * index < 64 →
    nat_eq (bit_at (bit_and (2 ^ 64 - 1 - w) (1 * 2 ^ (size - 64 * index) % 2 ^ 64 - 1)) k) 1
    ≡ is_clear (bits_of_words words size) size (64 * index + k)
clear_in_last words size index k w h fits e within last =
    grind (arith, small, bit_at_and, bit_at_ones, clear_is, bit_at_ones_above)

-- two words, put together at a place
pub joined : (a b low k : ℕ) → a < 2 ^ 64 → low < 64 → k < 64 → k + low < 64 →
    bit_at (bit_or (a / 2 ^ low) (b * 2 ^ (64 - low) % 2 ^ 64)) k ≡ bit_at a (k + low)
joined a b low k fits h hk inside =
    bit_at_or (a / 2 ^ low) (b * 2 ^ (64 - low) % 2 ^ 64) k
    ∙ max_zero _ _ (bit_mod (b * 2 ^ (64 - low)) 64 k hk ∙ bit_shl_low b (64 - low) k (omega arith))
    ∙ bit_shr a low k

pub joined_above : (a b low k : ℕ) → a < 2 ^ 64 → low < 64 → k < 64 → 64 ≤ k + low →
    bit_at (bit_or (a / 2 ^ low) (b * 2 ^ (64 - low) % 2 ^ 64)) k ≡ bit_at b (k - (64 - low))
joined_above a b low k fits h hk above =
    bit_at_or (a / 2 ^ low) (b * 2 ^ (64 - low) % 2 ^ 64) k
    ∙ zero_max _ _ (bit_shr a low k ∙ bit_at_above a 64 (k + low) fits above)
    ∙ bit_mod (b * 2 ^ (64 - low)) 64 k hk ∙ bit_shl_high b (64 - low) k (omega arith)
