-- How many bits of a run are set.
use Rattle.std.proofs.Common.{◌≡◌, ℕ, zero, suc, ◌+◌, ◌-◌, ◌*◌, ◌/◌, ◌%◌, ◌^◌, ◌<◌, ◌≤◌, Bool, false, List, cond, map}
use Rattle.std.proofs.Common.{get_or, bit_and, count_ones, count_by, arith, refl, ap, ◌∙◌, sym, add-zero}
use Rattle.std.proofs.lemmas.List.{get_or_past, Sums.{sum_by-cons, count_by-le-length}, FromFn.length-range_with_len}
use Rattle.std.proofs.lemmas.{List.FromFn.{length-map-range_with_len, get_or-map-range_with_len}, Simd.bit_mask_l}
use Rattle.std.proofs.lemmas.{Simd.ones-mask_l, Nat.Bits.{bit_at_and, bit_at-lt, bit_at_above, bit_at_ones}}
use Rattle.std.{proofs.lemmas.Nat.Bits.{bit_at_ones_above, same_from_bits, ones_shr}, specs.List.range_with_len}
use Rattle.std.specs.{List.{sum_by, slice_index_or}, Int.bit_at}
use lib.Lanes.{mask_l}
use Rattle.ffs_maps.{specs.WordBits.{bits_of_words, set_among}, proofs.{Bits.bit_in, WordShifts.{bit_shr, one_bit}}}

-- the place of the next number
pub one_on : (a k : ℕ) → a + 1 + k ≡ a + (k + 1)
one_on a k = omega arith

-- a count over a run, in two parts
pub sum_split : (f : ℕ → ℕ) (a n m t : ℕ) → t ≡ n + m → sum_by f (range_with_len a t) ≡ sum_by f (range_with_len a n)
    + sum_by f (range_with_len (a + n) m)
sum_split f a zero m t e = let same : t ≡ m = omega (arith, e) in rw (add-zero a, same) (omega arith)
sum_split f a (suc n) m zero e = absurd (omega arith)
sum_split f a (suc n) m (suc t) e = grind (arith, sum_by-cons, sum_split f (a + 1) n m t (omega (arith, e)))

pub sum_same : (f g : ℕ → ℕ) (a c n : ℕ) → ((k : ℕ) → k < n → f (a + k) ≡ g (c + k)) →
    sum_by f (range_with_len a n) ≡ sum_by g (range_with_len c n)
sum_same f g a c zero e = refl
sum_same f g a c (suc n) e =
    let first : f a ≡ g c = rw (add-zero a, add-zero c) at (e 0 (omega arith)) in
    let rest = sum_same f g (a + 1) (c + 1) n (λ k h. rw (one_on a k, one_on c k) (e (k + 1) (omega arith))) in
    omega (arith, rest, first, sum_by-cons f a (range_with_len (a + 1) n), sum_by-cons g c (range_with_len (c + 1) n))

-- a sum of equal numbers
pub sum_const : (f : ℕ → ℕ) (m a n : ℕ) → ((k : ℕ) → k < n → f (a + k) ≡ m) → sum_by f (range_with_len a n) ≡ n * m
sum_const f m a zero e = omega arith
sum_const f m a (suc n) e =
    let first : f a ≡ m = rw (add-zero a) at (e 0 (omega arith)) in
    let rest = sum_const f m (a + 1) n (λ k h. rw (one_on a k) (e (k + 1) (omega arith))) in
    omega (arith, rest, first, sum_by-cons f a (range_with_len (a + 1) n))

pub count_join : (p : ℕ → Bool) (a n m t x y : ℕ) → t ≡ n + m → x ≡ count_by p (range_with_len a n) →
    y ≡ count_by p (range_with_len (a + n) m) → x + y ≡ count_by p (range_with_len a t)
count_join p a n m t x y e f g = omega (arith, f, g, sum_split (λ j. cond (p j) 1 0) a n m t e)

-- the same, by the places where the parts begin and end
pub count_join_at : (p : ℕ → Bool) (a b end m x y : ℕ) → a ≤ b → b + m ≡ end → x ≡ count_by p (range_with_len a (b - a))
    → y ≡ count_by p (range_with_len b m) → x + y ≡ count_by p (range_with_len a (end - a))
count_join_at p a b end m x y h e f g =
    let at : b ≡ a + (b - a) = omega arith in
    count_join p a (b - a) m (end - a) x y (omega (arith, e, h)) f (g ∙ ap (λ j. count_by p (range_with_len j m)) at)

pub count_within : (p : ℕ → Bool) (a n : ℕ) → count_by p (range_with_len a n) ≤ n
count_within p a n = omega (arith, count_by-le-length p (range_with_len a n), length-range_with_len a n)

-- a number whose bits are tests of the places from a on, and which has no other bits
pub ones_by : (p : ℕ → Bool) (x a n : ℕ) → ((i : ℕ) → i < n → bit_at x i ≡ cond (p (a + i)) 1 0) →
    ((i : ℕ) → n ≤ i → bit_at x i ≡ 0) → count_ones x ≡ count_by p (range_with_len a n)
ones_by p x a n low high =
    ap count_ones (same_from_bits x (mask_l (map p (range_with_len a n)))
    (λ i. at i ∙ sym (bit_mask_l (map p (range_with_len a n)) i)))
    ∙ ones-mask_l p (range_with_len a n)
  where
    at : (i : ℕ) → bit_at x i ≡ cond (get_or (map p (range_with_len a n)) i false) 1 0
    at i = grind (arith, get_or-map-range_with_len, get_or_past, length-map-range_with_len)

-- the bits of one word that are counted
pub ones_in_word : (words : List ℕ) (size start len w : ℕ) → start % 64 + len ≤ 64 → start + len ≤ size →
    w ≡ get_or words (start / 64) 0 →
    count_ones (bit_and (w / 2 ^ (start % 64)) ((2 ^ 64 - 1) / 2 ^ (64 - len)))
    ≡ set_among (bits_of_words words size) start len
ones_in_word words size start len w h below is =
    let twice : 64 - (64 - len) ≡ len = omega arith in
    rw (ones_shr 64 (64 - len) (omega arith), twice)
    (ones_by (λ f. slice_index_or (bits_of_words words size) f false) (bit_and (w / 2 ^ (start % 64)) (2 ^ len - 1))
    start len low high)
  where
    low : (i : ℕ) → i < len → bit_at (bit_and (w / 2 ^ (start % 64)) (2 ^ len - 1)) i
        ≡ cond (slice_index_or (bits_of_words words size) (start + i) false) 1 0
    low i l = grind (arith, bit_in, bit_at_and, bit_at_ones, bit_shr, one_bit)

    high : (i : ℕ) → len ≤ i → bit_at (bit_and (w / 2 ^ (start % 64)) (2 ^ len - 1)) i ≡ 0
    high i l = omega (arith, bit_at_and (w / 2 ^ (start % 64)) (2 ^ len - 1) i, bit_at_ones_above len i l)

-- the bits of a whole word
pub ones_of_word : (words : List ℕ) (size index w : ℕ) → w < 2 ^ 64 → w ≡ get_or words index 0 →
    64 * index + 64 ≤ size → count_ones w
    ≡ set_among (bits_of_words words size) (64 * index) 64
ones_of_word words size index w fits is below =
    ones_by (λ f. slice_index_or (bits_of_words words size) f false) w (64 * index) 64
    (λ i l. rw (bit_in words size (64 * index + i) index i w (omega arith) (omega arith) (omega arith) is)
    (one_bit (bit_at w i) (bit_at-lt w i)))
    (λ i l. bit_at_above w 64 i fits l)

-- the bits of some words that are all the same
pub alike_words : (words : List ℕ) (size first n w : ℕ) → w < 2 ^ 64 → 64 * (first + n) ≤ size →
    ((k : ℕ) → k < n → get_or words (first + k) 0 ≡ w) → n * count_ones w
    ≡ set_among (bits_of_words words size) (64 * first) (64 * n)
alike_words words size first zero w fits below alike = omega arith
alike_words words size first (suc n) w fits below alike =
    let place : 64 * (first + n) ≡ 64 * first + 64 * n = omega arith in
    let all = count_join (λ f. slice_index_or (bits_of_words words size) f false) (64 * first) (64 * n) 64 (64 * suc n)
    _ _ (omega arith) (alike_words words size first n w fits (omega (arith, below)) (λ k h. alike k (omega (arith, h))))
    (rw place at
    (ones_of_word words size (first + n) w fits (sym (alike n (omega arith))) (omega (arith, below)))) in
    omega (arith, all)

pub none_counted : (p : ℕ → Bool) (a n : ℕ) → ((k : ℕ) → k < n → p (a + k) ≡ false) →
    count_by p (range_with_len a n) ≡ 0
none_counted p a n none = omega (arith, sum_const (λ j. cond (p j) 1 0) 0 a n (λ k h. rw (none k h) refl))
