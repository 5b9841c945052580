-- A run of bits in one word.
use Rattle.std.proofs.Common.{◌≡◌, ◌⊎◌, inl, inr, ℕ, zero, suc, ◌+◌, ◌-◌, ◌*◌, ◌/◌, ◌%◌, ◌^◌, ◌<◌, ◌≤◌, Bool, true}
use Rattle.std.proofs.Common.{cond, false, List, length, get_or, nat_eq, slice_set, bit_or, bit_and, arith, refl, ap, ◌∙◌}
use Rattle.std.proofs.{Common.{sym, length-set, min}, lemmas.{List.{get_or-set_other, get_or-set_same}, Bool.{cases_eq, cases_lt, Decides.nat_tests}}}
use Rattle.std.proofs.lemmas.{Bool.eqb-false, Nat.{pow-add, shl_below, Bits.{bit_at_or, bit_at_and, bit_at-zero}}}
use Rattle.std.proofs.lemmas.Nat.Bits.{bit_at-lt, bit_at_mask_inside, bit_at_mask_below, bit_at_mask_above, ones_shr}
use Rattle.std.{proofs.{lemmas.Nat.Bits.same_from_bits, Math.Nat.{one-le-pow, pow-le-pow_right}}, specs.Int.bit_at}
use Rattle.ffs_maps.specs.Reserved.{is_between}
use Rattle.ffs_maps.{specs.{Bits.{set_run, AreClear}, WordBits.bits_of_words}, proofs.Bits.{is_bit, length_bits}}
use Rattle.ffs_maps.proofs.Bits.{get_bits, bit_in, bits_are}

-- the mask that the code computes
abbrev pub mask_of : ℕ → ℕ → ℕ
mask_of start len = (2 ^ 64 - 1) / 2 ^ (64 - len) * 2 ^ (start % 64) % 2 ^ 64

mask_is : (start len : ℕ) → start % 64 + len ≤ 64 → mask_of start len ≡ 2 ^ (start % 64 + len) - 2 ^ (start % 64)
mask_is start len h =
    let twice : 64 - (64 - len) ≡ len = omega arith in
    let some : 1 ≤ 2 ^ len = one-le-pow len 2 (omega arith) in
    let below : (2 ^ len - 1) * 2 ^ (start % 64) < 2 ^ (len + start % 64) = grind (arith, shl_below) in
    let fits : 2 ^ (len + start % 64) ≤ 2 ^ 64 = grind (arith, pow-le-pow_right) in
    rw (ones_shr 64 (64 - len) (omega arith), twice) (shifted (2 ^ len - 1) (2 ^ (start % 64)) (2 ^ len) _ (omega arith)
    (pow-add 2 (start % 64) len) (omega (arith, below, fits)))
  where
    shifted : (x b a ab : ℕ) → x + 1 ≡ a → ab ≡ b * a → x * b < 2 ^ 64 → x * b % 2 ^ 64 ≡ ab - b
    shifted x b a ab more e fits = let all : ab ≡ b * (x + 1) = rw more e in omega (arith, all, fits)

length_run : (bits : List Bool) (start len : ℕ) → length (set_run bits start len) ≡ length bits
length_run bits start zero = refl
length_run bits start (suc len) = length_run (slice_set bits start true) (start + 1) len ∙ length-set bits start true

pub run_outside : (bits : List Bool) (start len f : ℕ) (d : Bool) → (f < start) ⊎ (start + len ≤ f) →
    get_or (set_run bits start len) f d ≡ get_or bits f d
run_outside bits start zero f d h = refl
run_outside bits start (suc len) f d h =
    run_outside (slice_set bits start true) (start + 1) len f d
    (elim h [ inl a ↦ inl (omega arith) | inr b ↦ inr (omega arith) ])
    ∙ get_or-set_other bits start f true d (elim h [ inl a ↦ (λ e. omega arith) | inr b ↦ (λ e. omega arith) ])

pub run_inside : (bits : List Bool) (start len f : ℕ) (d : Bool) → start ≤ f → f < start + len → f < length bits →
    get_or (set_run bits start len) f d ≡ true
run_inside bits start zero f d a b h = absurd (omega arith)
run_inside bits start (suc len) f d a b h = elim (cases_eq f start) [
  | inl e ↦ grind (arith, run_outside, get_or-set_same)
  | inr apart ↦ run_inside (slice_set bits start true) (start + 1) len f d (omega arith) (omega arith)
      (omega (arith, length-set bits start true))
]

pub clear_run : (words : List ℕ) (size start len : ℕ) → start % 64 + len ≤ 64 → start + len ≤ size →
    bit_and (get_or words (start / 64) 0) (mask_of start len) ≡ 0 → AreClear (bits_of_words words size) start len
clear_run words size start len h below e = λ k low.
    let none = ap (λ x. bit_at x (start % 64 + k)) (rw (mask_is start len h) at e) in
    let clear : bit_at (get_or words (start / 64) 0) (start % 64 + k) ≡ 0 =
    grind (arith, bit_at_and, bit_at_mask_inside) in
    grind (arith, bit_in)

-- a run of clear bits has none in common with its mask
pub run_clear : (words : List ℕ) (size start len : ℕ) → start % 64 + len ≤ 64 → start + len ≤ size →
    AreClear (bits_of_words words size) start len → bit_and (get_or words (start / 64) 0) (mask_of start len) ≡ 0
run_clear words size start len h below clear = rw (mask_is start len h)
    (same_from_bits _ 0 (λ i. bit_at_and _ (2 ^ (start % 64 + len) - 2 ^ (start % 64)) i ∙ at i ∙ sym (bit_at-zero i)))
  where
    inside : (i : ℕ) → start % 64 ≤ i → i < start % 64 + len → bit_at (get_or words (start / 64) 0) i ≡ 0
    inside i a b =
        let none : nat_eq (bit_at (get_or words (start / 64) 0) i) 1 ≡ false =
        sym (bit_in words size (start + (i - start % 64)) (start / 64) i _
        (omega arith) (omega arith) (omega arith) refl) ∙ clear (i - start % 64) (omega arith) in
        omega (arith, bit_at-lt (get_or words (start / 64) 0) i, eqb-false _ 1 none)

    at : (i : ℕ) → min (bit_at (get_or words (start / 64) 0) i) (bit_at (2 ^ (start % 64 + len) - 2 ^ (start % 64)) i)
        ≡ 0
    at i = grind (arith, bit_at_mask_below, inside, bit_at_mask_above)

-- the word of a run is replaced, by one that has all bits of the run, and else the same ones
put_run : (words : List ℕ) (size start len v : ℕ) → start % 64 + len ≤ 64 → start + len ≤ size →
    start / 64 < length words →
    ((i : ℕ) → start % 64 ≤ i → i < start % 64 + len → nat_eq (bit_at v i) 1 ≡ true) →
    ((i : ℕ) → (i < start % 64) ⊎ (start % 64 + len ≤ i) → bit_at v i ≡ bit_at (get_or words (start / 64) 0) i) →
    bits_of_words (slice_set words (start / 64) v) size ≡ set_run (bits_of_words words size) start len
put_run words size start len v h below inside here other =
    bits_are (slice_set words (start / 64) v) size (set_run (bits_of_words words size) start len)
    (length_run (bits_of_words words size) start len ∙ length_bits words size) at
  where
    out : (f : ℕ) (d : Bool) → f < size → (f < start) ⊎ (start + len ≤ f) →
        is_bit words f ≡ get_or (set_run (bits_of_words words size) start len) f d
    out f d low apart = sym (run_outside (bits_of_words words size) start len f d apart ∙ get_bits words size f d low)

    at : (f : ℕ) (d : Bool) → f < size → is_bit (slice_set words (start / 64) v) f
        ≡ get_or (set_run (bits_of_words words size) start len) f d
    at f d low = grind (arith, get_or-set_same, out, run_inside, length_bits, get_or-set_other)

pub mark_run : (words : List ℕ) (size start len w : ℕ) → start % 64 + len ≤ 64 → start + len ≤ size → 0 < len →
    start / 64 < length words → w ≡ get_or words (start / 64) 0 →
    bits_of_words (slice_set words (start / 64) (bit_or w (mask_of start len))) size
    ≡ set_run (bits_of_words words size) start len
mark_run words size start len w h below some inside is_w =
    grind (arith, mask_is, put_run, bit_at_or, bit_at_mask_inside, bit_at_mask_below, bit_at_mask_above)

-- the mask of a run in one word, by its places there
pub between_bits : (start end m k : ℕ) → start < end → end ≤ 64 →
    m ≡ (2 ^ 64 - 1) / 2 ^ (64 - (end - start)) * 2 ^ start % 2 ^ 64 →
    bit_at m k ≡ cond (is_between start end k) 1 0
between_bits start end m k order within is =
    let low : start % 64 ≡ start = omega (arith, order, within) in
    let last : start + (end - start) ≡ end = omega (arith, order) in
    let mask = rw (low, last) at (mask_is start (end - start) (omega (arith, order, within))) in
    rw (is, mask) (elim (cases_lt k start) [
      | inl under ↦ grind (arith, bit_at_mask_below, nat_tests)
      | inr over ↦ elim (cases_lt k end) [
        | inl inside ↦ grind (arith, bit_at_mask_inside, nat_tests)
        | inr past ↦ grind (arith, bit_at_mask_above, nat_tests)
      ]
    ])
