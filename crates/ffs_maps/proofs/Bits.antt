-- The bits of a map, by its words: how long the list is, what is at an index, and what is set.
use Rattle.std.proofs.Common.{◌≡◌, ◌≢◌, ℕ, zero, suc, ◌+◌, ◌*◌, ◌/◌, ◌%◌, ◌^◌, ◌<◌, Bool, true, false, List, length}
use Rattle.std.proofs.Common.{get_or, nat_eq, slice_set, replicate, bit_or, bit_and, arith, refl, ap, ◌∙◌, length-set}
use Rattle.std.proofs.{Common.add-zero, lemmas.List.{same_lists, get_or-set_other, get_or-set_same, get_or-replicate}}
use Rattle.std.proofs.lemmas.List.{length-replicate, FromFn.{length-map-range_with_len, get_or-map-range_with_len}}
use Rattle.std.proofs.lemmas.Nat.Bits.{bit_at_set_same, bit_at_set_other, bit_at_clear_same, bit_at_clear_other}
use Rattle.std.{proofs.{lemmas.Nat.Bits.bit_at-zero, Math.{Nat.ℕ_set, Path.subst⁻¹}}, specs.Int.{bit_at, w64, bit_not}}
use Rattle.std.specs.Int.{div_ceil}
use Rattle.ffs_maps.specs.{Words.Words, declared.FragmentMap.FragmentMap, Bits.{bits_of, set_run}}
use Rattle.ffs_maps.specs.WordBits.{bits_of_words, set_among}

-- the bit of fragment f is set, in words of 64 bits
abbrev pub is_bit : List ℕ → ℕ → Bool
is_bit words = λ f. nat_eq (bit_at (get_or words (f / 64) 0) (f % 64)) 1

pub length_bits : (words : List ℕ) (size : ℕ) → length (bits_of_words words size) ≡ size
unfolding bits_of_words
length_bits words size = length-map-range_with_len (is_bit words) 0 size

-- a map has a bit for each fragment
pub bits_long : (m : FragmentMap) → length (bits_of m) ≡ m.size
bits_long m = length_bits m.words.list m.size

pub get_bits : (words : List ℕ) (size f : ℕ) (d : Bool) → f < size → get_or (bits_of_words words size) f d
    ≡ is_bit words f
unfolding bits_of_words
get_bits words size f d h = get_or-map-range_with_len (is_bit words) 0 size f f d h (omega arith)

-- the bit of a fragment, by the number of its word and its number there
pub bit_in : (words : List ℕ) (size f index k w : ℕ) → f < size → f / 64 ≡ index → f % 64 ≡ k →
    w ≡ get_or words index 0 → get_or (bits_of_words words size) f false ≡ nat_eq (bit_at w k) 1
bit_in words size f index k w h at bit is = get_bits words size f false h ∙ rw (at, bit, is) refl

-- words have these bits, where each word's bit is one of them
pub bits_are : (words : List ℕ) (size : ℕ) (bits : List Bool) → length bits ≡ size →
    ((f : ℕ) (d : Bool) → f < size → is_bit words f ≡ get_or bits f d) → bits_of_words words size ≡ bits
bits_are words size bits long at = grind (arith, same_lists, length_bits, get_bits)

-- a map with the same words is the same
pub same_map : (m : FragmentMap) (words : Words) (enough : length words.list ≡ div_ceil m.size 64)
    (counted : m.ones ≡ set_among (bits_of_words words.list m.size) 0 m.size) → words ≡ m.words →
    record m { words = words; enough = enough; counted = counted } ≡ m
same_map m words enough counted same =
    subst⁻¹ (λ w. (e : length w.list ≡ div_ceil m.size 64)
    (k : m.ones ≡ set_among (bits_of_words w.list m.size) 0 m.size) →
    record m { words = w; enough = e; counted = k } ≡ m) same
    (λ e k. ap (λ x. record m { enough = x; counted = k }) (ℕ_set _ _ e m.enough)
    ∙ ap (λ x. record m { counted = x }) (ℕ_set _ _ k m.counted)) enough counted

-- the word of a fragment is replaced, by one that differs in the fragment's bit alone
pub put_bits : (words : List ℕ) (size k v : ℕ) (b : Bool) → k < size → k / 64 < length words →
    nat_eq (bit_at v (k % 64)) 1 ≡ b →
    ((i : ℕ) → i < 64 → i ≢ k % 64 → bit_at v i ≡ bit_at (get_or words (k / 64) 0) i) →
    bits_of_words (slice_set words (k / 64) v) size ≡ slice_set (bits_of_words words size) k b
put_bits words size k v b h inside here other =
    bits_are (slice_set words (k / 64) v) size (slice_set (bits_of_words words size) k b)
    (length-set (bits_of_words words size) k b ∙ length_bits words size) at
  where
    at : (f : ℕ) (d : Bool) → f < size → is_bit (slice_set words (k / 64) v) f
        ≡ get_or (slice_set (bits_of_words words size) k b) f d
    at f d low = grind (arith, get_or-set_same, length_bits, get_or-set_other, get_bits)

pub set_bits : (words : List ℕ) (size k w : ℕ) → k < size → k / 64 < length words → w ≡ get_or words (k / 64) 0 →
    bits_of_words (slice_set words (k / 64) (bit_or w (1 * 2 ^ (k % 64) % 2 ^ 64))) size
    ≡ slice_set (bits_of_words words size) k true
set_bits words size k w h inside e =
    put_bits words size k (bit_or w (1 * 2 ^ (k % 64) % 2 ^ 64)) true h inside
    (ap (λ x. nat_eq x 1) (bit_at_set_same w64 w (k % 64) (omega arith)))
    (λ i low apart. bit_at_set_other w64 w (k % 64) (omega arith) i apart ∙ ap (λ x. bit_at x i) e)

pub clear_bits : (words : List ℕ) (size k w : ℕ) → k < size → k / 64 < length words → w ≡ get_or words (k / 64) 0 →
    bits_of_words (slice_set words (k / 64) (bit_and w (bit_not w64 (1 * 2 ^ (k % 64) % 2 ^ 64)))) size
    ≡ slice_set (bits_of_words words size) k false
clear_bits words size k w h inside e =
    put_bits words size k (bit_and w (bit_not w64 (1 * 2 ^ (k % 64) % 2 ^ 64))) false h inside
    (ap (λ x. nat_eq x 1) (bit_at_clear_same w64 w (k % 64) (omega arith)))
    (λ i low apart. bit_at_clear_other w64 w (k % 64) (omega arith) i low apart ∙ ap (λ x. bit_at x i) e)

-- words of zeros have no bit set
pub zeros_at : (n i : ℕ) → get_or (replicate n zero) i zero ≡ zero
zeros_at zero i = refl
zeros_at (suc n) zero = refl
zeros_at (suc n) (suc i) = zeros_at n i

pub zero_bits : (n size : ℕ) → bits_of_words (replicate n 0) size ≡ replicate size false
zero_bits n size = search (arith, bits_are, length-replicate, zeros_at, bit_at-zero, get_or-replicate)

-- a run is set in two parts
pub run_join : (bits : List Bool) (start n m t : ℕ) → t ≡ n + m →
    set_run bits start t ≡ set_run (set_run bits start n) (start + n) m
run_join bits start zero m t e = let same : t ≡ m = omega (arith, e) in rw (add-zero start, same) refl
run_join bits start (suc n) m zero e = absurd (omega arith)
run_join bits start (suc n) m (suc t) e =
    grind (arith, run_join (slice_set bits start true) (start + 1) n m t (omega (arith, e)))
