-- The words of a map, read at once or by bytes.
use Rattle.std.proofs.Common.{◌≡◌, inl, inr, ℕ, zero, suc, ◌+◌, ◌-◌, ◌*◌, ◌/◌, ◌%◌, ◌^◌, ◌<◌, List, drop, slice_index}
use Rattle.std.proofs.Common.{arith, ap, ◌∙◌, nat_eq, ◌≤◌, Bool, true, false, refl, sym, min, bit_and, bit_or, ◌&&◌}
use Rattle.std.proofs.lemmas.{Bool.{cases_lt, eqb-true, eq-eqb}, Nat.Bits.bit_at_cat_low}
use Rattle.std.proofs.lemmas.Nat.Bits.{bit_at_cat_high, bit_at_and, bit_at_or, bit_at_xor, bit_at-zero}
use Rattle.std.proofs.lemmas.Nat.Bits.{bit_at_ones, bit_at_ones_above, bit_at_above, same_from_bits, ones_shr}
use Rattle.std.{proofs.lemmas.List.get_or-drop, specs.Int.{bit_at, RustNames.bit_xor}}
use Rattle.byteorder.specs.Endian.{little_from}
use Rattle.ffs_volume.specs.{Groups.Records.{bit_at as map_bit, same_bit}, Disk.Numbers.all_below}
use Rattle.ffs_volume.proofs.{Below.{all_below-at, all_below-from}, Booleans.both_imply}
use Rattle.ffs_maps.proofs.WordShifts.{bit_mod, bit_shl_low, bit_shl_high, max_zero, min_zero, zero_max}

next : (b rest : ℕ) → b + 256 * rest ≡ rest * 2 ^ 8 + b
next b rest = omega arith

-- a bit of the number in some bytes, the lowest one first, is a bit of one of them
little_bit : (n i : ℕ) (xs : List ℕ) → ((j : ℕ) → slice_index xs j < 256) → (k : ℕ) → k < 8 * n →
    bit_at (little_from i n xs) k ≡ bit_at (slice_index xs (i + k / 8)) (k % 8)
little_bit zero i xs fits k h = absurd (omega arith)
little_bit (suc n) i xs fits k h =
    ap (λ x. bit_at x k) (next (slice_index xs i) (little_from (suc i) n xs))
    ∙ elim (cases_lt k 8) [
      | inl low ↦
          let byte : i + k / 8 ≡ i = omega arith in
          let bit : k % 8 ≡ k = omega arith in
          rw (byte, bit) (bit_at_cat_low (little_from (suc i) n xs) 8 (slice_index xs i) k low)
      | inr above ↦
          let byte : i + k / 8 ≡ suc i + (k - 8) / 8 = omega arith in
          let bit : k % 8 ≡ (k - 8) % 8 = omega arith in
          bit_at_cat_high (little_from (suc i) n xs) 8 (slice_index xs i) k (omega (arith, fits i)) above
          ∙ rw (byte, bit) (little_bit n (suc i) xs fits (k - 8) (omega arith))
    ]

-- the bits of eight bytes of a map
pub whole_word : (map : List ℕ) (place word : ℕ) → ((j : ℕ) → slice_index map j < 256) →
    word ≡ little_from 0 8 (drop place map) →
    (k : ℕ) → k < 64 → nat_eq (bit_at word k) 1 ≡ map_bit map place k
whole_word map place word fits is k h =
    let at : 0 + k / 8 ≡ k / 8 = omega arith in
    rw (is, little_bit 8 0 (drop place map) (λ j. rw (get_or-drop place map j 0) (fits (place + j))) k (omega arith))
    (rw at (ap (λ x. nat_eq (bit_at x (k % 8)) 1) (get_or-drop place map (k / 8) 0)))

-- a byte is put into a word
pub byte_low : (bytes : List ℕ) (place byte word b : ℕ) → byte < 8 → b ≡ slice_index bytes (place + byte) →
    ((k : ℕ) → k < 8 * byte → nat_eq (bit_at word k) 1 ≡ map_bit bytes place k) →
    ((k : ℕ) → 8 * byte ≤ k → bit_at word k ≡ 0) →
    (k : ℕ) → k < 8 * (byte + 1) →
    nat_eq (bit_at (bit_or word (b * 2 ^ (8 * byte) % 2 ^ 64)) k) 1 ≡ map_bit bytes place k
byte_low bytes place byte word b h is low high k below =
    rw (bit_at_or word (b * 2 ^ (8 * byte) % 2 ^ 64) k, bit_mod (b * 2 ^ (8 * byte)) 64 k (omega arith))
    (elim (cases_lt k (8 * byte)) [
      | inl inside ↦ rw (max_zero (bit_at word k) _ (bit_shl_low b (8 * byte) k inside)) (low k inside)
      | inr above ↦ grind (arith, bit_shl_high)
    ])

pub byte_high : (byte word b : ℕ) → byte < 8 → b < 256 → ((k : ℕ) → 8 * byte ≤ k → bit_at word k ≡ 0) →
    (k : ℕ) → 8 * (byte + 1) ≤ k → bit_at (bit_or word (b * 2 ^ (8 * byte) % 2 ^ 64)) k ≡ 0
byte_high byte word b h fits high k above =
    bit_at_or word (b * 2 ^ (8 * byte) % 2 ^ 64) k
    ∙ zero_max _ _ (high k (omega arith))
    ∙ elim (cases_lt k 64) [
      | inl inside ↦ bit_mod (b * 2 ^ (8 * byte)) 64 k inside ∙ bit_shl_high b (8 * byte) k (omega arith)
          ∙ bit_at_above b 8 (k - 8 * byte) fits (omega arith)
      | inr past ↦ bit_at_above (b * 2 ^ (8 * byte) % 2 ^ 64) 64 k (omega arith) past
    ]

-- ---- two words with the same bits
pub same_below : (n : ℕ) (f g : ℕ → Bool) → ((k : ℕ) → k < n → f k ≡ g k) → all_below n f ≡ all_below n g
unfolding all_below
same_below zero f g e = refl
same_below (suc n) f g e = grind (arith, same_below n f g (λ k h. e k (omega arith)))

-- the first n, and those after them
pub all_join : (n m t : ℕ) (test : ℕ → Bool) → t ≡ n + m →
    all_below t test ≡ (all_below n test && all_below m (λ k. test (n + k)))
unfolding all_below
all_join n zero t test e = grind arith
all_join n (suc m) zero test e = absurd (omega arith)
all_join n (suc m) (suc t) test e = let rest = all_join n m t test (omega (arith, e)) in grind arith

-- a test that fails below a number fails below each greater one
pub all_fails : (n m : ℕ) (test : ℕ → Bool) → m ≤ n → all_below m test ≡ false → all_below n test ≡ false
all_fails n m test h now = all_join m (n - m) n test (omega arith) ∙ rw now refl

same_from_zero : (a b n : ℕ) → bit_and (bit_xor a b) (2 ^ n - 1) ≡ 0 → (k : ℕ) → k < n →
    same_bit (nat_eq (bit_at a k) 1) (nat_eq (bit_at b k) 1) ≡ true
same_from_zero a b n e k h =
    let none = ap (λ x. bit_at x k) e in
    grind (arith, bit_at_and, bit_at_xor, bit_at_ones)

zero_from_same : (a b n : ℕ) → ((k : ℕ) → k < n → same_bit (nat_eq (bit_at a k) 1) (nat_eq (bit_at b k) 1) ≡ true) →
    bit_and (bit_xor a b) (2 ^ n - 1) ≡ 0
zero_from_same a b n same =
    same_from_bits (bit_and (bit_xor a b) (2 ^ n - 1)) 0
    (λ k. bit_at_and (bit_xor a b) (2 ^ n - 1) k ∙ elim (cases_lt k n) [
      | inl low ↦ grind (arith, bit_at_xor)
      | inr past ↦ min_zero _ _ (bit_at_ones_above n k past) ∙ sym (bit_at-zero k)
    ])

is_same_word : (a b n : ℕ) → nat_eq (bit_and (bit_xor a b) (2 ^ n - 1)) 0
    ≡ all_below n (λ k. same_bit (nat_eq (bit_at a k) 1) (nat_eq (bit_at b k) 1))
is_same_word a b n = both_imply _ _
    (λ e. all_below-from n (λ k. same_bit (nat_eq (bit_at a k) 1) (nat_eq (bit_at b k) 1))
    (same_from_zero a b n (eqb-true _ 0 e)))
    (λ e. eq-eqb _ 0 (zero_from_same a b n
    (λ k h. all_below-at n k (λ k. same_bit (nat_eq (bit_at a k) 1) (nat_eq (bit_at b k) 1)) e h)))

-- by the mask that the code computes
pub same_by_mask : (a b n : ℕ) → n ≤ 64 →
    nat_eq (bit_and (bit_xor a b) ((2 ^ 64 - 1) / 2 ^ (64 - n))) 0 ≡ all_below n
    (λ k. same_bit (nat_eq (bit_at a k) 1) (nat_eq (bit_at b k) 1))
same_by_mask a b n h =
    let twice : 64 - (64 - n) ≡ n = omega arith in
    rw (ones_shr 64 (64 - n) (omega arith), twice) (is_same_word a b n)

-- ---- a map, word after word
moved_bit : (block : List ℕ) (place word k : ℕ) →
    map_bit block (place + 8 * word) k ≡ map_bit block place (64 * word + k)
moved_bit block place word k = grind arith

-- the words before this one are right: then the map up to this word's end is as the word is
word_is : (block : List ℕ) (place n word count found right : ℕ) (bits : ℕ → Bool) → 64 * word < n →
    all_below (min (64 * word) n) (λ k. same_bit (map_bit block place k) (bits k)) ≡ true →
    ((k : ℕ) → k < count → nat_eq (bit_at found k) 1 ≡ map_bit block (place + 8 * word) k) →
    ((k : ℕ) → k < count → nat_eq (bit_at right k) 1 ≡ bits (64 * word + k)) →
    all_below (64 * word + count) (λ k. same_bit (map_bit block place k) (bits k))
    ≡ all_below count (λ k. same_bit (nat_eq (bit_at found k) 1) (nat_eq (bit_at right k) 1))
word_is block place n word count found right bits h before is_found is_right =
    let low : min (64 * word) n ≡ 64 * word = omega (arith, h) in
    let right_before = rw low at before in
    all_join (64 * word) count (64 * word + count) (λ k. same_bit (map_bit block place k) (bits k)) refl
    ∙ rw right_before refl
    ∙ same_below count (λ k. same_bit (map_bit block place (64 * word + k)) (bits (64 * word + k)))
    (λ k. same_bit (nat_eq (bit_at found k) 1) (nat_eq (bit_at right k) 1))
    (λ k l. rw (is_found k l, is_right k l, moved_bit block place word k) refl)

pub map_begins : (n : ℕ) (test : ℕ → Bool) → all_below (min 0 n) test ≡ true
unfolding all_below
map_begins n test = let none : min 0 n ≡ 0 = omega arith in rw none refl

pub none_below : (test : ℕ → Bool) → all_below 0 test ≡ true
unfolding all_below
none_below test = refl

pub moved_in : (bits : ℕ → Bool) (first word k : ℕ) → bits (first + 64 * word + k) ≡ bits (first + (64 * word + k))
moved_in bits first word k = let at : first + 64 * word + k ≡ first + (64 * word + k) = omega arith in rw at refl

-- where this word is right, the map is right up to its end, and else it isn't
pub map_word : (block : List ℕ) (place n word count found right : ℕ) (bits : ℕ → Bool) (same : Bool) →
    64 * word < n → count ≡ min (n - 64 * word) 64 →
    all_below (min (64 * word) n) (λ k. same_bit (map_bit block place k) (bits k)) ≡ true →
    ((k : ℕ) → k < count → nat_eq (bit_at found k) 1 ≡ map_bit block (place + 8 * word) k) →
    ((k : ℕ) → k < count → nat_eq (bit_at right k) 1 ≡ bits (64 * word + k)) →
    same ≡ all_below count (λ k. same_bit (nat_eq (bit_at found k) 1) (nat_eq (bit_at right k) 1)) →
    (same ≡ true → all_below (min (64 * (word + 1)) n) (λ k. same_bit (map_bit block place k) (bits k)) ≡ true)
    × (same ≡ false → all_below n (λ k. same_bit (map_bit block place k) (bits k)) ≡ false)
map_word block place n word count found right bits same low many before is_found is_right is =
    let up = word_is block place n word count found right bits low before is_found is_right ∙ sym is in
    let end : min (64 * (word + 1)) n ≡ 64 * word + count = omega (arith, many, low) in (
      (λ e. rw end (up ∙ e)),
      (λ e. all_fails n (64 * word + count) (λ k. same_bit (map_bit block place k) (bits k)) (omega (arith, many, low))
          (up ∙ e)),
    )

-- a map, by its whole words and the bits after them
pub map_parts : (block : List ℕ) (place words count n at first : ℕ) (bits : ℕ → Bool) → n ≡ 64 * words + count →
    at ≡ place + 8 * words →
    all_below n (λ k. same_bit (map_bit block place k) (bits (first + k)))
    ≡ (all_below (64 * words) (λ k. same_bit (map_bit block place k) (bits (first + k)))
    && all_below count (λ k. same_bit (map_bit block at k) (bits (first + 64 * words + k))))
map_parts block place words count n at first bits e is =
    all_join (64 * words) count n (λ k. same_bit (map_bit block place k) (bits (first + k))) e
    ∙ ap (λ b. all_below (64 * words) (λ k. same_bit (map_bit block place k) (bits (first + k))) && b)
    (same_below count (λ k. same_bit (map_bit block place (64 * words + k)) (bits (first + (64 * words + k))))
    (λ k. same_bit (map_bit block at k) (bits (first + 64 * words + k)))
    (λ k l. rw (is, moved_bit block place words k, moved_in bits first words k) refl))
