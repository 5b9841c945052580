-- What the blocks of a group add to the counts, by stretches and by blocks.
use Rattle.std.proofs.Common.{◌≡◌, ℕ, suc, ◌+◌, ◌<◌, ◌≤◌, Bool, true, false, List, [], ◌∷◌, length, cond, arith}
use Rattle.std.proofs.Common.{refl, ap, sym, count_by, nat_eq, min, ◌/◌, ◌^◌, ◌==◌, ◌*◌, ◌%◌, map}
use Rattle.std.proofs.{Common.{slice_index, ◌&&◌}, lemmas.List.Sums.{sum_by-cons, sum_by-append, count_by-le-length}}
use Rattle.std.proofs.lemmas.{List.FromFn.length-map-range_with_len, Nat.{mul-add-lt, mul-le, div-add-mod'}}
use Rattle.std.{specs.{List.{range_with_len, sum_by}, Int.bit_at}}
use Rattle.ffs_volume.specs.Groups.Records.{free_stretches, stretch_of, has_bits, is_free_block}
use Rattle.ffs_maps.proofs.{WordShifts.bit_shr, Counting.{sum_split, sum_same}, Bits.zeros_at}
use Rattle.ffs_groups.specs.{declared.free.FreeSpace.FreeSpace, Free.{word_bits, whole_in, loose_in, stretches_in}}
use Rattle.ffs_groups.{specs.Free.{AreBelow, Added, free_in}, proofs.Sums.{sum_more, sum_within, map_same}}
use Rattle.ffs_groups.proofs.MapWords.{map_parts}

pub stretches_len : (n : ℕ) (bits : List Bool) → length (free_stretches n bits) ≤ min n 1 + length bits
stretches_len n [] = grind arith
stretches_len n (true ∷ bits) = omega (arith, stretches_len (n + 1) bits)
stretches_len n (false ∷ bits) = grind (arith, stretches_len 0 bits)

pub stretches_few : (k : ℕ) (bits : List Bool) → count_by (λ n. n == k) (free_stretches 0 bits) ≤ length bits
stretches_few k bits = omega (arith, stretches_len 0 bits, count_by-le-length (λ n. n == k) (free_stretches 0 bits))

pub bits_next : (word k n m : ℕ) → n ≡ m + 1 → word_bits word k n ≡ nat_eq (bit_at word k) 1 ∷ word_bits word (k + 1) m
bits_next word k n m e = let s : n ≡ suc m = omega (arith, e) in ap (λ j. word_bits word k j) s

pub length_bits : (word k n : ℕ) → length (word_bits word k n) ≡ n
length_bits word k n = length-map-range_with_len (λ j. nat_eq (bit_at word j) 1) k n

-- what is still to be counted, where the next fragment is free, and where it isn't
pub free_next : (word k n m : ℕ) → n ≡ m + 1 → nat_eq (bit_at word k) 1 ≡ true →
    count_by (λ f. f) (word_bits word k n) ≡ 1 + count_by (λ f. f) (word_bits word (k + 1) m)
free_next word k n m e set_ =
    rw (bits_next word k n m e, set_) (sum_by-cons (λ f. cond f 1 0) true (word_bits word (k + 1) m))

pub used_next : (word k n m : ℕ) → n ≡ m + 1 → nat_eq (bit_at word k) 1 ≡ false →
    count_by (λ f. f) (word_bits word k n) ≡ count_by (λ f. f) (word_bits word (k + 1) m)
used_next word k n m e clear_ = grind arith

pub stretch_grows : (word k n m r j : ℕ) → n ≡ m + 1 → nat_eq (bit_at word k) 1 ≡ true →
    count_by (λ x. x == j) (free_stretches r (word_bits word k n)) ≡ count_by (λ x. x == j)
    (free_stretches (r + 1) (word_bits word (k + 1) m))
stretch_grows word k n m r j e set_ = rw (bits_next word k n m e, set_) refl

pub stretch_ends : (word k n m r j : ℕ) → n ≡ m + 1 → nat_eq (bit_at word k) 1 ≡ false →
    count_by (λ x. x == j) (free_stretches r (word_bits word k n)) ≡ count_by (λ x. x == j) (stretch_of r) + count_by
    (λ x. x == j) (free_stretches 0 (word_bits word (k + 1) m))
stretch_ends word k n m r j e clear_ = grind (arith, sum_by-append)

pub stretches_within : (word n j : ℕ) → count_by (λ x. x == j) (free_stretches 0 (word_bits word 0 n)) ≤ n
stretches_within word n j = omega (arith, stretches_few j (word_bits word 0 n), length_bits word 0 n)

pub free_within : (word n : ℕ) → count_by (λ f. f) (word_bits word 0 n) ≤ n
free_within word n = omega (arith, count_by-le-length (λ f. f) (word_bits word 0 n), length_bits word 0 n)

from_zero : (f : ℕ → ℕ) (n m : ℕ) → sum_by f (range_with_len 0 (n + m))
    ≡ sum_by f (range_with_len 0 n) + sum_by f (range_with_len n m)
from_zero f n m = let at : 0 + n ≡ n = omega arith in rw at at (sum_split f 0 n m (n + m) refl)

-- one block more
pub added_more : (bits : ℕ → List Bool) (n : ℕ) (old mid new : FreeSpace) → Added bits 0 n old mid →
    new.blocks ≡ mid.blocks + whole_in (bits n) → new.fragments ≡ mid.fragments + loose_in (bits n) →
    ((k : ℕ) → slice_index new.frsum k ≡ slice_index mid.frsum k + stretches_in k (bits n)) →
    Added bits 0 (n + 1) old new
added_more bits n old mid new a blocks fragments frsum = grind (arith, sum_more)

joined_sums : (f : List Bool → ℕ) (bits other : ℕ → List Bool) (n m : ℕ) → ((k : ℕ) → k < m → other k ≡ bits (n + k)) →
    sum_by (λ b. f (bits b)) (range_with_len 0 (n + m)) ≡ sum_by (λ b. f (bits b)) (range_with_len 0 n) + sum_by
    (λ b. f (other b)) (range_with_len 0 m)
joined_sums f bits other n m same = grind (arith, sum_same, from_zero)

-- the blocks of a word more
pub added_join : (bits other : ℕ → List Bool) (n m : ℕ) (old mid new : FreeSpace) → Added bits 0 n old mid →
    Added other 0 m mid new →
    ((k : ℕ) → k < m → other k ≡ bits (n + k)) → Added bits 0 (n + m) old new
added_join bits other n m old mid new a b same = record {
  blocks = omega (arith, a.blocks, b.blocks, joined_sums whole_in bits other n m same);
  fragments = omega (arith, a.fragments, b.fragments, joined_sums loose_in bits other n m same);
  frsum = λ k. omega (arith, a.frsum k, b.frsum k, joined_sums (stretches_in k) bits other n m same);
}

-- one of two numbers within a limit
either_within : (b : Bool) (m n k : ℕ) → m ≤ k → n ≤ k → cond b m n ≤ k
either_within b m n k h r = grind arith

whole_one : (bits : List Bool) → whole_in bits ≤ 1
whole_one bits = either_within (is_free_block bits) 1 0 1 (omega arith) (omega arith)

loose_length : (bits : List Bool) → loose_in bits ≤ length bits
loose_length bits = grind (arith, count_by-le-length)

stretch_length : (k : ℕ) (bits : List Bool) → stretches_in k bits ≤ length bits
stretch_length k bits = either_within (is_free_block bits) 0 _ (length bits) (omega arith) (stretches_few k bits)

-- n blocks add at most 8 times n to any count
pub added_below : (bits : ℕ → List Bool) (n low limit : ℕ) (old new : FreeSpace) → Added bits 0 n old new →
    ((b : ℕ) → length (bits b) ≤ 8) →
    AreBelow low old → low + 8 * n ≤ limit → AreBelow limit new
added_below bits n low limit old new a short l fits = record {
  blocks = omega (arith, a.blocks, l.blocks, sum_within (λ b. whole_in (bits b)) 1 0 n (λ k. whole_one (bits k)));
  fragments = omega (
    arith,
    a.fragments,
    l.fragments,
    sum_within (λ b. loose_in (bits b)) 8 0 n (λ k. omega (arith, loose_length (bits k), short k)),
  );
  frsum = λ j. omega (
    arith,
    a.frsum j,
    l.frsum j,
    sum_within (λ b. stretches_in j (bits b)) 8 0 n (λ k. omega (arith, stretch_length j (bits k), short k)),
  );
}

-- a block of a word, in the numbers of the volume
pub word_block : (free : ℕ → Bool) (word start frag block k some : ℕ) →
    ((j : ℕ) → j < 64 → nat_eq (bit_at word j) 1 ≡ free (start + block * frag + j)) →
    k < some → some * frag ≤ 64 →
    word_bits (word / 2 ^ (k * frag)) 0 frag ≡ map free (range_with_len (start + (block + k) * frag) frag)
word_block free word start frag block k some has low fits =
    map_same (λ j. nat_eq (bit_at (word / 2 ^ (k * frag)) j) 1) free 0 (start + (block + k) * frag) frag (λ j h.
    let at : 0 + j ≡ j = omega arith in
    let place : start + (block + k) * frag + j ≡ start + block * frag + (j + k * frag) = omega arith in
    rw (at, place, bit_shr word (k * frag) j) (has (j + k * frag) (omega (arith, mul-add-lt k frag j some low h))))

pub no_stretches : (k : ℕ) → slice_index (0 ∷ 0 ∷ 0 ∷ 0 ∷ 0 ∷ 0 ∷ 0 ∷ 0 ∷ 0 ∷ []) k ≡ 0
no_stretches k = zeros_at 9 k

pub count_start : (f : ℕ → ℕ) (n m z : ℕ) → z ≡ 0 → n ≡ m →
    z + sum_by f (range_with_len 0 n) ≡ sum_by f (range_with_len 0 m)
count_start f n m z e same = rw same (omega (arith, e))

pub word_fits : (some frag : ℕ) → some ≤ 64 / frag → some * frag ≤ 64
word_fits some frag h = omega (arith, mul-le some frag (64 / frag) frag h (omega arith), div-add-mod' 64 frag)

pub loose_fits : (bits : ℕ → List Bool) (frag n : ℕ) → ((b : ℕ) → length (bits b) ≡ frag) →
    sum_by (λ b. loose_in (bits b)) (range_with_len 0 n) ≤ n * frag
loose_fits bits frag n len = grind (arith, sum_within, loose_length)

pub whole_fits : (bits : ℕ → List Bool) (n : ℕ) → sum_by (λ b. whole_in (bits b)) (range_with_len 0 n) ≤ n
whole_fits bits n = omega (arith, sum_within (λ b. whole_in (bits b)) 1 0 n (λ k. whole_one (bits k)))

-- a map of fragments, by its whole words and the bits after them
pub fragment_map : (used : List Bool) (size size' : ℕ) (block : List ℕ) (place n n' base base' last at : ℕ)
    (first end : Bool) → size ≡ size' → n ≡ n' → base ≡ base' →
    last ≡ base + 64 * (n / 64) → at ≡ place + 8 * (n / 64) →
    first ≡ has_bits block place (64 * (n / 64)) (λ k. free_in used size (base + k)) →
    end ≡ has_bits block at (n % 64) (λ k. free_in used size (last + k)) →
    (first && end) ≡ has_bits block place n' (λ k. free_in used size' (base' + k))
fragment_map used size size' block place n n' base base' last at first end sizes fragments bases is_last is_at is_first
    is_end =
    rw (is_first, is_end, is_last, ← sizes, ← fragments, ← bases)
    (sym (map_parts block place (n / 64) (n % 64) n at base (free_in used size) (omega arith) is_at))
