-- What words of free fragments add to the counts.
use Rattle.std.proofs.Common.{◌≡◌, ℕ, zero, suc, ◌+◌, ◌-◌, ◌*◌, ◌%◌, ◌^◌, ◌<◌, ◌≤◌, Bool, true, false, map, arith, refl}
use Rattle.std.proofs.Common.{ap, ◌∙◌, nat_eq, min, bit_and, ◌/◌, List, count_by, slice_index, ◌==◌, [], ◌∷◌, cond}
use Rattle.std.proofs.{Common.{count_ones, replicate}, lemmas.Nat.Bits.{bit_at_and, bit_at-lt, bit_at_ones}}
use Rattle.std.proofs.lemmas.Nat.{Bits.{bit_at_ones_above, same_from_bits, bit_at-zero, ones_shr}, mul-add-lt, mul-le}
use Rattle.std.{proofs.lemmas.{Bool.{cases_lt, eqb-true, le-ltb}, Grind.div_ceil_times}, specs.List.range_with_len}
use Rattle.std.specs.{List.{list_all, sum_by}, Int.{bit_at, div_ceil}}
use Rattle.ffs_volume.specs.Groups.Records.{is_free_block, free_stretches, block_bits, right_frsum, group_size}
use Rattle.ffs_volume.specs.{declared.Layout.Layout, Disk.Areas.cgbase}
use Rattle.ffs_maps.proofs.{WordShifts.{small, bit_shr}, Counting.{sum_split, ones_by, one_on}}
use Rattle.ffs_groups.specs.{declared.free.FreeSpace.FreeSpace, Free.{word_bits, whole_in, loose_in, stretches_in}}
use Rattle.ffs_groups.specs.Free.{Added, AreFreeCounts, free_in}
pub use Rattle.ffs_maps.proofs.Counting.{sum_const}

-- ---- fragments in a row that are all free, or of which none is
map_const : (f : ℕ → Bool) (x : Bool) (a n : ℕ) → ((k : ℕ) → k < n → f (a + k) ≡ x) →
    map f (range_with_len a n) ≡ replicate n x
map_const f x a zero e = refl
map_const f x a (suc n) e =
    let rest = map_const f x (a + 1) n (λ k h. rw (one_on a k) (e (k + 1) (omega arith))) in grind (arith, e 0)

all_free : (n : ℕ) → is_free_block (replicate n true) ≡ true
all_free zero = refl
all_free (suc n) = all_free n

each_set : (f : ℕ → Bool) (a n k : ℕ) → list_all (λ b. b) (map f (range_with_len a n)) ≡ true → k < n → f (a + k) ≡ true
each_set f a zero k all h = absurd (omega arith)
each_set f a (suc n) k all h = let more = each_set f (a + 1) n (k - 1) in grind arith

-- a block adds w whole blocks, no other fragments, and no stretches
abbrev pub Adds : ℕ → List Bool → Type 0
Adds w bits = (whole_in bits ≡ w) × (loose_in bits ≡ 0) × ((j : ℕ) → stretches_in j bits ≡ 0)

-- what fragments of which none is free add
used_add : (n : ℕ) → (count_by (λ b. b) (replicate n false) ≡ 0)
    × ((j : ℕ) → count_by (λ x. x == j) (free_stretches 0 (replicate n false)) ≡ 0)
used_add zero = (refl, λ j. refl)
used_add (suc n) = used_add n

none_add : (n : ℕ) → 0 < n → Adds 0 (replicate n false)
none_add zero some = absurd (omega arith)
none_add (suc n) some = let rest = used_add n in (refl, rest.0, rest.1)

pub adds_none : (f : ℕ → Bool) (a n : ℕ) → 0 < n → ((k : ℕ) → k < n → f (a + k) ≡ false) →
    Adds 0 (map f (range_with_len a n))
adds_none f a n some e = rw (map_const f false a n e) (none_add n some)

pub adds_all : (f : ℕ → Bool) (a n : ℕ) → ((k : ℕ) → k < n → f (a + k) ≡ true) → Adds 1 (map f (range_with_len a n))
adds_all f a n e = let free = all_free n in rw (map_const f true a n e) (rw free refl, rw free refl, λ j. rw free refl)

-- ---- a word with the lowest n bits set
whole_word : (word n : ℕ) → bit_and word (2 ^ n - 1) ≡ 2 ^ n - 1 → is_free_block (word_bits word 0 n) ≡ true
whole_word word n e = rw (map_const (λ k. nat_eq (bit_at word k) 1) true 0 n (λ k h.
    let same = ap (λ x. bit_at x k) e in grind (arith, bit_at-lt, bit_at_and, bit_at_ones))) (all_free n)

mask_of : (word n : ℕ) → is_free_block (word_bits word 0 n) ≡ true → bit_and word (2 ^ n - 1) ≡ 2 ^ n - 1
mask_of word n whole = same_from_bits (bit_and word (2 ^ n - 1)) (2 ^ n - 1)
    (λ k. let set = each_set (λ j. nat_eq (bit_at word j) 1) 0 n k whole in
    grind (arith, cases_lt k n, bit_at_and, eqb-true, bit_at_ones, bit_at_ones_above))

-- the same, by the mask that the code computes
pub whole_by_mask : (word n : ℕ) → n ≤ 8 → bit_and word (1 * 2 ^ n % 2 ^ 64 - 1) ≡ 1 * 2 ^ n % 2 ^ 64 - 1 →
    is_free_block (word_bits word 0 n) ≡ true
whole_by_mask word n few e = whole_word word n (rw (small n (omega arith)) at e)

pub not_whole_by_mask : (word n : ℕ) → n ≤ 8 → (bit_and word (1 * 2 ^ n % 2 ^ 64 - 1) ≡ 1 * 2 ^ n % 2 ^ 64 - 1 → ⊥) →
    is_free_block (word_bits word 0 n) ≡ false
not_whole_by_mask word n few apart = grind (arith, small, mask_of)

pub none_by_mask : (bits n : ℕ) → n ≤ 8 → 0 < n → bit_and bits (1 * 2 ^ n % 2 ^ 64 - 1) ≡ 0 →
    Adds 0 (word_bits bits 0 n)
none_by_mask bits n few some e =
    let none : bit_and bits (2 ^ n - 1) ≡ 0 = rw (small n (omega arith)) at e in
    adds_none (λ k. nat_eq (bit_at bits k) 1) 0 n some
    (λ k h. let same = ap (λ x. bit_at x k) none in grind (arith, bit_at_ones, bit_at_and, bit_at-zero))

sum_all : (f : ℕ → ℕ) (m n : ℕ) → ((k : ℕ) → k < n → f k ≡ m) → sum_by f (range_with_len 0 n) ≡ n * m
sum_all f m n e = sum_const f m 0 n (λ k h. let at : 0 + k ≡ k = omega arith in rw at (e k h))

-- blocks that add the same each
pub added_by : (bits : ℕ → List Bool) (w n : ℕ) (old new : FreeSpace) → ((b : ℕ) → b < n → Adds w (bits b)) →
    new.blocks ≡ old.blocks + n * w → new.fragments ≡ old.fragments →
    ((j : ℕ) → slice_index new.frsum j ≡ slice_index old.frsum j) → Added bits 0 n old new
added_by bits w n old new each blocks fragments frsum = record {
  blocks = omega (arith, blocks, sum_all (λ b. whole_in (bits b)) w n (λ k h. (each k h).0));
  fragments = omega (arith, fragments, sum_all (λ b. loose_in (bits b)) 0 n (λ k h. (each k h).1));
  frsum = λ j. omega (arith, frsum j, sum_all (λ b. stretches_in j (bits b)) 0 n (λ k h. (each k h).2 j));
}

-- ---- a word of zeros, and a word of ones
pub zero_word : (word frag n : ℕ) (old : FreeSpace) → word ≡ 0 → 0 < frag →
    Added (λ b. word_bits (word / 2 ^ (b * frag)) 0 frag) 0 n old old
zero_word word frag n old e some =
    added_by (λ b. word_bits (word / 2 ^ (b * frag)) 0 frag) 0 n old old
    (λ b h. adds_none (λ k. nat_eq (bit_at (word / 2 ^ (b * frag)) k) 1) 0 frag some (λ k l.
    rw (bit_shr word (b * frag) (0 + k), e, bit_at-zero (0 + k + b * frag)) refl))
    (omega arith) refl (λ j. refl)

pub full_word : (word frag n : ℕ) (old new : FreeSpace) → word ≡ 2 ^ 64 - 1 → n * frag ≤ 64 →
    new.blocks ≡ old.blocks + n → new.fragments ≡ old.fragments →
    ((j : ℕ) → slice_index new.frsum j ≡ slice_index old.frsum j) →
    Added (λ b. word_bits (word / 2 ^ (b * frag)) 0 frag) 0 n old new
full_word word frag n old new e fits blocks fragments frsum =
    added_by (λ b. word_bits (word / 2 ^ (b * frag)) 0 frag) 1 n old new
    (λ b h. adds_all (λ k. nat_eq (bit_at (word / 2 ^ (b * frag)) k) 1) 0 frag (λ k l.
    let one : bit_at (2 ^ 64 - 1) (0 + k + b * frag) ≡ 1 =
    bit_at_ones 64 (0 + k + b * frag) (omega (arith, mul-add-lt b frag k n h l)) in
    rw (bit_shr word (b * frag) (0 + k), e, one) refl)) (omega arith) fragments frsum

-- ---- blocks past the end of the volume add nothing
past_adds : (used : List Bool) (base size frag n b : ℕ) → 0 < frag → size - base ≤ n * frag → n ≤ b →
    Adds 0 (map (free_in used size) (range_with_len (base + b * frag) frag))
past_adds used base size frag n b some h l =
    adds_none (free_in used size) (base + b * frag) frag some (λ k below.
    rw (le-ltb (base + b * frag + k) size (omega (arith, h, mul-le n frag b frag l (omega arith)))) refl)

-- a sum that ends early is the whole sum
pub sum_ends : (f : ℕ → ℕ) (n m : ℕ) → n ≤ m → ((b : ℕ) → n ≤ b → b < m → f b ≡ 0) →
    sum_by f (range_with_len 0 n) ≡ sum_by f (range_with_len 0 m)
sum_ends f n m h none =
    let split : m ≡ n + (m - n) = omega arith in
    let rest : sum_by f (range_with_len (0 + n) (m - n)) ≡ (m - n) * 0 =
    sum_const f 0 (0 + n) (m - n) (λ k l. none (0 + n + k) (omega arith) (omega arith)) in
    omega (arith, rest, sum_split f 0 n (m - n) m split)

-- ---- the blocks of a group that the volume has
pub blocks_cover : (n fragments frag : ℕ) → 0 < frag → n ≡ div_ceil fragments frag →
    (fragments ≤ n * frag) × (n * frag < fragments + frag)
blocks_cover n fragments frag some e = let t = div_ceil_times fragments frag some in rw e t

pub few_blocks : (n fragments frag fpg : ℕ) → 0 < frag → n * frag < fragments + frag → fragments ≤ fpg →
    fpg % frag ≡ 0 → n ≤ fpg / frag
few_blocks n fragments frag fpg some h within whole = grind arith

-- what is free in the blocks that the volume has, is free in the group
pub free_there : (v : Layout) (used : List Bool) (c n fragments : ℕ) (new : FreeSpace) → 0 < v.frag →
    v.fpg % v.frag ≡ 0 → n ≡ div_ceil fragments v.frag → fragments ≤ v.fpg →
    fragments ≡ group_size v c →
    new.blocks ≡ sum_by (λ b. whole_in (block_bits v (free_in used v.size) c b)) (range_with_len 0 n) →
    new.fragments ≡ sum_by (λ b. loose_in (block_bits v (free_in used v.size) c b)) (range_with_len 0 n) →
    ((k : ℕ) → slice_index new.frsum k ≡ sum_by (λ b. stretches_in k (block_bits v (free_in used v.size) c b))
    (range_with_len 0 n)) →
    new.blocks < 2 ^ 32 → new.fragments < 2 ^ 32 → AreFreeCounts v (free_in used v.size) c new
unfolding right_frsum cgbase
free_there v used c n fragments new some whole is within size blocks frags frsum blocks_fit fragments_fit =
    let cover = blocks_cover n fragments v.frag some is in
    let few : n ≤ v.fpg / v.frag = few_blocks n fragments v.frag v.fpg some cover.1 within whole in
    let none : (b : ℕ) → n ≤ b → b < v.fpg / v.frag → Adds 0 (block_bits v (free_in used v.size) c b) =
    λ b l h. past_adds used (v.fpg * c) v.size v.frag n b some
    (grind arith)
    l in
    record {
      blocks = blocks ∙ sum_ends (λ b. whole_in (block_bits v (free_in used v.size) c b)) n (v.fpg / v.frag) few
          (λ b l h. (none b l h).0);
      fragments = frags ∙ sum_ends (λ b. loose_in (block_bits v (free_in used v.size) c b)) n (v.fpg / v.frag) few
          (λ b l h. (none b l h).1);
      frsum = λ k. frsum k ∙ sum_ends (λ b. stretches_in k (block_bits v (free_in used v.size) c b)) n (v.fpg / v.frag)
          few (λ b l h. (none b l h).2 k);
      blocks_fit = blocks_fit;
      fragments_fit = fragments_fit;
    }

pub fits_blocks : (x s n fragments frag size next base : ℕ) → x ≡ s → s ≤ n → 0 < frag → frag ≤ 8 →
    n ≡ div_ceil fragments frag → fragments ≡ min next size - base → size < 2 ^ 31 → x < 2 ^ 32
fits_blocks x s n fragments frag size next base e h some few is g below = grind arith

pub fits_fragments : (x s n fragments frag size next base : ℕ) → x ≡ s → s ≤ n * frag → 0 < frag → frag ≤ 8 →
    n ≡ div_ceil fragments frag → fragments ≡ min next size - base → size < 2 ^ 31 → x < 2 ^ 32
fits_fragments x s n fragments frag size next base e h some few is g below = grind (arith, blocks_cover)

-- ---- blocks of one fragment: the set bits of a word
ones_below : (word n : ℕ) → n ≤ 64 → count_ones (bit_and word ((2 ^ 64 - 1) / 2 ^ (64 - n)))
    ≡ count_by (λ k. nat_eq (bit_at word k) 1) (range_with_len 0 n)
ones_below word n h =
    let twice : 64 - (64 - n) ≡ n = omega arith in
    rw (ones_shr 64 (64 - n) (omega arith), twice)
    (ones_by (λ k. nat_eq (bit_at word k) 1) (bit_and word (2 ^ n - 1)) 0 n
    (λ i l. grind (arith, bit_at_and, bit_at_ones))
    (λ i past. omega (arith, bit_at_and word (2 ^ n - 1) i, bit_at_ones_above n i past)))

-- what one fragment adds as a block
single_adds : (b : Bool) → Adds (cond b 1 0) (b ∷ [])
single_adds b = grind arith

pub added_single : (word frag n : ℕ) (old new : FreeSpace) → frag ≡ 1 → n ≤ 64 →
    new.blocks ≡ old.blocks + count_ones (bit_and word ((2 ^ 64 - 1) / 2 ^ (64 - n))) →
    new.fragments ≡ old.fragments → ((j : ℕ) → slice_index new.frsum j ≡ slice_index old.frsum j) →
    Added (λ b. word_bits (word / 2 ^ (b * frag)) 0 frag) 0 n old new
added_single word frag n old new one h blocks fragments frsum =
    let none = λ (f : List Bool → ℕ) (e : (b : Bool) → f (b ∷ []) ≡ 0).
    sum_all (λ b. f (word_bits (word / 2 ^ (b * 1)) 0 1)) 0 n (λ k l. e _) in
    rw one (record {
      blocks = grind (arith, ones_below);
      fragments = omega (arith, fragments, none loose_in (λ b. (single_adds b).1));
      frsum = λ j. omega (arith, frsum j, none (stretches_in j) (λ b. (single_adds b).2 j));
    })
