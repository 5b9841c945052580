-- How many bits are set, where some of them change.
use Rattle.std.proofs.Common.{◌≡◌, ◌⊎◌, inl, inr, ℕ, ◌+◌, ◌-◌, ◌<◌, ◌≤◌, Bool, true, false, cond, List, length, get_or}
use Rattle.std.proofs.{Common.{slice_set, not, arith, refl}, lemmas.List.{get_or-set_other, get_or-set_same}}
use Rattle.std.{proofs.lemmas.List.Sums.sum_by-cons, specs.List.{range_with_len, slice_index_or}}
use mir.Val.{bool_byte}
use Rattle.ffs_maps.{specs.{Bits.{set_run, AreClear}, WordBits.set_among}, proofs.Counting.{sum_split, none_counted}}
use Rattle.ffs_maps.proofs.{Counting.{count_within, sum_same, sum_const}, Masks.{run_outside, run_inside}}

-- the bit at an index, as a number
abbrev is_one : List Bool → ℕ → ℕ
is_one bits f = cond (slice_index_or bits f false) 1 0

same_among : (old new : List Bool) (a n : ℕ) →
    ((k : ℕ) → k < n → get_or new (a + k) false ≡ get_or old (a + k) false) → set_among new a n ≡ set_among old a n
same_among old new a n e = sum_same (is_one new) (is_one old) a a n (λ k h. rw (e k h) refl)

all_among : (bits : List Bool) (a n : ℕ) → ((k : ℕ) → k < n → get_or bits (a + k) false ≡ true) → set_among bits a n ≡ n
all_among bits a n e = omega (arith, sum_const (is_one bits) 1 a n (λ k h. rw (e k h) refl))

-- a clear run has no set bit
pub none_among : (bits : List Bool) (start len : ℕ) → AreClear bits start len → set_among bits start len ≡ 0
none_among bits start len clear = none_counted (λ f. slice_index_or bits f false) start len clear

one_among : (bits : List Bool) (k : ℕ) → set_among bits k 1 ≡ cond (get_or bits k false) 1 0
one_among bits k = omega (arith, sum_by-cons (is_one bits) k (range_with_len (k + 1) 0))

-- some of the bits are set at most
pub few_among : (bits : List Bool) (a n : ℕ) → set_among bits a n ≤ n
few_among bits a n = count_within (λ f. slice_index_or bits f false) a n

-- the parts before a run, of the run, and after it
in_parts : (bits : List Bool) (size start len : ℕ) → start + len ≤ size →
    set_among bits 0 size ≡ set_among bits 0 start + set_among bits start len
    + set_among bits (start + len) (size - (start + len))
in_parts bits size start len h =
    let at : 0 + start ≡ start = omega arith in
    let first = rw at at (sum_split (is_one bits) 0 start (size - start) size (omega (arith, h))) in
    omega (arith, first, sum_split (is_one bits) start len (size - (start + len)) (size - start) (omega (arith, h)))

-- only the bits of a run change
changed : (old new : List Bool) (size start len : ℕ) → start + len ≤ size →
    ((f : ℕ) → (f < start) ⊎ (start + len ≤ f) → get_or new f false ≡ get_or old f false) →
    set_among new 0 size + set_among old start len ≡ set_among old 0 size + set_among new start len
changed old new size start len h same = omega (
  arith,
  in_parts old size start len h,
  in_parts new size start len h,
  same_among old new 0 start (λ k l. same (0 + k) (inl (omega (arith, l)))),
  same_among old new (start + len) (size - (start + len)) (λ k l. same (start + len + k) (inr (omega arith))),
)

-- one bit becomes b
pub one_set : (bits : List Bool) (size k : ℕ) (b : Bool) → length bits ≡ size → k < size →
    set_among (slice_set bits k b) 0 size + cond (get_or bits k false) 1 0 ≡ set_among bits 0 size + cond b 1 0
one_set bits size k b is h =
    let here : is_one (slice_set bits k b) k ≡ cond b 1 0 = grind (arith, get_or-set_same) in
    omega (
      arith,
      here,
      one_among bits k,
      one_among (slice_set bits k b) k,
      changed bits (slice_set bits k b) size k 1 (omega (arith, h))
          (λ f apart. get_or-set_other bits k f b false
          (λ e. elim apart [ inl a ↦ omega arith | inr c ↦ omega arith ])),
    )

-- what a test is as a number
pub one_if : (b : Bool) (n : ℕ) → n ≡ bool_byte b → n ≡ cond b 1 0
one_if b n h = grind arith

-- the number of set bits, where a bit is set
pub raised : (bits : List Bool) (size k ones n : ℕ) (was : Bool) → length bits ≡ size → k < size →
    ones ≡ set_among bits 0 size → was ≡ get_or bits k false → n ≡ bool_byte (not was) →
    ones + n ≡ set_among (slice_set bits k true) 0 size
raised bits size k ones n was is h counted read more =
    let other = rw read at (both was n more) in omega (arith, one_set bits size k true is h, counted, other)
  where
    both : (b : Bool) (n : ℕ) → n ≡ bool_byte (not b) → n + cond b 1 0 ≡ 1
    both true n e = omega (arith, e)
    both false n e = omega (arith, e)

-- where a bit is cleared
pub lowered : (bits : List Bool) (size k ones n : ℕ) (was : Bool) → length bits ≡ size → k < size →
    ones ≡ set_among bits 0 size → was ≡ get_or bits k false → n ≡ bool_byte was →
    set_among (slice_set bits k false) 0 size + n ≡ ones
lowered bits size k ones n was is h counted read less =
    let one = rw read at (one_if was n less) in omega (arith, one_set bits size k false is h, counted, one)

-- where the bits of a run are set, of which some were
pub run_raised : (bits : List Bool) (size start len ones n : ℕ) → length bits ≡ size → start + len ≤ size →
    ones ≡ set_among bits 0 size → n ≡ set_among bits start len →
    ones + (len - n) ≡ set_among (set_run bits start len) 0 size
run_raised bits size start len ones n is h counted was = omega (
  arith,
  all_among (set_run bits start len) start len
      (λ k l. run_inside bits start len (start + k) false (omega arith) (omega (arith, l)) (omega (arith, is, h, l))),
  changed bits (set_run bits start len) size start len h (λ f apart. run_outside bits start len f false apart),
  counted,
  was,
  few_among bits start len,
)
