-- Sums and counts over numbers in a row, and where all or none of them count.
use Rattle.std.proofs.Common.{◌≡◌, ℕ, zero, suc, ◌+◌, ◌*◌, ◌<◌, ◌≤◌, Bool, [], map, cond, arith, refl, ap}
use Rattle.std.proofs.Common.{count_by, ◌^◌, ◌-◌, true, false, List, not, inl, inr, nat_eq, max}
use Rattle.std.proofs.lemmas.{Bool.{cases_lt, lt-ltb, false_from_ne_true, true_from_ne_false}, List.Sums.sum_by-cons}
use Rattle.std.{proofs.lemmas.Nat.{mul-add-lt, Bits.bit_at_ones}, specs.{List.{range_with_len, sum_by}, Int.bit_at}}
use Rattle.ffs_volume.specs.Blocks.Claims.{is_set}
use Rattle.ffs_maps.proofs.Counting.{sum_split, count_within, none_counted, one_on}
use Rattle.ffs_groups.specs.Free.{free_in, bits_from}

pub sum_more : (f : ℕ → ℕ) (a n : ℕ) → sum_by f (range_with_len a (n + 1)) ≡ sum_by f (range_with_len a n) + f (a + n)
sum_more f a n = omega (arith, sum_split f a n 1 (n + 1) refl, sum_by-cons f (a + n) [])

pub sum_within : (f : ℕ → ℕ) (m a n : ℕ) → ((k : ℕ) → f k ≤ m) → sum_by f (range_with_len a n) ≤ n * m
sum_within f m a zero e = omega arith
sum_within f m a (suc n) e = omega (arith, sum_within f m (a + 1) n e, e a, sum_by-cons f a (range_with_len (a + 1) n))

pub map_same : (f g : ℕ → Bool) (a c n : ℕ) → ((k : ℕ) → k < n → f (a + k) ≡ g (c + k)) →
    map f (range_with_len a n) ≡ map g (range_with_len c n)
map_same f g a c zero e = refl
map_same f g a c (suc n) e =
    let rest = map_same f g (a + 1) (c + 1) n (λ k h. rw (one_on a k, one_on c k) (e (k + 1) (omega arith))) in
    grind (arith, e 0)

-- a count from a number on, and one number more
pub one_counted : (p : ℕ → Bool) (first inode count r : ℕ) (b : Bool) → first ≤ inode →
    count ≡ count_by p (range_with_len first (inode - first)) → r ≡ cond b 1 0 → b ≡ p inode →
    count + r ≡ count_by p (range_with_len first (inode + 1 - first))
one_counted p first inode count r b low counted is test = grind (arith, sum_more)

abbrev num : Bool → ℕ
num b = cond b 1 0

-- a count over a stretch, with one of its places apart
count_apart : (p : ℕ → Bool) (a n k : ℕ) (x : Bool) → k < n → p (a + k) ≡ x →
    count_by p (range_with_len a n)
    ≡ count_by p (range_with_len a k) + (cond x 1 0 + count_by p (range_with_len (a + k + 1) (n - k - 1)))
count_apart p a n k x h e =
    let one : num (p (a + k)) ≡ num x = ap num e in
    omega (
      arith,
      one,
      sum_split (λ j. cond (p j) 1 0) a k (suc (n - k - 1)) n (omega arith),
      sum_by-cons (λ j. cond (p j) 1 0) (a + k) (range_with_len (a + k + 1) (n - k - 1)),
    )

none_at : (p : ℕ → Bool) (a n k : ℕ) → count_by p (range_with_len a n) ≡ 0 → k < n → p (a + k) ≡ false
none_at p a n k e h = false_from_ne_true _ (λ is. absurd (omega (arith, e, count_apart p a n k true h is)))

all_at : (p : ℕ → Bool) (a n k : ℕ) → count_by p (range_with_len a n) ≡ n → k < n → p (a + k) ≡ true
all_at p a n k e h = true_from_ne_false _ (λ is. absurd (omega (
  arith,
  e,
  count_apart p a n k false h is,
  count_within p a k,
  count_within p (a + k + 1) (n - k - 1),
)))

free_by : (used : List Bool) (size f : ℕ) (x : Bool) → f < size → is_set used f ≡ x → free_in used size f ≡ not x
free_by used size f x h e = rw (lt-ltb f size h, e) refl

-- no bit is set: all fragments are free
pub all_free : (used : List Bool) (size start n count k : ℕ) → start + n ≤ size →
    count ≡ count_by (λ f. is_set used f) (range_with_len start n) → count ≡ 0 → k < n →
    free_in used size (start + k) ≡ true
all_free used size start n count k fits is e h =
    free_by used size (start + k) false (omega arith) (none_at (λ f. is_set used f) start n k (omega (arith, is, e)) h)

-- all bits are set: no fragment is free
pub none_free : (used : List Bool) (size start n count k : ℕ) → start + n ≤ size →
    count ≡ count_by (λ f. is_set used f) (range_with_len start n) → count ≡ n → k < n →
    free_in used size (start + k) ≡ false
none_free used size start n count k fits is e h =
    free_by used size (start + k) true (omega arith) (all_at (λ f. is_set used f) start n k (omega (arith, is, e)) h)

-- a fragment of a block is one of those that are looked at
pub in_block : (free : ℕ → Bool) (start frag blocks b k n m : ℕ) (x : Bool) → n ≡ blocks → m ≡ frag →
    ((j : ℕ) → j < start + n * m - start → free (start + j) ≡ x) → b < blocks → k < frag →
    free (start + b * frag + k) ≡ x
in_block free start frag blocks b k n m x many each all h l =
    let at : start + b * frag + k ≡ start + (b * frag + k) = omega arith in
    rw at (all (b * frag + k) (rw (many, each) (omega (arith, mul-add-lt b frag k blocks h l))))

-- a block of those from a fragment on, in the numbers of its group
pub block_from : (used : List Bool) (size size' a b f base block frag k : ℕ) → size ≡ size' → a ≡ base → b ≡ block →
    f ≡ frag →
    bits_from (free_in used size) (a + b * f) frag k
    ≡ map (free_in used size') (range_with_len (base + (block + k) * frag) frag)
block_from used size size' a b f base block frag k same is_a is_b is_f =
    let at : base + block * frag + k * frag ≡ base + (block + k) * frag = omega arith in
    rw (same, is_a, is_b, is_f) (ap (λ j. map (free_in used size') (range_with_len j frag)) at)

-- a count of numbers from 2 on is a count of all, where neither 0 nor 1 counts
pub count_from_two : (p : ℕ → Bool) (first len start n count : ℕ) → ((x : ℕ) → x < 2 → p x ≡ false) →
    start ≡ max first 2 → n ≡ max (first + len) start - start →
    count ≡ count_by p (range_with_len start n) → count ≡ count_by p (range_with_len first len)
count_from_two p first len start n count low is many e = elim (cases_lt len (start - first)) [
  | inl few ↦ grind arith
  | inr more ↦
      let at : first + (start - first) ≡ start = omega (arith, is) in
      let split = sum_split (λ x. cond (p x) 1 0) first (start - first) n len (omega (arith, is, many)) in
      omega (
        arith,
        e,
        none_counted p first (start - first) (λ k h. low (first + k) (omega (arith, is, h))),
        rw at at split,
      )
]

pub all_bits : (word k : ℕ) → word ≡ 2 ^ 64 - 1 → k < 64 → nat_eq (bit_at word k) 1 ≡ true
all_bits word k e h = rw (e, bit_at_ones 64 k h) refl
