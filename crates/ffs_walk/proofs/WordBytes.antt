-- A word isn't zero where one of its bytes isn't, in either byte order.
use Rattle.std.proofs.Common.{◌≡◌, ℕ, zero, suc, ◌==◌, ◌+◌, ◌-◌, ◌*◌, ◌<◌, ◌≤◌, true, false, not, List, []}
use Rattle.std.proofs.Common.{leb, ◌&&◌, ◌∷◌, length, take, drop, arith, refl, length-drop}
use Rattle.std.{proofs.{Math.Seq.take-add, lemmas.List.{drop-drop, Folds.list_any-append}}, specs.List.list_any}
use Rattle.std.specs.List.{range_with_len, slice_range}
use Rattle.ffs_volume.specs.{declared.{Layout.Layout, Order.{Order, TheVariants.{Little, Big}}}, Disk.Numbers.number}
use Rattle.ffs_volume.specs.{Disk.Numbers.u32_at, Blocks.{Inodes.any_nonzero, Steps.{address_in, any_nonzero_from}}}

-- the number of four bytes
four_set : (order : Order) (a b c d : ℕ) (xs : List ℕ) →
    any_nonzero (a ∷ b ∷ c ∷ d ∷ []) ≡ not (number order 4 (a ∷ b ∷ c ∷ d ∷ xs) == 0)
unfolding number
four_set Little a b c d xs = grind arith
four_set Big a b c d xs = grind arith

word_set : (order : Order) (xs : List ℕ) → 4 ≤ length xs → any_nonzero (take 4 xs) ≡ not (number order 4 xs == 0)
word_set order [] h = absurd (omega (arith, h))
word_set order (a ∷ []) h = absurd (omega (arith, h))
word_set order (a ∷ b ∷ []) h = absurd (omega (arith, h))
word_set order (a ∷ b ∷ c ∷ []) h = absurd (omega (arith, h))
word_set order (a ∷ b ∷ c ∷ d ∷ xs) h = four_set order a b c d xs

-- the bytes of some words
words_set : (v : Layout) (block : List ℕ) (n first : ℕ) → 4 * (first + n) ≤ length block →
    any_nonzero (take (4 * n) (drop (4 * first) block))
    ≡ list_any (λ j. not (address_in v block j == 0)) (range_with_len first n)
unfolding u32_at
words_set v block zero first h = refl
words_set v block (suc n) first h =
    let xs = drop (4 * first) block in
    let e : 4 * suc n ≡ 4 + 4 * n = omega arith in
    let f : 4 * first + 4 ≡ 4 * (first + 1) = omega arith in
    rw (
      e,
      take-add 4 (4 * n) xs,
      list_any-append (λ a. not (a == 0)) (take 4 xs) (take (4 * n) (drop 4 xs)),
      word_set v.order xs (omega (arith, h, length-drop (4 * first) block)),
      drop-drop 4 (4 * first) block,
      f,
      words_set v block n (first + 1) (omega (arith, h)),
    ) refl

-- the bytes of the words from an index on
pub any_byte_from : (v : Layout) (block : List ℕ) (used : ℕ) → used ≤ v.nindir → 4 * v.nindir ≤ length block →
    any_nonzero (slice_range block (4 * used) (4 * v.nindir)) ≡ any_nonzero_from v block used
any_byte_from v block used h fits = grind (arith, words_set)

none_set : (word : ℕ → ℕ) (n first i : ℕ) → list_any (λ j. not (word j == 0)) (range_with_len first n) ≡ false → i < n →
    word (first + i) ≡ 0
none_set word zero first i e h = absurd (omega (arith, h))
none_set word (suc n) first zero e h = grind arith
none_set word (suc n) first (suc i) e h = grind (arith, none_set word n (first + 1) i)

-- some words are all zero where no byte of them is set
pub no_byte : (v : Layout) (block : List ℕ) (first n k : ℕ) → 4 * (first + n) ≤ length block →
    any_nonzero (slice_range block (4 * first) (4 * (first + n))) ≡ false → first ≤ k → k < first + n →
    address_in v block k ≡ 0
no_byte v block first n k fits none low high =
    grind (arith, words_set v block n first fits, none_set (λ j. address_in v block j) n first (k - first))

-- the words from an index on and below another are zero
pub record ZerosTo (v : Layout) (block : List ℕ) (next used place : ℕ) : Type 0 where
  pub low : next ≤ place
  pub high : place ≤ used
  pub zeros : (k : ℕ) → next ≤ k → k < place → address_in v block k ≡ 0

-- and so many more, where they are below `used` and no byte of them is set
pub more_zeros : (v : Layout) (block : List ℕ) (next used place n : ℕ) → 4 * used ≤ length block →
    (leb (place + n) used && not (any_nonzero (slice_range block (4 * place) (4 * (place + n))))) ≡ true →
    ZerosTo v block next used place → ZerosTo v block next used (place + n)
more_zeros v block next used place n fits all z = grind (arith, no_byte)
