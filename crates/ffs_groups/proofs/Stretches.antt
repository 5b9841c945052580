-- Stretches of free fragments, from one to the next.
use Rattle.std.proofs.Common.{◌≡◌, ℕ, zero, suc, ◌+◌, ◌-◌, ◌<◌, ◌≤◌, ◌/◌, ◌^◌, true, false, arith, inl, inr, ◌⊎◌, refl}
use Rattle.std.{proofs.Common.{◌∙◌, sym, count_by, nat_eq, ◌==◌, min}, specs.Int.{bit_at, trailing_zeros}}
use Rattle.std.{specs.Int.trailing_ones, proofs.lemmas.Nat.Bits.{bit_at-trailing_zeros, bit_at-trailing_ones}}
use Rattle.std.proofs.{lemmas.{Nat.Bits.{bit_at-zero, bit_at_ones}, Bool.cases_lt}, Math.Nat.div-le_self}
use mir.Syntax.{w64}
use Rattle.ffs_volume.specs.Groups.Records.{free_stretches, stretch_of}
use Rattle.ffs_groups.{specs.Free.word_bits, proofs.Adding.{free_next, used_next, stretch_grows, stretch_ends}}
use Rattle.ffs_maps.proofs.WordShifts.{bit_shr}

-- z used fragments add nothing
pub skipped : (word k z n : ℕ) → ((i : ℕ) → i < z → bit_at word (k + i) ≡ 0) → z ≤ n →
    (count_by (λ f. f) (word_bits word k n) ≡ count_by (λ f. f) (word_bits word (k + z) (n - z)))
    × ((j : ℕ) → count_by (λ x. x == j) (free_stretches 0 (word_bits word k n))
    ≡ count_by (λ x. x == j) (free_stretches 0 (word_bits word (k + z) (n - z))))
skipped word k zero n clear h = grind arith
skipped word k (suc z) n clear h =
    let first : bit_at word (k + 0) ≡ 0 = clear 0 (omega arith) in
    let at : k + 0 ≡ k = omega arith in
    let off : nat_eq (bit_at word k) 1 ≡ false = rw (rw at at first) refl in
    let one : n ≡ n - 1 + 1 = omega (arith, h) in
    let (f, s) = skipped word (k + 1) z (n - 1)
    (λ i l. let there : k + 1 + i ≡ k + (i + 1) = omega arith in rw there (clear (i + 1) (omega (arith, l))))
    (omega (arith, h)) in
    let place : k + 1 + z ≡ k + suc z = omega arith in
    let left : n - 1 - z ≡ n - suc z = omega arith in (
      used_next word k n (n - 1) one off ∙ rw (place, left) at f,
      λ j. let empty : count_by (λ x. x == j) (stretch_of 0) ≡ 0 = refl in
          omega (arith, stretch_ends word k n (n - 1) 0 j one off, rw (place, left) at (s j), empty),
    )

-- l free fragments make the stretch before them longer
pub grown : (word k l n r : ℕ) → ((i : ℕ) → i < l → bit_at word (k + i) ≡ 1) → l ≤ n →
    (count_by (λ f. f) (word_bits word k n) ≡ l + count_by (λ f. f) (word_bits word (k + l) (n - l)))
    × ((j : ℕ) → count_by (λ x. x == j) (free_stretches r (word_bits word k n))
    ≡ count_by (λ x. x == j) (free_stretches (r + l) (word_bits word (k + l) (n - l))))
grown word k zero n r set h = grind arith
grown word k (suc l) n r set h =
    let first : bit_at word (k + 0) ≡ 1 = set 0 (omega arith) in
    let at : k + 0 ≡ k = omega arith in
    let on : nat_eq (bit_at word k) 1 ≡ true = rw (rw at at first) refl in
    let one : n ≡ n - 1 + 1 = omega (arith, h) in
    let (f, s) = grown word (k + 1) l (n - 1) (r + 1)
    (λ i m. let there : k + 1 + i ≡ k + (i + 1) = omega arith in rw there (set (i + 1) (omega (arith, m))))
    (omega (arith, h)) in
    let place : k + 1 + l ≡ k + suc l = omega arith in
    let left : n - 1 - l ≡ n - suc l = omega arith in
    let longer : r + 1 + l ≡ r + suc l = omega arith in (
      omega (arith, free_next word k n (n - 1) one on, rw (place, left) at f),
      λ j. stretch_grows word k n (n - 1) r j one on ∙ rw (place, left, longer) at (s j),
    )

-- a stretch ends at a used fragment, and where no fragment is left
pub ended : (word k n r j : ℕ) → (n ≡ 0) ⊎ (bit_at word k ≡ 0) →
    count_by (λ x. x == j) (free_stretches r (word_bits word k n))
    ≡ count_by (λ x. x == j) (stretch_of r) + count_by (λ x. x == j) (free_stretches 0 (word_bits word k n))
ended word k zero r j e = omega arith
ended word k (suc n) r j (inl e) = absurd (omega (arith, e))
ended word k (suc n) r j (inr e) =
    let off : nat_eq (bit_at word k) 1 ≡ false = rw e refl in
    let here = stretch_ends word k (suc n) n r j (omega arith) off in
    let next = stretch_ends word k (suc n) n 0 j (omega arith) off in
    omega (arith, here, next)

-- the bits below the lowest set one are clear
zeros_below : (n i : ℕ) → n < 2 ^ 64 → i < trailing_zeros w64 n → bit_at n i ≡ 0
zeros_below zero i fits h = bit_at-zero i
zeros_below (suc n) i fits h =
    let (few, set, all) = bit_at-trailing_zeros w64 (suc n) (omega arith) fits in all i h

-- those below the lowest clear one are set
ones_below : (n i : ℕ) → n < 2 ^ 64 → i < 64 → i < trailing_ones w64 n → bit_at n i ≡ 1
ones_below n i fits few h = elim (cases_lt (n + 1) (2 ^ 64)) [
  | inl small ↦ let (low, clear, all) = bit_at-trailing_ones w64 n small in all i h
  | inr large ↦ let top : n ≡ 2 ^ 64 - 1 = omega (arith, fits, large) in rw top (bit_at_ones 64 i few)
]

ones_end : (n left : ℕ) → n < 2 ^ 64 → left ≤ 8 → trailing_ones w64 n < left → bit_at n (trailing_ones w64 n) ≡ 0
unfolding lib.Count.count_trailing_zeros
ones_end n left fits few h = elim (cases_lt (n + 1) (2 ^ 64)) [
  | inl small ↦ let (low, clear, all) = bit_at-trailing_ones w64 n small in clear
  | inr large ↦
      let top : n ≡ 2 ^ 64 - 1 = omega (arith, fits, large) in
      let all : trailing_ones w64 (2 ^ 64 - 1) ≡ 64 = refl in
      absurd (omega (arith, rw top at h, all, few))
]

-- where the lowest bit isn't clear, it is set
ones_begin : (n : ℕ) → n < 2 ^ 64 → trailing_zeros w64 n ≡ 0 → 0 < trailing_ones w64 n
unfolding lib.Count.count_trailing_zeros
ones_begin zero fits e = let none : trailing_zeros w64 0 ≡ 64 = refl in absurd (omega (arith, none, e))
ones_begin (suc n) fits e =
    let (few, set, all) = bit_at-trailing_zeros w64 (suc n) (omega arith) fits in
    let one : bit_at (suc n) 0 ≡ 1 = rw e at set in
    elim (cases_lt 0 (trailing_ones w64 (suc n))) [
      | inl some ↦ some
      | inr none ↦
          let here : trailing_ones w64 (suc n) ≡ 0 = omega (arith, none) in
          let off = ones_end (suc n) 1 fits (omega arith) (omega (arith, here)) in
          absurd (omega (arith, one, rw here at off))
    ]

-- the used fragments from an index on, and the stretch of free ones after them
pub next_stretch : (word k frag used stretch : ℕ) → word < 2 ^ 64 → k < frag → frag ≤ 8 →
    used ≡ min (trailing_zeros w64 (word / 2 ^ k)) (frag - k) →
    stretch ≡ min (trailing_ones w64 (word / 2 ^ (k + used))) (frag - (k + used)) →
    (count_by (λ f. f) (word_bits word k (frag - k))
    ≡ stretch + count_by (λ f. f) (word_bits word (k + used + stretch) (frag - (k + used + stretch))))
    × ((j : ℕ) → count_by (λ x. x == j) (free_stretches 0 (word_bits word k (frag - k)))
    ≡ count_by (λ x. x == j) (stretch_of stretch) + count_by (λ x. x == j)
    (free_stretches 0 (word_bits word (k + used + stretch) (frag - (k + used + stretch)))))
    × (k < k + used + stretch) × (k + used + stretch ≤ frag)
next_stretch word k frag used stretch fits below few is_used is_stretch =
    let small : word / 2 ^ k < 2 ^ 64 = shifted word k fits in
    let small' : word / 2 ^ (k + used) < 2 ^ 64 = shifted word (k + used) fits in
    let within : k + used + stretch ≤ frag = omega (arith, is_used, is_stretch, below) in
    let left : frag - k - used ≡ frag - (k + used) = omega arith in
    let left' : frag - (k + used) - stretch ≡ frag - (k + used + stretch) = omega arith in
    let (f, s) = skipped word k used (frag - k)
    (λ i h. at word k i 0 (zeros_below (word / 2 ^ k) i small (omega (arith, h, is_used))))
    (omega (arith, is_used)) in
    let (g, t) = grown word (k + used) stretch (frag - (k + used)) 0
    (λ i h. at word (k + used) i 1 (ones_below (word / 2 ^ (k + used)) i small' (omega (arith, h, is_stretch, few))
    (omega (arith, h, is_stretch)))) (omega (arith, is_stretch)) in
    let alone : 0 + stretch ≡ stretch = omega arith in
    let stops = last word (k + used) frag stretch small' few within is_stretch in (
      rw left at f ∙ rw left' at g,
      λ j. rw left at (s j) ∙ (rw (left', alone) at (t j)
          ∙ ended word (k + used + stretch) (frag - (k + used + stretch)) stretch j stops),
      progress word k frag used stretch small below is_used is_stretch,
      within,
    )
  where
    shifted : (word k : ℕ) → word < 2 ^ 64 → word / 2 ^ k < 2 ^ 64
    shifted word k fits = omega (arith, div-le_self word (2 ^ k), fits)

    at : (word k i b : ℕ) → bit_at (word / 2 ^ k) i ≡ b → bit_at word (k + i) ≡ b
    at word k i b e = let there : k + i ≡ i + k = omega arith in rw there (sym (bit_shr word k i) ∙ e)

    last : (word start frag stretch : ℕ) → word / 2 ^ start < 2 ^ 64 → frag ≤ 8 → start + stretch ≤ frag →
        stretch ≡ min (trailing_ones w64 (word / 2 ^ start)) (frag - start) →
        (frag - (start + stretch) ≡ 0) ⊎ (bit_at word (start + stretch) ≡ 0)
    last word start frag stretch small few within is =
        elim (cases_lt (trailing_ones w64 (word / 2 ^ start)) (frag - start)) [
          | inl less ↦
              let same : trailing_ones w64 (word / 2 ^ start) ≡ stretch = omega (arith, less, is) in
              let clear = ones_end (word / 2 ^ start) (frag - start) small (omega (arith, few)) less in
              inr (at word start stretch 0 (rw same at clear))
          | inr more ↦ inl (omega (arith, more, is, within))
        ]

    progress : (word k frag used stretch : ℕ) → word / 2 ^ k < 2 ^ 64 → k < frag →
        used ≡ min (trailing_zeros w64 (word / 2 ^ k)) (frag - k) →
        stretch ≡ min (trailing_ones w64 (word / 2 ^ (k + used))) (frag - (k + used)) → k < k + used + stretch
    progress word k frag used stretch small below is_used is_stretch = elim (cases_lt 0 used) [
      | inl some ↦ omega (arith, some)
      | inr none ↦
          let same : k + used ≡ k = omega (arith, none) in
          let first : trailing_zeros w64 (word / 2 ^ k) ≡ 0 = omega (arith, none, is_used, below) in
          omega (arith, rw same at is_stretch, ones_begin (word / 2 ^ k) small first, below, same)
    ]
