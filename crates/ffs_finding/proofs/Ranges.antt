-- Texts and lines of the numbers of a range, one after another.
use Rattle.std.proofs.Common.{◌≡◌, ℕ, zero, suc, ◌+◌, ◌-◌, ◌<◌, ◌≤◌, List, [], ◌++◌, append_assoc, append-nil, arith}
use Rattle.std.{proofs.Common.{refl, subst, sym, ap, ◌∙◌}, specs.List.{flat_map, range_with_len}}
use Rattle.ffs_report.{specs.Sink.{Sink, Took, BrokeOff}, proofs.Sinks.{took_then, broke_off_after, broke_off_more}}

module _ {X : Type 0} (f : ℕ → List X) where
  -- the first numbers of a range, and the others
  pub split : (a j m : ℕ) → flat_map f (range_with_len a (j + m))
      ≡ flat_map f (range_with_len a j) ++ flat_map f (range_with_len (a + j) m)
  split a zero m = grind arith
  split a (suc j) m =
      let more : suc j + m ≡ suc (j + m) = omega arith in
      let place : a + suc j ≡ a + 1 + j = omega arith in
      rw (more, place) (ap (λ (xs : List X). f a ++ xs) (split (a + 1) j m) ∙ sym (append_assoc (f a) _ _))

  pub more : (a j : ℕ) → flat_map f (range_with_len a (j + 1)) ≡ flat_map f (range_with_len a j) ++ f (a + j)
  more a j = grind (arith, split a j 1, append-nil)

  pub from_zero : (j : ℕ) → flat_map f (range_with_len 0 (j + 1)) ≡ flat_map f (range_with_len 0 j) ++ f j
  from_zero j = grind (arith, more 0 j)

  -- one more number, and those after it
  pub next : (a n : ℕ) → 0 < n → flat_map f (range_with_len a n) ≡ f a ++ flat_map f (range_with_len (a + 1) (n - 1))
  next a zero h = absurd (omega arith)
  next a (suc n) h = grind arith

  -- the numbers before one, the one, and those after it
  pub around : (j n : ℕ) → j < n → flat_map f (range_with_len 0 n)
      ≡ flat_map f (range_with_len 0 j) ++ (f j ++ flat_map f (range_with_len (j + 1) (n - j - 1)))
  around j n h =
      let whole : j + (n - j) ≡ n = omega arith in
      let first = next j (n - j) (omega arith) in
      let parts = split 0 j (n - j) in
      grind (arith, whole, first, parts)

  -- nothing of numbers that have nothing
  pub none : (a n : ℕ) → ((k : ℕ) → a ≤ k → k < a + n → f k ≡ []) → flat_map f (range_with_len a n) ≡ []
  none a zero h = refl
  none a (suc n) h =
      let rest = none (a + 1) n (λ k low high. h k (omega arith) (omega arith)) in
      let first = h a (omega arith) (omega arith) in
      grind (arith, rest, first)

-- one more text was printed
pub took_next : (f : ℕ → List ℕ) (a b c : Sink) (j : ℕ) → Took a b (flat_map f (range_with_len 0 j)) → Took b c (f j) →
    Took a c (flat_map f (range_with_len 0 (j + 1)))
took_next f a b c j p q =
    subst (Took a c) (sym (from_zero f j)) (took_then a b c (flat_map f (range_with_len 0 j)) (f j) p q)

-- the output failed in a text
pub broke_off_in : (f : ℕ → List ℕ) (a b c : Sink) (j n : ℕ) → j < n → Took a b (flat_map f (range_with_len 0 j)) →
    BrokeOff b c (f j) → BrokeOff a c (flat_map f (range_with_len 0 n))
broke_off_in f a b c j n h p q =
    subst (BrokeOff a c) (sym (around f j n h))
    (broke_off_after a b c (flat_map f (range_with_len 0 j)) _ p
    (broke_off_more b c (f j) (flat_map f (range_with_len (j + 1) (n - j - 1))) q))
