-- The lines of stretches of numbers that pass, one after another.
use Rattle.std.proofs.Common.{◌≡◌, ◌∙◌, ℕ, zero, suc, ◌+◌, ◌-◌, ◌<◌, ◌≤◌, Bool, true, false, List, [], ◌∷◌, ◌++◌}
use Rattle.std.proofs.{Common.{append-nil, arith, refl, ap, sym, subst, inl, inr}, lemmas.Bool.cases_lt}
use Rattle.std.specs.{List.{concat, flat_map, prefix_len, range_with_len}, Prelude.{◌||◌}}
use Rattle.ffs_report.{specs.Sink.{Sink, Took, BrokeOff}, proofs.Sinks.{took_nil, took_then, broke_off_after}}
use Rattle.ffs_report.proofs.Sinks.{broke_off_more}
use Rattle.ffs_claims.proofs.Frames.{or_true}
use Rattle.ffs_finding.specs.{Outcome.any_line, LostMaps.IsNext}
use Rattle.ffs_finding.proofs.{Printing.{any_more, concat-append, text_at_begin}, Ranges.{next, none, split}}
use Rattle.ffs_volume.specs.Find.Lost.{range_text, stretch_at, stretch_length, stretch_lines}

range_is_text : (word : List ℕ) (first last : ℕ) → any_line (range_text word first last ∷ []) ≡ true
range_is_text word first last = grind (arith, text_at_begin)

-- so many pass from the front on
prefix_is : (p : ℕ → Bool) (f n j : ℕ) → j ≤ n → ((k : ℕ) → f ≤ k → k < f + j → p k ≡ true) →
    (j < n → p (f + j) ≡ false) → prefix_len p (range_with_len f n) ≡ j
prefix_is p f zero zero few pass stop = refl
prefix_is p f zero (suc j) few pass stop = absurd (omega (arith, few))
prefix_is p f (suc n) zero few pass stop = grind arith
prefix_is p f (suc n) (suc j) few pass stop =
    let at : p f ≡ true = pass f (omega arith) (omega arith) in
    let rest = prefix_is p (f + 1) n j (omega (arith, few))
    (λ k low high. pass k (omega (arith, low)) (omega (arith, high)))
    (λ h. let place : f + suc j ≡ f + 1 + j = omega arith in subst (λ (k : ℕ). p k ≡ false) place
    (stop (omega (arith, h)))) in
    rw (at, rest) (omega arith)

module _ (word : List ℕ) (p : ℕ → Bool) (base end : ℕ) where
  -- the lines of the stretches that begin before a number
  abbrev pub before : (f : ℕ) → List (List ℕ)
  before f = flat_map (stretch_at word p base end) (range_with_len base (f - base))

  -- no stretch begins at a number that doesn't pass
  at_none : (f : ℕ) → p f ≡ false → stretch_at word p base end f ≡ []
  at_none f h = rw h refl

  -- nor at one after a number that passes
  at_later : (f : ℕ) → base < f → p (f - 1) ≡ true → stretch_at word p base end f ≡ []
  at_later f low h = grind arith

  at_first : (f : ℕ) → p f ≡ true → (base < f → p (f - 1) ≡ false) → base ≤ f →
      stretch_at word p base end f ≡ range_text word f (f + stretch_length p end f - 1) ∷ []
  at_first f here begins low = grind arith

  pub before_more : (f g : ℕ) → base ≤ f → f ≤ g →
      before g ≡ before f ++ flat_map (stretch_at word p base end) (range_with_len f (g - f))
  before_more f g low high =
      let all : f - base + (g - f) ≡ g - base = omega arith in
      let place : base + (f - base) ≡ f = omega arith in
      rw (sym all) (split (stretch_at word p base end) base (f - base) (g - f)
      ∙ ap (λ (k : ℕ). before f ++ flat_map (stretch_at word p base end) (range_with_len k (g - f))) place)

  -- no line of numbers that don't pass
  pub before_none : (f g : ℕ) → base ≤ f → f ≤ g → ((k : ℕ) → f ≤ k → k < g → p k ≡ false) → before g ≡ before f
  before_none f g low high fail =
      before_more f g low high
      ∙ ap (λ (xs : List (List ℕ)). before f ++ xs)
      (none (stretch_at word p base end) f (g - f) (λ k a b. at_none k (fail k a (omega (arith, b)))))
      ∙ append-nil (before f)

  -- one line of a stretch
  pub before_stretch : (f g : ℕ) → base ≤ f → f < g → g ≤ end → p f ≡ true → (base < f → p (f - 1) ≡ false) →
      ((k : ℕ) → f ≤ k → k < g → p k ≡ true) → (g < end → p g ≡ false) →
      before g ≡ before f ++ (range_text word f (g - 1) ∷ [])
  before_stretch f g low high within here begins pass stop =
      let long : stretch_length p end f ≡ g - f = prefix_is p f (end - f) (g - f) (omega (arith, within))
      (λ k a b. pass k a (omega (arith, b, high))) (λ h. let place : g ≡ f + (g - f) = omega (arith, high) in
      subst (λ (k : ℕ). p k ≡ false) place (stop (omega (arith, h, high)))) in
      let last : f + stretch_length p end f - 1 ≡ g - 1 = omega (arith, long, high) in
      let one = at_first f here begins low in
      let rest = none (stretch_at word p base end) (f + 1) (g - f - 1)
      (λ k a b. at_later k (omega (arith, a, low)) (pass (k - 1) (omega (arith, a)) (omega (arith, a, b)))) in
      before_more f g low (omega (arith, high))
      ∙ ap (λ (xs : List (List ℕ)). before f ++ xs)
      (next (stretch_at word p base end) f (g - f) (omega (arith, high))
      ∙ rw (rest, one, last) refl)

  -- the lines from a number on
  abbrev rest_from : (f : ℕ) → List (List ℕ)
  rest_from f = flat_map (stretch_at word p base end) (range_with_len f (end - f))

  all_before : (f : ℕ) → f ≡ end → stretch_lines word p base end ≡ before f
  unfolding stretch_lines
  all_before f e = ap before (sym e)

  all_lines : (g : ℕ) → base ≤ g → g ≤ end → stretch_lines word p base end ≡ before g ++ rest_from g
  unfolding stretch_lines
  all_lines g low high = before_more g end low high

  -- a stretch has a fragment at least
  after_it : {f g : ℕ} → p f ≡ true → f < end → IsNext p false f end g → f < g
  after_it {f} {g} here inside stops = elim (cases_lt f g) [
    | inl less ↦ less
    | inr other ↦
        let same : f ≡ g = omega (arith, other, stops.order) in
        let yes : p g ≡ true = subst (λ (k : ℕ). p k ≡ true) same here in
        let no : p g ≡ false = stops.at (omega (arith, same, inside)) in
        let bad : true ≡ false = sym yes ∙ no in absurd (cc)
  ]

  -- the next one doesn't begin where this one ends
  begins_at : {f g h : ℕ} → IsNext p false f end g → IsNext p true g end h → h < end → p (h - 1) ≡ false
  begins_at {f} {g} {h} stops found less = elim (cases_lt g h) [
    | inl more ↦ found.others (h - 1) (omega (arith, more)) (omega (arith, more))
    | inr other ↦
        let same : g ≡ h = omega (arith, other, found.order) in
        let no : p h ≡ false = subst (λ (k : ℕ). p k ≡ false) same (stops.at (omega (arith, same, less))) in
        let yes : p h ≡ true = found.at less in
        let bad : true ≡ false = sym yes ∙ no in absurd (cc)
  ]

  -- ---- the loop over the stretches: what holds where one begins, or none follows
  pub record IsAt (f : ℕ) (any : Bool) (old new : Sink) : Type 0 where
    pub low : base ≤ f
    pub high : f ≤ end
    pub here : f < end → p f ≡ true
    pub begins : f < end → base < f → p (f - 1) ≡ false
    pub took : Took old new (concat (before f))
    pub any_is : any ≡ any_line (before f)

  -- the first stretch
  pub at_begin : (f : ℕ) (a : Sink) → base ≤ end → IsNext p true base end f → IsAt f false a a
  at_begin f a order found =
      let nothing : before f ≡ before base =
      before_none base f (omega arith) found.order (λ k low high. found.others k low high) in
      let empty : before base ≡ [] = (let zero_is : base - base ≡ 0 = omega arith in rw zero_is refl) in
      record {
        low = found.order;
        high = found.within;
        here = found.at;
        begins = λ h low. found.others (f - 1) (omega (arith, low)) (omega (arith, low));
        took = rw (nothing, empty) (took_nil a);
        any_is = rw (nothing, empty) refl;
      }

  -- the line of a stretch from f on and below g, and then the next stretch, at h
  one_line : {f g : ℕ} {any : Bool} {a b : Sink} → IsAt f any a b → f < end → IsNext p false f end g →
      before g ≡ before f ++ (range_text word f (g - 1) ∷ [])
  one_line {f} {g} at inside stops =
      before_stretch f g at.low (after_it (at.here inside) inside stops) stops.within (at.here inside)
      (at.begins inside) (λ k low high. stops.others k low high) stops.at

  pub at_next : {f g h : ℕ} {any : Bool} {a b c : Sink} → IsAt f any a b → f < end → IsNext p false f end g →
      Took b c (range_text word f (g - 1)) → IsNext p true g end h → IsAt h true a c
  at_next {f} {g} {h} {any} {a} {b} {c} at inside stops took found =
      let line = one_line at inside stops in
      let same : before h ≡ before g = before_none g h (omega (arith, at.low, stops.order)) found.order
      (λ k low high. found.others k low high) in
      let text : concat (before h) ≡ concat (before f) ++ range_text word f (g - 1) =
      ap concat (same ∙ line) ∙ concat-append (before f) _
      ∙ ap (λ (xs : List ℕ). concat (before f) ++ xs) (append-nil _) in
      record {
        low = omega (arith, at.low, stops.order, found.order);
        high = found.within;
        here = found.at;
        begins = λ less low. begins_at stops found less;
        took = rw text (took_then a b c _ _ at.took took);
        any_is = sym (ap any_line (same ∙ line) ∙ any_more (before f) _
            ∙ ap (λ (t : Bool). any_line (before f) || t) (range_is_text word f (g - 1)) ∙ or_true (any_line (before f)));
      }

  -- the output failed in the line of a stretch
  pub broke_at : {f g : ℕ} {any : Bool} {a b c : Sink} → IsAt f any a b → f < end → IsNext p false f end g →
      BrokeOff b c (range_text word f (g - 1)) → BrokeOff a c (concat (stretch_lines word p base end))
  broke_at {f} {g} {any} {a} {b} {c} at inside stops broke =
      let text : concat (before g) ≡ concat (before f) ++ range_text word f (g - 1) =
      ap concat (one_line at inside stops) ∙ concat-append (before f) _
      ∙ ap (λ (xs : List ℕ). concat (before f) ++ xs) (append-nil _) in
      rw (all_lines g (omega (arith, at.low, stops.order)) stops.within)
      (rw (concat-append (before g) (rest_from g), text)
      (broke_off_more a c _ (concat (rest_from g)) (broke_off_after a b c _ _ at.took broke)))

  -- no further stretch
  pub at_end : {f : ℕ} {any : Bool} {a b : Sink} → IsAt f any a b → end ≤ f →
      Took a b (concat (stretch_lines word p base end)) × (any ≡ any_line (stretch_lines word p base end))
  at_end {f} at past =
      let all : stretch_lines word p base end ≡ before f = all_before f (omega (arith, at.high)) in
      (rw all at.took, rw all at.any_is)
