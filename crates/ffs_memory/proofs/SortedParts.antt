-- Lists of which a part is put in order: t has the part, W has it in order, and R comes after both.
use Rattle.std.proofs.Common.{◌≡◌, ◌≤◌, ◌+◌, ◌++◌, ℕ, List, arith, ap, sym, ◌∙◌, drop, length, take}
use Rattle.std.proofs.lemmas.List.{append_assoc, drop_at, drop-append-le, drop-drop, drop-take, length-append}
use Rattle.std.proofs.lemmas.List.{length-drop, length-take-le, take_all, take-append-le, take-take}

module _ {A : Type 0} where
  -- t with other elements from an index on
  abbrev pub with_part : List A → List A → ℕ → ℕ → List A
  with_part t mid from k = take from t ++ (mid ++ drop k (drop from t))

  pub length_part : (t mid : List A) (from k : ℕ) → from + k ≤ length t → length mid ≡ k →
      length (with_part t mid from k) ≡ length t
  length_part t mid from k low len = grind (arith, length-append, length-take-le, length-drop)

  -- nothing of t is left after it
  pub part_alone : (t mid : List A) (from k n : ℕ) → from + k ≤ length t → length mid ≡ k → n ≡ length t →
      take n (with_part t mid from k ++ drop (length (with_part t mid from k)) t) ≡ with_part t mid from k
  part_alone t mid from k n low len is = grind (arith, length_part, take-append-le, take_all)

  pub before_part : (t mid R : List A) (from k : ℕ) → from + k ≤ length t → length mid ≡ k →
      take from (with_part t mid from k ++ R) ≡ take from (t ++ R)
  before_part t mid R from k low len = grind (arith, length_part, length-take-le, take-append-le, take-take)

  from_part : (t mid R : List A) (from k : ℕ) → from + k ≤ length t →
      drop from (with_part t mid from k ++ R) ≡ mid ++ (drop k (drop from t) ++ R)
  from_part t mid R from k low = grind (arith, append_assoc, drop_at, length-take-le)

  pub part_new : (t mid R : List A) (from k : ℕ) → from + k ≤ length t → length mid ≡ k →
      drop from (take (from + k) (with_part t mid from k ++ R)) ≡ mid
  part_new t mid R from k low len = grind (arith, drop-take, from_part, take-append-le, take_all)

  pub part_old : (t R : List A) (from k : ℕ) → from + k ≤ length t →
      drop from (take (from + k) (t ++ R)) ≡ take k (drop from t)
  part_old t R from k low = grind (arith, drop-take, take-append-le)

  pub after_part : (t mid R : List A) (from k : ℕ) → from + k ≤ length t → length mid ≡ k →
      drop (from + k) (with_part t mid from k ++ R) ≡ drop (from + k) (t ++ R)
  after_part t mid R from k low len =
      let rest = length-drop from t in
      sym (drop-drop k from (with_part t mid from k ++ R))
      ∙ ap (drop k) (from_part t mid R from k low)
      ∙ drop_at mid (drop k (drop from t) ++ R) k len
      ∙ sym (drop-append-le k (drop from t) R (omega arith))
      ∙ ap (drop k) (sym (drop-append-le from t R (omega arith)))
      ∙ drop-drop k from (t ++ R)
