-- The lines of wrong fields, field by field, and whether there is one.
use Rattle.std.proofs.Common.{◌≡◌, ◌∙◌, ℕ, ◌+◌, ◌<◌, List, [], ◌∷◌, ◌++◌, ◌||◌, Bool, true, false, refl, ap, length, take, get_or}
use Rattle.std.proofs.{Common.{add-one, append-nil}, Math.Seq.take-suc, lemmas.List.Concat.flat_map-append}
use Rattle.std.specs.List.{concat, flat_map}
use Rattle.ffs_report.{specs.Sink.{Sink, Took, BrokeOff}, proofs.Sinks.{took_then, broke_off_in_item}}
use Rattle.ffs_volume.specs.Find.Fields.{field_lines, field_text, has_what_it_wants}
use Rattle.ffs_volume.specs.Find.Fields as book
use Rattle.ffs_finding.specs.{Outcome.any_line, Fields.{field_of, wrong_lines}, declared.fields.Field.Field}
use Rattle.ffs_finding.proofs.Printing.{any_more, concat-append, text_at_end}

-- the line of a field has a text
pub field_is_text : (start : ℕ) (f : book.Field) → any_line (field_text start f ∷ []) ≡ true
field_is_text start f = text_at_end f.name _ refl

-- a wrong field has one line
pub field_line : (start : ℕ) (f : book.Field) → has_what_it_wants f ≡ false → field_lines start f ≡ field_text start f ∷ []
field_line start f wrong = rw wrong refl

module _ (start : ℕ) (fields : List Field) (i : ℕ) (d : Field) (low : i < length fields) where
  -- the lines of the fields before the one at i, and those of that one
  abbrev before : List (List ℕ)
  before = wrong_lines start (take i fields)

  abbrev here : List (List ℕ)
  here = field_lines start (field_of (get_or fields i d))

  next : wrong_lines start (take (i + 1) fields) ≡ before ++ here
  next =
      ap (λ (n : ℕ). wrong_lines start (take n fields)) (add-one i)
      ∙ ap (wrong_lines start) (take-suc fields i d low)
      ∙ flat_map-append (λ (f : Field). field_lines start (field_of f)) (take i fields) (get_or fields i d ∷ [])
      ∙ ap (λ (ls : List (List ℕ)). before ++ ls) (append-nil here)

  pub took_next : (a b c : Sink) → Took a b (concat before) → Took b c (concat here) →
      Took a c (concat (wrong_lines start (take (i + 1) fields)))
  took_next a b c p q = rw (next, concat-append before here) (took_then a b c (concat before) (concat here) p q)

  pub any_next : (any found : Bool) → any ≡ any_line before → found ≡ any_line here →
      (any || found) ≡ any_line (wrong_lines start (take (i + 1) fields))
  any_next any found p q = rw (next, any_more before here, p, q) refl

  -- the output failed in the line of the field at i
  pub broke_at : (a b c : Sink) → Took a b (concat before) → BrokeOff b c (concat here) →
      BrokeOff a c (concat (wrong_lines start fields))
  broke_at a b c p q = rw (texts fields) (broke_off_in_item (λ (f : Field). concat (field_lines start (field_of f))) a b c
      fields i d low (rw (texts (take i fields)) at p) q)
    where
      texts : (xs : List Field) → concat (wrong_lines start xs)
          ≡ flat_map (λ (f : Field). concat (field_lines start (field_of f))) xs
      texts [] = refl
      texts (x ∷ xs) = concat-append (field_lines start (field_of x)) (wrong_lines start xs)
          ∙ ap (λ (ys : List ℕ). concat (field_lines start (field_of x)) ++ ys) (texts xs)
