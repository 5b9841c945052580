-- How a report continues. (For the layers above.)
use Rattle.std.proofs.Common.{arith, ◌≡◌, inl, inr, refl, ◌∙◌, sym, ap, List, [], ◌∷◌, ◌++◌, append_assoc, ◌||◌, Result}
use Rattle.std.proofs.{lemmas.List.Concat.flat_map-append, Math.Bool.{or_assoc, or-false}}
use Rattle.ffs_volume.specs.Messages.{Kinds.{Message, is_defect, has_defect}, Texts.texts_of}
use Rattle.ffs_report.{specs.Progress.{Progress, Said, Stopped, Says}, proofs.Sinks.{Appends-then, took_nil, took_then}}

pub has_defect-append : (xs ys : List Message) → has_defect (xs ++ ys) ≡ (has_defect xs || has_defect ys)
has_defect-append [] ys = refl
has_defect-append (x ∷ xs) ys = ap (λ b. is_defect x || b) (has_defect-append xs ys)
    ∙ sym (or_assoc (is_defect x) (has_defect xs) (has_defect ys))

pub said_none : (a : Progress) → Said a a []
said_none a = record { output = refl; took = took_nil a.sink; failed = refl; defect = sym (or-false a.defect) }

pub said_then : (a b c : Progress) (xs ys : List Message) → Said a b xs → Said b c ys → Said a c (xs ++ ys)
said_then a b c xs ys p q = grind (arith, flat_map-append, took_then, has_defect-append)

pub stopped_after : (a b c : Progress) (xs ys : List Message) → Said a b xs → Stopped b c ys → Stopped a c (xs ++ ys)
stopped_after a b c xs ys p q = record {
  output = q.output ∙ p.output;
  holds = q.holds ∙ p.took.holds;
  prefix = texts_of xs ++ q.prefix;
  rest = q.rest;
  whole = grind (arith, flat_map-append, append_assoc);
  taken = Appends-then a.sink.taken b.sink.taken c.sink.taken (texts_of xs) q.prefix p.took.taken q.taken;
  failed = q.failed;
  cause = elim q.cause [ inl f ↦ inl (sym p.failed ∙ f) | inr r ↦ inr (rw p.took.failures at r) ];
}

pub stopped_more : (a b : Progress) (xs ys : List Message) → Stopped a b xs → Stopped a b (xs ++ ys)
stopped_more a b xs ys p = record {
  output = p.output;
  holds = p.holds;
  prefix = p.prefix;
  rest = p.rest ++ texts_of ys;
  whole = grind (arith, flat_map-append, append_assoc);
  taken = p.taken;
  failed = p.failed;
  cause = p.cause;
}

-- messages that were said, and then the outcome of more
pub says_then : {T E : Type 0} (a b c : Progress) (xs ys : List Message) (r : Result T E) → Said a b xs → Says b c ys r
    → Says a c (xs ++ ys) r
says_then a b c xs ys r p1 p2 = grind (arith, said_then, stopped_after)
