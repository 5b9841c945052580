-- How phase 1b continues.
use Rattle.std.proofs.Common.{◌≡◌, append_assoc, append-nil, ℕ, ◌+◌, ◌-◌, ◌<◌, ◌≤◌, Bool, false, if◌then◌else◌}
use Rattle.std.proofs.{Common.{List, [], ◌∷◌, ◌++◌, map, slice_set, arith, refl, ap, ◌∙◌, sym}}
use Rattle.std.{proofs.{Math.Bool.or-false, lemmas.List.Folds.list_any-append}, specs.List.range_with_len}
use Rattle.ffs_volume.specs.Blocks.{BlockCheck.first_offer_lines, Claims.is_set, KeptOffers.{Offer, offer_of}}
use Rattle.ffs_volume.specs.Blocks.BlockCheck.{set_count, unreported_after}
use Rattle.ffs_maps.specs.Bits.{bits_of}
use Rattle.ffs_workspace.specs.{declared.workspace.Workspace.Workspace}
use Rattle.ffs_claims.proofs.{Duplicates.{none_clear, none_first}, StepsContinue.{range_next, lines_append}}
use Rattle.ffs_claims.specs.{Lines.of_lines, Reporting.{OffersReported, ReportedInPart}}

-- offers one after the other
pub first_append : (dup : List Bool) (xs ys : List Offer) → first_offer_lines dup (xs ++ ys) ≡ first_offer_lines dup xs
    ++ first_offer_lines (unreported_after dup xs) ys
first_append dup [] ys = refl
first_append dup (o ∷ xs) ys =
    let left = first_append (slice_set dup o.fragment false) xs ys in
    let silent = first_append dup xs ys in
    grind arith

pub after_append : (dup : List Bool) (xs ys : List Offer) →
    unreported_after dup (xs ++ ys) ≡ unreported_after (unreported_after dup xs) ys
after_append dup [] ys = refl
after_append dup (o ∷ xs) ys = after_append (if is_set dup o.fragment then slice_set dup o.fragment false else dup) xs
    ys

-- the lines of two parts
pub lines_split : (dup dup' : List Bool) (os xs ys : List Offer) → os ≡ xs ++ ys → dup' ≡ unreported_after dup xs →
    of_lines (first_offer_lines dup os) ≡ of_lines (first_offer_lines dup xs) ++ of_lines (first_offer_lines dup' ys)
lines_split dup dup' os xs ys e d = grind (arith, first_append, lines_append)

-- nothing is left to report
pub none_after : (bits : List Bool) (os : List Offer) → set_count bits ≡ 0 → unreported_after bits os ≡ bits
none_after bits [] e = refl
none_after bits (o ∷ os) e = rw (none_clear bits o.fragment e) (none_after bits os e)

-- what is reported is of the map and the marks alone
pub reported_from : {offers : List Offer} (u u' w : Workspace) → OffersReported offers u' w →
    u'.duplicates ≡ u.duplicates → u'.marked ≡ u.marked → OffersReported offers u w
reported_from {offers = offers} u u' w t d m = grind arith

pub reported_to : {offers : List Offer} (u w w' : Workspace) → OffersReported offers u w → w'.duplicates ≡ w.duplicates
    → w'.marked ≡ w.marked → OffersReported offers u w'
reported_to u w w' t d m = record { duplicates = rw d t.duplicates; marked = λ x. rw m (t.marked x) }

pub reported_then : {u v w : Workspace} (xs ys : List Offer) → OffersReported xs u v → OffersReported ys v w →
    OffersReported (xs ++ ys) u w
reported_then {u = u} {v = v} xs ys a b = grind (arith, after_append, first_append, list_any-append)

-- what was reported so far, with what is to come
pub record Reporting (rest all : List Offer) (old new : Workspace) : Type 0 where
  pub past : List Offer
  pub whole : past ++ rest ≡ all
  pub reported : OffersReported past old new

pub reporting_begins : {rest all : List Offer} (u w : Workspace) → rest ≡ all → w.duplicates ≡ u.duplicates →
    w.marked ≡ u.marked → Reporting rest all u w
reporting_begins u w e d m = record { past = []; whole = e; reported = reported_to u u w (grind (arith, or-false)) d m }

pub reporting_more : {rest part rest' all : List Offer} {u v w : Workspace} → Reporting rest all u v →
    rest ≡ part ++ rest' → OffersReported part v w → Reporting rest' all u w
reporting_more {part = part} {rest' = rest'} t e p = record {
  past = t.past ++ part;
  whole = append_assoc t.past part rest' ∙ ap (λ xs. t.past ++ xs) (sym e) ∙ t.whole;
  reported = reported_then t.past part t.reported p;
}

-- some offers were gone over: those so far, none yet, and those so far with some of the next ones
pub part_now : {rest all : List Offer} {u w w' : Workspace} → Reporting rest all u w → w'.duplicates ≡ w.duplicates →
    w'.marked ≡ w.marked → ReportedInPart all u w'
part_now {rest = rest} t d m =
    record { past = t.past; rest = rest; whole = t.whole; reported = reported_to _ _ _ t.reported d m }

pub part_none : {all : List Offer} (u w : Workspace) → w.duplicates ≡ u.duplicates → w.marked ≡ u.marked →
    ReportedInPart all u w
part_none u w d m = part_now (reporting_begins u u refl refl refl) d m

pub part_from : {offers : List Offer} (u u' w : Workspace) → ReportedInPart offers u' w →
    u'.duplicates ≡ u.duplicates → u'.marked ≡ u.marked → ReportedInPart offers u w
part_from u u' w p d m =
    record { past = p.past; rest = p.rest; whole = p.whole; reported = reported_from u u' w p.reported d m }

pub part_then : {rest part all : List Offer} {u v w : Workspace} (rest' : List Offer) → Reporting rest all u v →
    rest ≡ part ++ rest' → ReportedInPart part v w → ReportedInPart all u w
part_then rest' t e p = record {
  past = t.past ++ p.past;
  rest = p.rest ++ rest';
  whole = append_assoc t.past p.past (p.rest ++ rest') ∙ ap (λ xs. t.past ++ xs) (sym (append_assoc p.past p.rest rest')
      ∙ ap (λ xs. xs ++ rest') p.whole ∙ sym e) ∙ t.whole;
  reported = reported_then t.past p.past t.reported p.reported;
}

pub reporting_ends : {rest all : List Offer} {u v : Workspace} → Reporting rest all u v → rest ≡ [] →
    OffersReported all u v
reporting_ends {u = u} {v = v} t e = grind (arith, append-nil)

-- nothing is left to report
pub reporting_over : {rest all : List Offer} {u w : Workspace} → set_count (bits_of w.duplicates) ≡ 0 →
    Reporting rest all u w → OffersReported all u w
reporting_over {rest = rest} {w = w} e t =
    let none : OffersReported rest w w = grind (arith, none_after, none_first, or-false) in
    reporting_ends (reporting_more t (sym (append-nil rest)) none) refl

-- the next offer of a Run, and past the last one
pub run_next : (i start len index f : ℕ) → index < len → f ≡ start + index →
    map (offer_of i) (range_with_len (start + index) (len - index)) ≡ offer_of i f
    ∷ map (offer_of i) (range_with_len (start + (index + 1)) (len - (index + 1)))
run_next i start len index f h is_fragment = ap (map (offer_of i)) (range_next start len index f h is_fragment)

pub run_over : (i start len index : ℕ) → len ≤ index → map (offer_of i) (range_with_len (start + index) (len - index))
    ≡ []
run_over i start len index h = let none : len - index ≡ 0 = omega arith in rw none refl
