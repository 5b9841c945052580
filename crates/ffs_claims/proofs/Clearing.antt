-- As many fragments stop being to report as messages are said whole.
use Rattle.std.proofs.Common.{◌≡◌, ◌≤◌, ◌+◌, ℕ, Bool, true, false, List, [], ◌∷◌, ◌++◌, length, slice_set, inl, inr}
use Rattle.std.proofs.Common.{arith, refl, sym, ap, subst, ◌∙◌, length-append, if◌then◌else◌, Result, Ok, Err}
use Rattle.std.proofs.{Math.ListN.get_or-eq_default, lemmas.{Bool.{cases_Bool, cases_lt, true≢false}, List.Sums.sum_by-set}}
use Rattle.ffs_volume.specs.Blocks.{BlockCheck.{unreported_after, first_offer_lines, set_count}, Claims.is_set, KeptOffers.Offer}
use Rattle.ffs_volume.specs.Messages.Kinds.{Message}
use Rattle.ffs_report.specs.{Progress.{Said, Stopped}, declared.fault.RunFault.RunFault}
use Rattle.ffs_report.{proofs.Reports.{said_none, said_then}, specs.declared.fault.RunFault.TheVariants.{Out, Read}}
use Rattle.ffs_maps.specs.Bits.{bits_of}
use Rattle.ffs_claims.specs.{Lines.of_lines, Moments.ClaimMoment, Reporting.{ClearsAsSaid, OffersReported}}

-- a flag that was set is cleared
one_less : (bits : List Bool) (f : ℕ) → is_set bits f ≡ true →
    set_count bits ≡ set_count (slice_set bits f false) + 1
one_less bits f h = elim (cases_lt f (length bits)) [
  | inl low ↦
      let set = sum_by-set (λ b. if b then 1 else 0) bits f false false low in
      omega (arith, rw h at set)
  | inr past ↦ absurd (true≢false (sym h ∙ get_or-eq_default bits false past))
]

-- offers that are gone over have a line for each fragment that stops being to report
pub line_for_each : (dup : List Bool) (os : List Offer) →
    set_count dup ≡ set_count (unreported_after dup os) + length (of_lines (first_offer_lines dup os))
line_for_each dup [] = omega arith
line_for_each dup (o ∷ os) = elim (cases_Bool (is_set dup o.fragment)) [
  | inl set ↦
      let one = one_less dup o.fragment set in
      let more = line_for_each (slice_set dup o.fragment false) os in
      rw set (omega (arith, one, more))
  | inr clear ↦ rw clear (line_for_each dup os)
]

-- nothing was said or cleared
pub clears_none : {T : Type 0} {h : ℕ} {a b : ClaimMoment} {x : T} → b.workspace.duplicates ≡ a.workspace.duplicates →
    b.report ≡ a.report → ClearsAsSaid h a b (Ok x)
clears_none {h = h} {a = a} same silent = record {
  messages = [];
  last = [];
  few = omega arith;
  between = a.report;
  said = said_none a.report;
  begun = (refl, silent);
  cleared = rw same (omega arith);
}

-- messages were said, and as many fragments cleared
pub clears_said : {T : Type 0} {a b : ClaimMoment} {x : T} (ms : List Message) → Said a.report b.report ms →
    set_count (bits_of a.workspace.duplicates) ≡ set_count (bits_of b.workspace.duplicates) + length ms →
    ClearsAsSaid 0 a b (Ok x)
clears_said {b = b} ms said as_many = record {
  messages = ms;
  last = [];
  few = omega arith;
  between = b.report;
  said = said;
  begun = (refl, refl);
  cleared = omega (arith, as_many);
}

-- the output failed in the first message, or before it
pub clears_stopped : {T : Type 0} {h : ℕ} {a b : ClaimMoment} {fault : _} (ms : List Message) → length ms ≤ 1 →
    Stopped a.report b.report ms → b.workspace.duplicates ≡ a.workspace.duplicates →
    ClearsAsSaid {T = T} h a b (Err (Out fault))
clears_stopped {h = h} {a = a} ms few stopped same = record {
  messages = [];
  last = ms;
  few = few;
  between = a.report;
  said = said_none a.report;
  begun = stopped;
  cleared = rw same (omega arith);
}

-- offers were gone over, with their lines
pub clears_offers : {T : Type 0} {a b : ClaimMoment} {x : T} (os : List Offer) → Said a.report b.report
    (of_lines (first_offer_lines (bits_of a.workspace.duplicates) os)) → OffersReported os a.workspace b.workspace →
    ClearsAsSaid 0 a b (Ok x)
clears_offers {a = a} os said did =
    clears_said _ said (rw did.duplicates (line_for_each (bits_of a.workspace.duplicates) os))

-- the output failed in the line of an offer
pub clears_failed : {T : Type 0} {a b : ClaimMoment} {fault : _} (o : Offer) → Stopped a.report b.report
    (of_lines (first_offer_lines (bits_of a.workspace.duplicates) (o ∷ []))) →
    b.workspace.duplicates ≡ a.workspace.duplicates → ClearsAsSaid {T = T} 0 a b (Err (Out fault))
clears_failed {a = a} o stopped same =
    clears_stopped _ (grind (arith, cases_Bool)) stopped same

-- a read failed after what was said
pub clears_read : {T : Type 0} {h : ℕ} {a b : ClaimMoment} {fault : _} → ClearsAsSaid {T = Unit {0}} h a b (Ok tt) →
    ClearsAsSaid {T = T} h a b (Err (Read fault))
clears_read p = record {
  messages = p.messages;
  last = [];
  few = omega arith;
  between = p.between;
  said = p.said;
  begun = p.begun.1;
  cleared = p.cleared;
}

-- another workspace and report of the same
pub clears_from : {T : Type 0} {h : ℕ} {a a' b : ClaimMoment} {r : Result T RunFault} → ClearsAsSaid h a' b r →
    a'.workspace.duplicates ≡ a.workspace.duplicates → a'.report ≡ a.report → ClearsAsSaid h a b r
clears_from {b = b} p same silent = record {
  messages = p.messages;
  last = p.last;
  few = p.few;
  between = p.between;
  said = subst (λ r. Said r p.between p.messages) silent p.said;
  begun = p.begun;
  cleared = ap (λ d. set_count (bits_of d)) (sym same) ∙ p.cleared;
}

-- a heading, and what was said and cleared after it
pub clears_after : {T : Type 0} {a b c : ClaimMoment} {r : Result T RunFault} (heading : Message) →
    Said a.report b.report (heading ∷ []) → b.workspace.duplicates ≡ a.workspace.duplicates →
    ClearsAsSaid 0 b c r → ClearsAsSaid 1 a c r
clears_after {a = a} {b = b} {c = c} heading first same p = record {
  messages = heading ∷ p.messages;
  last = p.last;
  few = p.few;
  between = p.between;
  said = said_then a.report b.report p.between (heading ∷ []) p.messages first p.said;
  begun = p.begun;
  cleared = omega (arith, ap (λ d. set_count (bits_of d)) same, p.cleared);
}

-- what was said and cleared, and then a further part
pub clears_then : {T : Type 0} {a b c : ClaimMoment} {r : Result T RunFault} →
    ClearsAsSaid {T = Unit {0}} 0 a b (Ok tt) → ClearsAsSaid 0 b c r → ClearsAsSaid 0 a c r
clears_then {a = a} {b = b} p q =
    let said : Said a.report b.report p.messages =
    subst (λ to. Said a.report to p.messages) (sym p.begun.1) p.said in
    record {
      messages = p.messages ++ q.messages;
      last = q.last;
      few = q.few;
      between = q.between;
      said = said_then a.report b.report q.between p.messages q.messages said q.said;
      begun = q.begun;
      cleared = rw (length-append p.messages q.messages) (omega (arith, p.cleared, q.cleared));
    }

-- where nothing was to be reported, nothing is
pub none_to_clear : {T : Type 0} {h : ℕ} {a b : ClaimMoment} {r : Result T RunFault} → ClearsAsSaid h a b r →
    set_count (bits_of a.workspace.duplicates) ≡ 0 → set_count (bits_of b.workspace.duplicates) ≡ 0
none_to_clear p e = omega (arith, p.cleared, e)
