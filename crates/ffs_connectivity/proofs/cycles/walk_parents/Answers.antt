use Rattle.std.proofs.Common.{◌≡◌, ◌≢◌, ℕ, suc, ◌+◌, ◌<◌, ◌≤◌, List, length, arith, sym, ◌∙◌, subst, set, None, Some}
use Rattle.std.proofs.{Common.{inl, inr, refl, ◌⊎◌}, lemmas.Bool.Decides.nat_tests}
use Rattle.ffs_volume.specs.Directories.Climb.{IsOnCycle}
use Rattle.ffs_connectivity.proofs.Walks.{parent_in-none, Walking, HasPassed, has_passed, walked, walks_on, walk_start}
use Rattle.ffs_connectivity.proofs.Walks.{no_cycle_end, no_cycle_old, finds_cycle, unmet-le, unmet-set}
use Rattle.ffs_survey.specs.Survey.{number_at}
use Rattle.ffs_connectivity.specs.Cycles.{parent_in, CanFollow, IsMet, IsClosed, Walked}
use Rattle.ffs_connectivity.proofs.cycles.walk_parents.Goals as goal

-- what is known once the walk has passed `at`
pub record Here (parent : List ℕ) (start steps at : ℕ) (old now : List ℕ) : Type 0 where
  pub state : HasPassed (parent_in parent) start (start + 1) steps at old now
  pub closed : IsClosed (parent_in parent) old
  pub short : steps < length parent

mark_some : (start : ℕ) → start + 1 ≢ 0
mark_some start = λ z. absurd (omega arith)

pub here : {parent old new now : List ℕ} {start steps at : ℕ} → CanFollow parent old start →
    Walking (parent_in parent) start (start + 1) steps at old new → at < length new → now ≡ set new at (start + 1) →
    Here parent start steps at old now
here {parent = parent} {old = old} {start = start} {steps = steps} {at = at} c w b is =
    let s = has_passed (mark_some start) b w in
    record {
      state = subst (λ xs. HasPassed (parent_in parent) start (start + 1) steps at old xs) (sym is) s;
      closed = c.closed;
      short = omega (arith, s.trace.count, unmet-le old, c.walks);
    }

pub walked_none : {parent : List ℕ} {start steps at : ℕ} {old now : List ℕ} → Here parent start steps at old now →
    (number_at parent at ≡ 0) ⊎ (length parent ≤ number_at parent at) →
    Walked (parent_in parent) start (start + 1) old now
    × ((x : ℕ) → IsMet old now x → IsOnCycle (parent_in parent) x → ⊥)
walked_none {parent = parent} {start = start} {at = at} h z =
    let e = parent_in-none parent at z in (
      walked (mark_some start) h.closed h.state (λ y u. absurd (let q : None ≡ Some y = sym e ∙ u in cc)),
      λ x i c. no_cycle_end h.state e i c,
    )

pub next_parent : (parent : List ℕ) (at : ℕ) {next : ℕ} → next ≡ number_at parent at → next ≢ 0 → next < length parent →
    parent_in parent at ≡ Some next
next_parent parent at is n b = grind (arith, nat_tests)

pub walked_some : {parent : List ℕ} {start steps at next : ℕ} {old now : List ℕ} → Here parent start steps at old now →
    parent_in parent at ≡ Some next → number_at now next ≢ 0 → Walked (parent_in parent) start (start + 1) old now
walked_some {start = start} {next = next} {now = now} h e s =
    walked (mark_some start) h.closed h.state (λ y u.
    let q : Some next ≡ Some y = sym e ∙ u in
    let p : next ≡ y = cc in
    subst (λ z. number_at now z ≢ 0) p s)

pub up-init : goal.up-init
up-init c = record { bound = c.requires.low; long = refl; walking = (0, walk_start c.requires.is_unmet) }

pub returns-then-next-eq0 : goal.returns-then-next-eq0
returns-then-next-eq0 c =
    let h = here c.requires c.up.invariant.walking.1 (omega (arith, c.requires.walks)) c.set.ensures.items in
    let w = walked_none h (inl (sym c.number_of-next.ensures ∙ c.if-next-eq0.true)) in
    record { walked = w.0; long = c.set.ensures.len ∙ c.up.invariant.long; cycle = w.1 }

pub returns-then-next-len : goal.returns-then-next-len
returns-then-next-len c =
    let h = here c.requires c.up.invariant.walking.1 (omega (arith, c.requires.walks)) c.set.ensures.items in
    let w = walked_none h (inr (omega (arith, c.number_of-next.ensures))) in
    record { walked = w.0; long = c.set.ensures.len ∙ c.up.invariant.long; cycle = w.1 }

pub returns-then-seen-start : goal.returns-then-seen-start
returns-then-seen-start c =
    let h = here c.requires c.up.invariant.walking.1 (omega (arith, c.requires.walks)) c.set.ensures.items in
    let p = c.number_of-next.result in
    let low : p < length c.args.parents.now.items = omega arith in
    let seen = sym c.number_of-seen.ensures ∙ c.if-seen-start.true in
    let up = next_parent c.args.parents.now.items c.up.at c.number_of-next.ensures c.if-next-eq0.false low in
    let old = c.requires.older p 0 (omega (arith, low, c.requires.walks)) in
    record {
      walked = walked_some h up (λ z. absurd (omega (arith, seen)));
      long = c.set.ensures.len ∙ c.up.invariant.long;
      cycle = finds_cycle p (length c.args.parents.now.items) (mark_some c.args.start) h.short h.state up
          (omega (arith, old)) seen low;
    }

pub returns-then-seen-ne0 : goal.returns-then-seen-ne0
returns-then-seen-ne0 c =
    let h = here c.requires c.up.invariant.walking.1 (omega (arith, c.requires.walks)) c.set.ensures.items in
    let up = next_parent c.args.parents.now.items c.up.at c.number_of-next.ensures c.if-next-eq0.false (omega arith) in
    let some = λ (z : number_at c.set.new.self.items c.number_of-next.result ≡ 0).
    c.if-seen-ne0.true (c.number_of-seen.ensures ∙ z) in
    record {
      walked = walked_some h up some;
      long = c.set.ensures.len ∙ c.up.invariant.long;
      cycle = λ x. no_cycle_old c.number_of-next.result h.closed h.state up
          (λ z. c.if-seen-start.false (c.number_of-seen.ensures ∙ h.state.trace.fresh _ z some));
    }

pub up-smaller : goal.up-smaller
up-smaller c = grind (arith, unmet-set)

pub up-preserved : goal.up-preserved
up-preserved c =
    let h = here c.requires c.up.invariant.walking.1 (omega (arith, c.requires.walks)) c.set.ensures.items in
    let p = c.number_of-next.result in
    record {
      bound = omega arith;
      long = c.set.ensures.len ∙ c.up.invariant.long;
      walking = (
        suc c.up.invariant.walking.0,
        walks_on h.state
            (next_parent c.args.parents.now.items c.up.at c.number_of-next.ensures c.if-next-eq0.false (omega arith))
            (sym c.number_of-seen.ensures ∙ c.if-seen-ne0.false),
      );
    }
