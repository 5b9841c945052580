-- Laws of walks along parents.
use Rattle.std.proofs.Common.{◌≡◌, ◌≢◌, ℕ, zero, suc, ◌+◌, ◌-◌, ◌<◌, ◌≤◌, ◌==◌, Bool, true, false, List, length, Option}
use Rattle.std.proofs.Common.{None, Some, arith, sym, ◌∙◌, ap, inl, inr, set, ◌⊎◌, get_or-set_same, All}
use Rattle.std.proofs.{Common.{get_or-set_other, length-set, unwrap_or}, lemmas.Bool.{cases_eq, false_from_ne_true}}
use Rattle.std.proofs.lemmas.{Bool.{both_ways, cases_lt, eqb-true, Decides.nat_tests}, Grind.get_or_default_zero}
use Rattle.std.proofs.lemmas.List.{get_or_past, Sums.{sum_by-le, sum_by-set}}
use Rattle.ffs_volume.specs.{Disk.Search.first_below, Directories.Climb.{is_value, climb, IsOnCycle, is_leader_within}}
use Rattle.ffs_volume.proofs.ClimbLaws.{is_value-from, climb-zero, climb-one, climb-suc, climb-add, climb-last}
use Rattle.ffs_volume.proofs.ClimbLaws.{cycle-along, cycle-next, cycle-goes, cycle-within, is_leader_within-from}
use Rattle.ffs_volume.proofs.{ClimbLaws.is_leader_within-true, SearchLaws.{first_below-is, some_below-from}}
use Rattle.ffs_volume.proofs.SearchLaws.{some_below-gives, IsFirst}
use Rattle.ffs_connectivity.specs.Cycles.{parent_in, unmet, IsClosed, IsMet, Walked, FindsCycle, IsLeastOn}
use Rattle.ffs_survey.specs.{Discover.bit, Survey.{bool_at, number_at}}

-- ---- parents
pub parent_in-none : (parents : List ℕ) (x : ℕ) → (number_at parents x ≡ 0) ⊎ (length parents ≤ number_at parents x) →
    parent_in parents x ≡ None
parent_in-none parents x h = grind (arith, nat_tests)

-- the list holds the parent of a number on a cycle
pub parent_on_cycle : (parents : List ℕ) (x : ℕ) → IsOnCycle (parent_in parents) x →
    (parent_in parents x ≡ Some (number_at parents x)) × (number_at parents x < length parents)
parent_on_cycle parents x c =
    let e = (cycle-next (parent_in parents) x c).1 in (grind (arith, nat_tests), grind (arith, nat_tests))

-- a number past the list leads no cycle
pub past_leader : (parents : List ℕ) (n x : ℕ) → length parents ≤ x → is_leader_within (parent_in parents) n x ≡ false
past_leader parents n x b = false_from_ne_true (is_leader_within (parent_in parents) n x) (λ t.
    let e = cycle-next (parent_in parents) x (is_leader_within-true (parent_in parents) n x t).cycle in
    let q : None ≡ Some e.0 = sym (parent_in-none parents x (inl (get_or_past parents x 0 b))) ∙ e.1 in
    cc)

-- ---- what walks have passed
pub unmet-le : (xs : List ℕ) → unmet xs ≤ length xs
unfolding unmet
unmet-le xs = omega (arith, sum_by-le (λ y. bit (y == 0)) 1 xs (λ k d l. grind arith))

pub unmet-set : (walk_of : List ℕ) (x m : ℕ) → x < length walk_of → number_at walk_of x ≡ 0 → (m ≡ 0 → ⊥) →
    unmet (set walk_of x m) + 1 ≡ unmet walk_of
unfolding unmet
unmet-set walk_of x m l e n = grind (arith, sum_by-set)

-- what the first n numbers from `start` on leave, in a list where these are noted
pub record Trace (f : ℕ → Option ℕ) (start mark n : ℕ) (old new : List ℕ) : Type 0 where
  pub kept : (x : ℕ) → number_at old x ≢ 0 → number_at new x ≡ number_at old x
  pub fresh : (x : ℕ) → number_at old x ≡ 0 → number_at new x ≢ 0 → number_at new x ≡ mark
  pub passed : (x : ℕ) → IsMet old new x → (i : ℕ) × (i < n) × (climb f i start ≡ Some x)
  pub path : (i x : ℕ) → i < n → climb f i start ≡ Some x → number_at new x ≡ mark
  pub count : n + unmet new ≡ unmet old

-- the state of a walk: after `steps` steps from `start` it is at the number `at`, which no walk has
-- passed yet
pub record Walking (f : ℕ → Option ℕ) (start mark steps at : ℕ) (old new : List ℕ) : Type 0 where
  pub at_is : climb f steps start ≡ Some at
  pub is_unmet : number_at new at ≡ 0
  pub trace : Trace f start mark steps old new

-- the same, once the walk has passed `at`
pub record HasPassed (f : ℕ → Option ℕ) (start mark steps at : ℕ) (old new : List ℕ) : Type 0 where
  pub at_is : climb f steps start ≡ Some at
  pub trace : Trace f start mark (suc steps) old new

-- the same number of steps leads to one number
same_place : (f : ℕ → Option ℕ) (d i k : ℕ) {x y : ℕ} → i ≡ k → climb f i d ≡ Some x → climb f k d ≡ Some y → x ≡ y
same_place f d i k {x = x} {y = y} q a b = grind arith

pub has_passed : {f : ℕ → Option ℕ} {start mark steps at : ℕ} {old new : List ℕ} → mark ≢ 0 → at < length new →
    Walking f start mark steps at old new → HasPassed f start mark steps at old (set new at mark)
has_passed {f = f} {start = start} {mark = mark} {steps = steps} {at = at} {new = new} m l w =
    grind (arith, get_or-set_other, get_or-set_same, unmet-set)

pub walk_start : {f : ℕ → Option ℕ} {start mark : ℕ} {old : List ℕ} → number_at old start ≡ 0 →
    Walking f start mark 0 start old old
walk_start {f = f} {start = start} z = grind (arith, climb-zero)

-- no walk has passed the next number: the walk continues
pub walks_on : {f : ℕ → Option ℕ} {start mark steps at next : ℕ} {old new : List ℕ} →
    HasPassed f start mark steps at old new → f at ≡ Some next → number_at new next ≡ 0 →
    Walking f start mark (suc steps) next old new
walks_on {f = f} {start = start} {steps = steps} {at = at} s h z = grind (arith, climb-suc)

-- the walk ends where there is no parent, or one that a walk has passed
pub walked : {f : ℕ → Option ℕ} {start mark steps at : ℕ} {old new : List ℕ} → mark ≢ 0 → IsClosed f old →
    HasPassed f start mark steps at old new → ((y : ℕ) → f at ≡ Some y → number_at new y ≢ 0) →
    Walked f start mark old new
walked {f = f} {start = start} {steps = steps} {old = old} {new = new} m c s e = grind (arith, climb-zero, climb-suc)

-- what starts of walks there are after a walk
pub older_after : {f : ℕ → Option ℕ} {start : ℕ} {old new : List ℕ} → Walked f start (start + 1) old new →
    length new ≡ length old → All (λ s. s ≤ start) old → All (λ s. s ≤ start + 1) new
older_after {start = start} {old = old} {new = new} w long all = grind (arith, get_or_default_zero)

-- ---- cycles
cycle-back : {f : ℕ → Option ℕ} {y p : ℕ} (j : ℕ) → IsOnCycle f y → climb f j y ≡ Some p →
    (m : ℕ) × (climb f m p ≡ Some y)
cycle-back {f = f} {y = y} {p = p} j c h =
    let w = cycle-within f j y p c h in
    let b = w.1 in
    let m = suc c.steps_less_one - w.0 in
    let q : m + w.0 ≡ suc c.steps_less_one = omega arith in
    (m, sym (climb-add f m w.0 y p w.2) ∙ (ap (λ k. climb f k y) q ∙ c.returns))

closed-climb : {f : ℕ → Option ℕ} {walk_of : List ℕ} (k x : ℕ) {y : ℕ} → IsClosed f walk_of →
    number_at walk_of x ≢ 0 → climb f k x ≡ Some y → number_at walk_of y ≢ 0
closed-climb {f = f} {walk_of = walk_of} zero x {y = y} c s h = grind (arith, climb-zero)
closed-climb {f = f} (suc k) x {y = y} c s h =
    let l = climb-last f k x y h in c.parent l.0 y (closed-climb k x c s l.1) l.2

-- from a number that this walk met it continues to the parent of the last number
passes_parent : {f : ℕ → Option ℕ} {start mark steps at x : ℕ} {old new : List ℕ} →
    HasPassed f start mark steps at old new → IsMet old new x → (j : ℕ) × (j ≤ steps) × (climb f (suc j) x ≡ f at)
passes_parent {f = f} {start = start} {steps = steps} {at = at} {x = x} s i =
    let p = s.trace.passed x i in
    let b = p.1 in
    let j = steps - p.0 in
    let q : suc j + p.0 ≡ suc steps = omega arith in
    let there = ap (λ k. climb f k start) q ∙ climb-suc f steps start at s.at_is in
    (j, omega arith, sym (climb-add f (suc j) p.0 start x p.2) ∙ there)

-- so a number on a cycle that this walk met is reached from that parent
after_last : {f : ℕ → Option ℕ} {start mark steps at x next : ℕ} {old new : List ℕ} →
    HasPassed f start mark steps at old new → f at ≡ Some next → IsMet old new x → IsOnCycle f x →
    (k : ℕ) × (climb f k next ≡ Some x)
after_last s h i c = let j = passes_parent s i in cycle-back (suc j.0) c (j.2 ∙ h)

-- no parent: no cycle
pub no_cycle_end : {f : ℕ → Option ℕ} {start mark steps at x : ℕ} {old new : List ℕ} →
    HasPassed f start mark steps at old new → f at ≡ None → IsMet old new x → IsOnCycle f x → ⊥
no_cycle_end {f = f} {x = x} s h i c =
    let j = passes_parent s i in
    let goes = cycle-goes f (suc j.0) x c in
    let e : None ≡ Some goes.0 = sym (j.2 ∙ h) ∙ goes.1 in
    cc

-- a parent that an earlier walk has passed: no cycle
pub no_cycle_old : {f : ℕ → Option ℕ} {start mark steps at x : ℕ} {old new : List ℕ} (next : ℕ) → IsClosed f old →
    HasPassed f start mark steps at old new → f at ≡ Some next → number_at old next ≢ 0 → IsMet old new x →
    IsOnCycle f x → ⊥
no_cycle_old next closed s h o i c = let k = after_last s h i c in closed-climb k.0 next closed o k.1 i.was

-- a parent that this walk has passed: a cycle
pub finds_cycle : {f : ℕ → Option ℕ} {start mark steps at : ℕ} {old new : List ℕ} (next n : ℕ) → mark ≢ 0 →
    steps < n → HasPassed f start mark steps at old new → f at ≡ Some next → number_at old next < mark →
    number_at new next ≡ mark → next < n → FindsCycle f n old new next
finds_cycle {old = old} {new = new} next n m l s h o e low =
    let was : number_at old next ≡ 0 = elim (cases_eq (number_at old next) 0) [
      | inl y ↦ y
      | inr some ↦ absurd (omega (arith, s.trace.kept next some, o, e))
    ] in
    let i : IsMet old new next = record { was = was; is = (λ z. m (sym e ∙ z)) } in
    let j = passes_parent s i in
    let b = j.1 in
    record {
      low = low;
      fresh = i;
      cycle = record { steps_less_one = j.0; returns = j.2 ∙ h };
      short = omega arith;
      only = λ x k c. after_last s h k c;
    }

-- ---- the least number on a cycle
-- a way round from `found`: `steps` steps are done, `least` is the least so far
pub record Rounding (f : ℕ → Option ℕ) (found steps at least : ℕ) : Type 0 where
  pub moved : 0 < steps
  pub at_is : climb f steps found ≡ Some at
  pub lower : (i s : ℕ) → i < steps → climb f i found ≡ Some s → least ≤ s
  pub among : (i : ℕ) × (i < steps) × (climb f i found ≡ Some least)
  pub away : (i : ℕ) → 0 < i → i < steps → climb f i found ≡ Some found → ⊥

pub round_start : {f : ℕ → Option ℕ} {found next : ℕ} → f found ≡ Some next → Rounding f found 1 next found
round_start {f = f} {found = found} h = record {
  moved = omega arith;
  at_is = climb-one f found ∙ h;
  lower = λ i s l e. let w = same_place f found 0 i (omega arith) (climb-zero f found) e in omega arith;
  among = (0, omega arith, climb-zero f found);
  away = λ i a b e. absurd (omega arith);
}

pub round_step : {f : ℕ → Option ℕ} {found steps at least next least' : ℕ} → Rounding f found steps at least →
    (at ≡ found → ⊥) → f at ≡ Some next → least' ≤ least → least' ≤ at → (least' ≡ least) ⊎ (least' ≡ at) →
    Rounding f found (suc steps) next least'
round_step {f = f} {found = found} {steps = steps} {at = at} r n h a b w = grind (arith, climb-suc)

-- where a test holds one step later than another one, and not at once, it is first met later
met_later : (p q : ℕ → Bool) (n s : ℕ) → IsFirst p n s → p 0 ≡ false → ((k : ℕ) → p (suc k) ≡ q k) →
    (t : ℕ) × IsFirst q n t × (t < s)
met_later p q n zero first none same = absurd (both_ways (p 0) none first.passes)
met_later p q n (suc s) first none same = grind arith

first_later : (p q : ℕ → Bool) (n some : ℕ) → some < n → p some ≡ true → p 0 ≡ false → ((k : ℕ) → p (suc k) ≡ q k) →
    unwrap_or (first_below q n) 0 < unwrap_or (first_below p n) 0
first_later p q n some l e none same =
    let first = some_below-gives p n (some_below-from p n some l e) in
    let next = met_later p q n first.0 first.1 none same in
    rw (first_below-is p n first.0 first.1, first_below-is q n next.0 next.1) next.2

-- how many steps lead from x back to `found`, if fewer than n do
pub steps_back : (f : ℕ → Option ℕ) (n found x : ℕ) → ℕ
steps_back f n found x = unwrap_or (first_below (λ k. is_value (climb f k x) found) n) 0

-- one fewer after each step
pub steps_back-less : {f : ℕ → Option ℕ} {n found steps at least next : ℕ} (c : IsOnCycle f found) → c.steps_less_one < n →
    Rounding f found steps at least → (at ≡ found → ⊥) → f at ≡ Some next →
    steps_back f n found next < steps_back f n found at
unfolding steps_back
steps_back-less {f = f} {n = n} {found = found} {steps = steps} {at = at} {next = next} c l r away h =
    let within : steps ≤ suc c.steps_less_one = elim (cases_lt (suc c.steps_less_one) steps) [
      | inl y ↦ absurd (r.away (suc c.steps_less_one) (omega arith) y c.returns)
      | inr y ↦ y
    ] in
    let p = r.moved in
    let whole : suc c.steps_less_one - steps + steps ≡ suc c.steps_less_one = omega arith in
    let back : climb f (suc c.steps_less_one - steps) at ≡ Some found =
    sym (climb-add f (suc c.steps_less_one - steps) steps found at r.at_is)
    ∙ (ap (λ k. climb f k found) whole ∙ c.returns) in
    first_later (λ k. is_value (climb f k at) found) (λ k. is_value (climb f k next) found) n
    (suc c.steps_less_one - steps) (omega arith) (is_value-from _ found back)
    (rw (climb-zero f at) (false_from_ne_true (at == found) (λ t. away (eqb-true at found t))))
    (λ t. let one : suc t ≡ t + 1 = omega arith in
    ap (λ o. is_value o found) (ap (λ k. climb f k at) one ∙ climb-add f t 1 at next (climb-one f at ∙ h)))

-- back at `found`, the least so far is the least of all
pub round_end : {f : ℕ → Option ℕ} {found steps at least : ℕ} (n : ℕ) (c : IsOnCycle f found) → c.steps_less_one < n →
    Rounding f found steps at least → at ≡ found → least < n → IsLeastOn f n found least
unfolding cycle-along
round_end {f = f} {found = found} {steps = steps} {least = least} n c l r e low =
    let p = r.moved in
    let q : suc (steps - 1) ≡ steps = omega arith in
    let d : IsOnCycle f found =
    record { steps_less_one = steps - 1; returns = ap (λ k. climb f k found) q ∙ (r.at_is ∙ ap Some e) } in
    let a = r.among in
    record {
      low = low;
      leader = record {
        cycle = cycle-along f a.0 found least c a.2;
        least = λ k s h.
            let w = cycle-within f (k + a.0) found s d (climb-add f k a.0 found least a.2 ∙ h) in
            let b = w.1 in
            r.lower w.0 s (omega arith) w.2;
      };
      short = l;
      on = (a.0, a.2);
    }

-- ---- the flags of leaders
-- the flags of leaders, where all numbers that a walk has passed are decided, and no other has a flag
pub record MarksLeaders (f : ℕ → Option ℕ) (n : ℕ) (walk_of : List ℕ) (leader : List Bool) : Type 0 where
  pub long : length leader ≡ n
  pub known : (x : ℕ) → number_at walk_of x ≢ 0 → bool_at leader x ≡ is_leader_within f n x
  pub blank : (x : ℕ) → number_at walk_of x ≡ 0 → bool_at leader x ≡ false

-- a walk that found a cycle
pub marks_found : {f : ℕ → Option ℕ} {n start mark found e : ℕ} {old new : List ℕ} (leader : List Bool) →
    e < length leader → Walked f start mark old new → FindsCycle f n old new found → IsLeastOn f n found e →
    MarksLeaders f n old leader → MarksLeaders f n new (set leader e true)
marks_found {f = f} {n = n} {found = found} {e = e} {old = old} {new = new} leader l w g i m = record {
  long = length-set leader e true ∙ m.long;
  known = λ x s. elim (cases_eq x e) [
    | inl y ↦ (ap (bool_at (set leader e true)) y ∙ get_or-set_same leader e true false l)
        ∙ sym (ap (is_leader_within f n) y ∙ is_leader_within-from f n e i.leader i.short)
    | inr ne ↦ get_or-set_other leader e x true false ne ∙ elim (cases_eq (number_at old x) 0) [
      | inr o ↦ m.known x o
      | inl z ↦ m.blank x z ∙ sym (false_from_ne_true (is_leader_within f n x) (λ t.
          let lx = is_leader_within-true f n x t in
          let k = g.only x (record { was = z; is = s }) lx.cycle in
          let back = cycle-back i.on.0 g.cycle i.on.1 in
          let down : climb f (k.0 + back.0) e ≡ Some x = climb-add f k.0 back.0 e found back.1 ∙ k.1 in
          let up = cycle-back (k.0 + back.0) i.leader.cycle down in
          ne (omega (arith, i.leader.least (k.0 + back.0) x down, lx.least up.0 e up.1))))
    ]
  ];
  blank = λ x z. elim (cases_eq x e) [
    | inl y ↦ absurd (closed-climb i.on.0 found w.closed g.fresh.is i.on.1 (sym (ap (number_at new) y) ∙ z))
    | inr ne ↦ get_or-set_other leader e x true false ne ∙ m.blank x (grind arith)
  ];
}
