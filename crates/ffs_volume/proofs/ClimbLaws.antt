-- Laws of `specs/Directories/Climb`.
use Rattle.std.proofs.Common.{◌≡◌, ℕ, zero, suc, ◌+◌, ◌-◌, ◌<◌, ◌≤◌, Bool, true, not, refl, Option, None, Some}
use Rattle.std.proofs.{Common.{option_and_then, arith, ◌∙◌, ap, eq-eqb}, lemmas.Bool.Decides.nat_tests}
use Rattle.ffs_volume.specs.Directories.Climb.{climb, is_value, none_or_at_least, is_leader_within, IsOnCycle, IsLeader}
use Rattle.ffs_volume.{proofs.{Pigeon.pigeon, SearchLaws.some_below-gives}, specs.Disk.Search.some_below}
use Rattle.ffs_volume.proofs.SearchLaws.{some_below-from, some_below-false, some_below-none}

-- where the test holds, the number is below n and f leads to a number where it holds
pub record StaysBelow (f : ℕ → Option ℕ) (p : ℕ → Bool) (n : ℕ) : Type 0 where
  pub below : (x : ℕ) → p x ≡ true → x < n
  pub next : (x : ℕ) → p x ≡ true → (s : ℕ) × (f x ≡ Some s) × (p s ≡ true)

pub is_value-true : (o : Option ℕ) (k : ℕ) → is_value o k ≡ true → o ≡ Some k
is_value-true o k e = grind (arith, nat_tests)

pub is_value-from : (o : Option ℕ) (k : ℕ) → o ≡ Some k → is_value o k ≡ true
is_value-from o k e = rw e (eq-eqb k k refl)

pub climb-zero : (f : ℕ → Option ℕ) (d : ℕ) → climb f 0 d ≡ Some d
unfolding climb
climb-zero f d = refl

pub climb-suc : (f : ℕ → Option ℕ) (k d e : ℕ) → climb f k d ≡ Some e → climb f (suc k) d ≡ f e
unfolding climb
climb-suc f k d e h = ap (option_and_then f) h

pub climb-one : (f : ℕ → Option ℕ) (d : ℕ) → climb f 1 d ≡ f d
climb-one f d = climb-suc f 0 d d (climb-zero f d)

-- the last step
pub climb-last : (f : ℕ → Option ℕ) (k d s : ℕ) → climb f (suc k) d ≡ Some s → (e : ℕ) × (climb f k d ≡ Some e)
    × (f e ≡ Some s)
unfolding climb
climb-last f k d s h = grind arith

pub climb-add : (f : ℕ → Option ℕ) (j k d e : ℕ) → climb f k d ≡ Some e → climb f (j + k) d ≡ climb f j e
unfolding climb
climb-add f zero k d e h = let q : 0 + k ≡ k = omega arith in rw q h
climb-add f (suc j) k d e h = let q : suc j + k ≡ suc (j + k) = omega arith in rw (q, climb-add f j k d e h)

unfoldable pub cycle-along : (f : ℕ → Option ℕ) (k d e : ℕ) → IsOnCycle f d → climb f k d ≡ Some e → IsOnCycle f e
cycle-along f k d e c h = record {
  steps_less_one = c.steps_less_one;
  returns =
      let q : suc c.steps_less_one + k ≡ k + suc c.steps_less_one = omega arith in
      cc (climb-add f (suc c.steps_less_one) k d e h, q, climb-add f k (suc c.steps_less_one) d d c.returns, h);
}

-- a cycle continues
climb-ends : (f : ℕ → Option ℕ) (d : ℕ) → f d ≡ None → (k : ℕ) → climb f (suc k) d ≡ None
unfolding climb
climb-ends f d h zero = h
climb-ends f d h (suc k) = ap (option_and_then f) (climb-ends f d h k)

pub cycle-next : (f : ℕ → Option ℕ) (d : ℕ) → IsOnCycle f d → (e : ℕ) × (f d ≡ Some e)
cycle-next f d c = grind (arith, climb-ends)

pub cycle-goes : (f : ℕ → Option ℕ) (k d : ℕ) → IsOnCycle f d → (e : ℕ) × (climb f k d ≡ Some e)
cycle-goes f zero d c = (d, climb-zero f d)
cycle-goes f (suc k) d c =
    let p = cycle-goes f k d c in
    let q = cycle-next f p.0 (cycle-along f k d p.0 c p.1) in (q.0, grind (arith, climb-suc))

-- what a cycle reaches, it reaches on the first way round
pub cycle-within : (f : ℕ → Option ℕ) (m d s : ℕ) (c : IsOnCycle f d) → climb f m d ≡ Some s → (k : ℕ) × (k ≤ c.steps_less_one)
    × (climb f k d ≡ Some s)
cycle-within f zero d s c h = (0, omega arith, h)
cycle-within f (suc m) d s c h =
    let l = climb-last f m d s h in
    let p = cycle-within f m d l.0 c l.1 in
    grind (arith, climb-suc, climb-zero)

-- the test for what it says
pub is_leader_within-from : (f : ℕ → Option ℕ) (n d : ℕ) (i : IsLeader f d) → i.cycle.steps_less_one < n →
    is_leader_within f n d ≡ true
is_leader_within-from f n d i b =
    let way = some_below-from (λ k. is_value (climb f (suc k) d) d) n i.cycle.steps_less_one b
    (is_value-from _ d i.cycle.returns) in
    let none = some_below-none (λ k. not (none_or_at_least (climb f k d) d)) n (λ k l. grind (arith, nat_tests)) in
    grind arith

pub is_leader_within-true : (f : ℕ → Option ℕ) (n d : ℕ) → is_leader_within f n d ≡ true → IsLeader f d
is_leader_within-true f n d h =
    let w = some_below-gives (λ k. is_value (climb f (suc k) d) d) n (grind arith) in
    let c : IsOnCycle f d = record { steps_less_one = w.0; returns = is_value-true _ d w.1.passes } in
    record {
      cycle = c;
      least = λ k s e.
          let q = cycle-within f k d s c e in
          let no = some_below-false (λ k. not (none_or_at_least (climb f k d) d)) n (grind arith) q.0 in
          grind (arith, nat_tests);
    }

-- the steps from d continue
pub climb_continues : (f : ℕ → Option ℕ) (p : ℕ → Bool) (n d : ℕ) → StaysBelow f p n → p d ≡ true → (k : ℕ) →
    (s : ℕ) × (climb f k d ≡ Some s) × (p s ≡ true)
climb_continues f p n d g h zero = (d, climb-zero f d, h)
climb_continues f p n d g h (suc k) = let a = climb_continues f p n d g h k in grind (arith, climb-suc)

-- somewhere above d there is a cycle of at most n steps
pub cycle_above : (f : ℕ → Option ℕ) (p : ℕ → Bool) (n d : ℕ) → StaysBelow f p n → p d ≡ true → (x : ℕ) × (p x ≡ true)
    × ((c : IsOnCycle f x) × (c.steps_less_one < n))
cycle_above f p n d g h =
    let r = pigeon n (λ k. (climb_continues f p n d g h k).0) (λ i l. let a = climb_continues f p n d g h i in g.below a.0 a.2) in
    let a = climb_continues f p n d g h r.first in
    let b = climb_continues f p n d g h r.second in
    let back = climb-add f (suc (r.second - suc r.first)) r.first d a.0 a.1 in
    (a.0, a.2, (record { steps_less_one = r.second - suc r.first; returns = grind arith }, omega arith))

-- the least number on a cycle
pub leader_on : (f : ℕ → Option ℕ) (p : ℕ → Bool) (n x : ℕ) → StaysBelow f p n → p x ≡ true → (c : IsOnCycle f x) →
    c.steps_less_one < n → (e : ℕ) × (p e ≡ true) × (is_leader_within f n e ≡ true)
unfolding cycle-along
leader_on f p n x g h c l =
    let t = λ (e : ℕ). some_below (λ k. is_value (climb f k x) e) n in
    let z : t x ≡ true = some_below-from (λ k. is_value (climb f k x) x) n 0 (omega arith)
    (is_value-from _ x (climb-zero f x)) in
    let w = some_below-gives t n (some_below-from t n x (g.below x h) z) in
    let v = some_below-gives (λ k. is_value (climb f k x) w.0) n w.1.passes in
    let at : climb f v.0 x ≡ Some w.0 = is_value-true _ w.0 v.1.passes in
    let a = climb_continues f p n x g h v.0 in
    let i : IsLeader f w.0 = record {
      cycle = cycle-along f v.0 x w.0 c at;
      least = λ k s e.
          let near = cycle-within f (k + v.0) x s c (climb-add f k v.0 x w.0 at ∙ e) in
          let found = some_below-from (λ k. is_value (climb f k x) s) n near.0 in
          let first = w.1.least s in
          grind (arith, is_value-from);
    } in
    (w.0, grind arith, is_leader_within-from f n w.0 i l)

pub some_leader : (f : ℕ → Option ℕ) (p : ℕ → Bool) (n d : ℕ) → StaysBelow f p n → p d ≡ true → (e : ℕ) × (p e ≡ true)
    × (is_leader_within f n e ≡ true)
some_leader f p n d g h =
    let a = cycle_above f p n d g h in
    leader_on f p n a.0 g a.1 a.2.0 a.2.1
