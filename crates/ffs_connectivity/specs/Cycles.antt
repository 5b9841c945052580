-- Walks along parents, in `walk_of`: of each number 1 more than the start of the walk that passed
-- it, 0 where none did.
use Rattle.std.specs.Prelude.{◌≡◌, ◌≢◌, ℕ, ◌+◌, ◌<◌, ◌≤◌, ◌^◌, ◌==◌, ◌||◌, nat_le, Bool, cond, List, length, All}
use Rattle.std.specs.{Prelude.{Option, None, Some, MatchOption, vec_len}, List.sum_by}
use Rattle.std.specs.declared.{vec.Vec.Vec, alloc.Global.Global}
use Rattle.ffs_volume.specs.Directories.Climb.{climb, is_leader_within, IsOnCycle, IsLeader}
use Rattle.ffs_survey.specs.{Survey.{bool_at, number_at}, Discover.bit}

-- the parent that a list holds of x: 0 and numbers past the list are none
abbrev pub parent_in : List ℕ → ℕ → Option ℕ
parent_in parents x = cond ((number_at parents x == 0)
    || nat_le (length parents) (number_at parents x)) None (Some (number_at parents x))

-- how many numbers no walk has passed
unfoldable pub unmet : List ℕ → ℕ
unmet xs = sum_by (λ y. bit (y == 0)) xs

-- the parent of a number that a walk has passed is passed too
pub record IsClosed (f : ℕ → Option ℕ) (walk_of : List ℕ) : Type 0 where
  pub parent : (x y : ℕ) → number_at walk_of x ≢ 0 → f x ≡ Some y → number_at walk_of y ≢ 0

-- x was met from the old list to the new one: no walk had passed it before, and one has now
pub record IsMet (old new : List ℕ) (x : ℕ) : Type 0 where
  pub was : number_at old x ≡ 0
  pub is : number_at new x ≢ 0

-- what a walk from `start` leaves, which notes `mark` where it passes
pub record Walked (f : ℕ → Option ℕ) (start mark : ℕ) (old new : List ℕ) : Type 0 where
  pub kept : (x : ℕ) → number_at old x ≢ 0 → number_at new x ≡ number_at old x
  pub fresh : (x : ℕ) → number_at old x ≡ 0 → number_at new x ≢ 0 → number_at new x ≡ mark
  pub begun : number_at new start ≢ 0
  pub closed : IsClosed f new

-- a walk from `start` can begin: none has passed it, no other start came later, and the parents of
-- all that is passed are passed
pub record CanFollow (parents walk_of : List ℕ) (start : ℕ) : Type 0 where
  pub few : length parents < 2 ^ 31
  pub walks : length walk_of ≡ length parents
  pub low : start < length parents
  pub is_unmet : number_at walk_of start ≡ 0
  pub older : All (λ s. s ≤ start) walk_of
  pub closed : IsClosed (parent_in parents) walk_of

-- a walk from `found` comes back to it, within the list
pub record ComesBack (parents : List ℕ) (found : ℕ) : Type 0 where
  pub few : length parents < 2 ^ 31
  pub low : found < length parents
  pub cycle : IsOnCycle (parent_in parents) found
  pub short : cycle.steps_less_one < length parents

-- `found` is on a cycle, and each number on a cycle that is newly met is on that one
pub record FindsCycle (f : ℕ → Option ℕ) (n : ℕ) (old new : List ℕ) (found : ℕ) : Type 0 where
  pub low : found < n
  pub fresh : IsMet old new found
  pub cycle : IsOnCycle f found
  pub short : cycle.steps_less_one < n
  pub only : (x : ℕ) → IsMet old new x → IsOnCycle f x → (k : ℕ) × (climb f k found ≡ Some x)

-- a walk from `start` is noted, and the cycle that it closed, if it closed one, is found
pub record NotesWalk (parents : List ℕ) (start : ℕ) (old new : Vec ℕ Global) (result : Option ℕ) : Type 0 where
  pub walked : Walked (parent_in parents) start (start + 1) old.items new.items
  pub long : vec_len new ≡ vec_len old
  pub cycle : MatchOption result ((x : ℕ) → IsMet old.items new.items x → IsOnCycle (parent_in parents) x → ⊥)
      (λ found. FindsCycle (parent_in parents) (length parents) old.items new.items found)

-- e is the least number on the cycle of `found`
pub record IsLeastOn (f : ℕ → Option ℕ) (n found e : ℕ) : Type 0 where
  pub low : e < n
  pub leader : IsLeader f e
  pub short : leader.cycle.steps_less_one < n
  pub on : (k : ℕ) × (climb f k found ≡ Some e)

-- the three lists have an entry for each number
pub record CanFlagLeaders (parents walk_of : List ℕ) (leaders : List Bool) : Type 0 where
  pub few : length parents < 2 ^ 31
  pub walks : length walk_of ≡ length parents
  pub leaders_long : length leaders ≡ length parents

-- each number that is the least on a cycle of parents is flagged, and both lists keep their lengths
pub record FlagsEachLeader (parents : List ℕ) (walk_of walk_of' : Vec ℕ Global) (leaders leaders' : Vec Bool Global)
    : Type 0 where
  pub leads : (x : ℕ) → bool_at leaders'.items x ≡ is_leader_within (parent_in parents) (length parents) x
  pub walks_long : vec_len walk_of' ≡ vec_len walk_of
  pub leaders_long : vec_len leaders' ≡ vec_len leaders
