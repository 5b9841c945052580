-- Following a function from numbers to numbers that may end, such as that from a directory to its
-- parent, and its cycles.
use Rattle.std.specs.Prelude.{◌≡◌, ℕ, zero, suc, ◌≤◌, ◌==◌, nat_le, Bool, true}
use Rattle.std.specs.Prelude.{false, not, ◌&&◌, Option, None, Some, option_and_then}
use Rattle.ffs_volume.specs.Disk.Search.{some_below}

-- the number that k steps along f reach from d, if there is one
unfoldable pub climb : (f : ℕ → Option ℕ) (k d : ℕ) → Option ℕ
climb f zero d = Some d
climb f (suc k) d = option_and_then f (climb f k d)

-- there is a number, and it is k
abbrev pub is_value : Option ℕ → (k : ℕ) → Bool
is_value None k = false
is_value (Some j) k = j == k

-- there is no number, or it is at least d
abbrev pub none_or_at_least : Option ℕ → (d : ℕ) → Bool
none_or_at_least None d = true
none_or_at_least (Some s) d = nat_le d s

-- d is the least number on a cycle of at most n numbers: following f leads back to d within n
-- steps, and none of the first n numbers from d on is less. `IsLeader` below says the same of
-- cycles of any length
abbrev pub is_leader_within : (f : ℕ → Option ℕ) (n d : ℕ) → Bool
is_leader_within f n d =
    some_below (λ k. is_value (climb f (suc k) d) d) n
    && not (some_below (λ k. not (none_or_at_least (climb f k d) d)) n)

-- following f leads from d back to d in steps_less_one + 1 steps
pub record IsOnCycle (f : ℕ → Option ℕ) (d : ℕ) : Type 0 where
  pub steps_less_one : ℕ
  pub returns : climb f (suc steps_less_one) d ≡ Some d

-- d is the least number on a cycle
pub record IsLeader (f : ℕ → Option ℕ) (d : ℕ) : Type 0 where
  pub cycle : IsOnCycle f d
  pub least : (k s : ℕ) → climb f k d ≡ Some s → d ≤ s
