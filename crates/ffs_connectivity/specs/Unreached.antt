-- Where the directories begin that are not reached.
use Rattle.std.specs.Prelude.{◌≡◌, ◌<◌, ◌≤◌, ℕ, Bool, List, false, true, length}
use Rattle.ffs_survey.specs.Discover.{is_unreached_dir}

-- the least number of a directory that isn't reached, or how many inodes there are where each one is
pub record IsFirstUnreached (kinds : List ℕ) (reached : List Bool) (first : ℕ) : Type 0 where
  pub low : first < length kinds → 2 ≤ first
  pub within : first ≤ length kinds
  pub before : (x : ℕ) → x < first → is_unreached_dir kinds reached x ≡ false
  pub found : first < length kinds → is_unreached_dir kinds reached first ≡ true
