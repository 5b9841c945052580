-- What the reading of directories makes of what a survey has found.
use Rattle.std.specs.Prelude.{◌≡◌, ℕ, ◌+◌, ◌<◌, ◌≤◌, ◌==◌, All, Bool, true, ◌&&◌, cond, List, length, take}
use Rattle.ffs_volume.specs.{Directories.Roles.RoledEntry, Costs.Calm.are_calm}
use Rattle.ffs_survey.specs.{Survey.{bool_at, number_at, graph_with, IsSurvey}, Calm.{dir_by, AreCalm, IsFlagged}}
use Rattle.ffs_survey.specs.{Calm.{AreUnread, EachCalmIsFlagged, IsReadOnce}, Discover.{Found, AreCountedOn}}
use Rattle.ffs_survey.specs.Discover.{AreDiscovered, from_entries, from_dirs, count_in, any_in, count_of, any_of}
use Rattle.ffs_survey.specs.{Discover.{is_unreached_dir, unset}, Lists.GrowsBy}

-- the reached directory d with these entries is read
pub record ReadsReached (d : ℕ) (entries : List RoledEntry) (right_shape : Bool) (old new : Found) : Type 0 where
  pub discovered : AreDiscovered (from_entries old.kinds d entries) old new
  pub counted : AreCountedOn (length old.kinds) (count_in entries) (any_in entries) old new
  pub calm : IsFlagged d (are_calm (dir_by old.kinds old.marked old.parents d) (bool_at old.reached) 0 entries)
      right_shape old.calm new.calm

-- what the reading of reached directories makes of what was found, as `reads` says it: no count
-- grows by more than `most`, and the queue, which ended at `top`, keeps what it had and ends at `end`,
-- with all that is newly reached
pub record Discovers (most top end : ℕ) (reads : Found → Found → Type 0) (old new : Found) : Type 0 where
  pub grown : GrowsBy (length old.kinds) most old.references new.references
  pub ends : end + unset new.reached ≡ top + unset old.reached
  pub ordered : top ≤ end
  pub kept : take top new.queue ≡ old.queue
  pub read : reads old new

-- these reached directories are read
pub record ReadsDirs (dirs : List ℕ) (entries : ℕ → List RoledEntry) (right_shape : ℕ → Bool) (old new : Found)
    : Type 0 where
  pub discovered : AreDiscovered (from_dirs (graph_with old.kinds entries) dirs) old new
  pub counted : AreCountedOn (length old.kinds) (count_of (graph_with old.kinds entries) dirs)
      (any_of (graph_with old.kinds entries) dirs) old new
  pub calm : AreCalm old.kinds old.marked old.reached old.parents entries right_shape old.calm
      → AreCalm old.kinds old.marked new.reached new.parents entries right_shape new.calm
  pub kept : (x : ℕ) → bool_at old.calm x ≡ true → bool_at new.calm x ≡ true
  pub once : AreUnread old.reached old.parents dirs
      → All (λ d. IsReadOnce (dir_by old.kinds old.marked new.parents d) new.reached new.parents (entries d)
      (right_shape d) new.calm) dirs

-- A survey of these directories finds this, counted on from these starts. Only calm directories have a flag,
-- and each has one that is calm by the parents of what it names. It says nothing of the queue
pub record FindsSurvey (kinds : List ℕ) (marked : List Bool) (entries : ℕ → List RoledEntry) (right_shape : ℕ → Bool)
    (starts : List ℕ) (found : Found) : Type 0 where
  pub survey : IsSurvey (graph_with kinds entries) starts found.references found.named found.reached found.parents
  pub calm : AreCalm kinds marked found.reached found.parents entries right_shape found.calm
  pub flagged : EachCalmIsFlagged kinds marked found.reached found.parents entries right_shape found.calm

-- the directory d with these entries, which isn't reached, is read
pub record ReadsUnreached (kinds : List ℕ) (d : ℕ) (entries : List RoledEntry) (old new : Found) : Type 0 where
  pub counted : AreCountedOn (length kinds) (count_in entries) (any_in entries) old new
  pub parents : (x : ℕ) → x < length kinds → number_at new.parents x
      ≡ cond ((number_at old.parents x == 0) && (is_unreached_dir kinds old.reached x && any_in entries x)) d
      (number_at old.parents x)
