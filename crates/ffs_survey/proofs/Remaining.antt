-- Reading on changes no final result: what was found plus what the entries still to be read would
-- add is the same before and after.
use Rattle.std.proofs.Common.{◌≡◌, ℕ, ◌+◌, ◌<◌, Bool, false, not, cond, ◌&&◌, ◌||◌, List, Option, None, is_some}
use Rattle.std.proofs.Common.{unwrap_or, arith}
use Rattle.ffs_survey.specs.{Discover.{AreCountedOn, AreDiscovered, Found}, Survey.{bool_at, number_at}}
use Rattle.ffs_survey.specs.Discover.{bit, occurrences}

-- nothing is to come
abbrev pub nothing : ℕ → Option ℕ
nothing x = None

-- of reached inodes, parents and the queue; `todo` is the parent that the entries still to be read give
pub record SameResult (todo : ℕ → Option ℕ) (reached : List Bool) (parents queue : List ℕ) (todo' : ℕ → Option ℕ)
    (reached' : List Bool) (parents' queue' : List ℕ) : Type 0 where
  pub reaches : (x : ℕ) → (bool_at reached' x || is_some (todo' x)) ≡ (bool_at reached x || is_some (todo x))
  pub parent : (x : ℕ) → cond (bool_at reached' x) (number_at parents' x) (unwrap_or (todo' x) (number_at parents' x))
      ≡ cond (bool_at reached x) (number_at parents x) (unwrap_or (todo x) (number_at parents x))
  pub queued : (x : ℕ) → occurrences x queue' + bit (is_some (todo' x) && not (bool_at reached' x))
      ≡ occurrences x queue + bit (is_some (todo x) && not (bool_at reached x))

-- no reference is to come, and no name
abbrev pub none : ℕ → ℕ
none x = 0

abbrev pub never : ℕ → Bool
never x = false

-- of the references of the numbers below n, and of which are named: the entries still to be read add `count`
-- references to a number, and name it where `name` says so
pub record Counts (n : ℕ) (count : ℕ → ℕ) (name : ℕ → Bool) (references : List ℕ) (named : List Bool)
    (count' : ℕ → ℕ) (name' : ℕ → Bool) (references' : List ℕ) (named' : List Bool) : Type 0 where
  pub counts : (x : ℕ) → x < n → number_at references' x + count' x ≡ number_at references x + count x
  pub names : (x : ℕ) → x < n → (bool_at named' x || name' x) ≡ (bool_at named x || name x)

-- what is discovered and counted once nothing is to come
pub discovered_whole : {given : ℕ → Option ℕ} (old new : Found) → SameResult given old.reached old.parents old.queue
    nothing new.reached new.parents new.queue → AreDiscovered given old new
discovered_whole old new same = grind arith

pub discovered_same : {given : ℕ → Option ℕ} {old new : Found} → AreDiscovered given old new →
    SameResult given old.reached old.parents old.queue nothing new.reached new.parents new.queue
discovered_same is = grind arith

pub counted_same : {n : ℕ} {count : ℕ → ℕ} {name : ℕ → Bool} {old new : Found} → AreCountedOn n count name old new →
    Counts n count name old.references old.named none never new.references new.named
counted_same is = grind arith
