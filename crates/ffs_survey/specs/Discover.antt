-- What a walk over directories discovers and counts, said by what is still to be read.
use Rattle.std.specs.Prelude.{◌≡◌, ℕ, zero, suc, ◌+◌, ◌<◌, ◌≤◌, ◌==◌, Bool, true, false, not, cond, ◌&&◌}
use Rattle.std.specs.Prelude.{◌||◌, length, take, if◌then◌else◌, List, [], ◌∷◌, Option, None, Some, is_some}
use Rattle.std.specs.{Prelude.{unwrap_or, find, count_by}, List.{list_any, sum_by}}
use Rattle.ffs_volume.specs.{Directories.{Roles.{RoledEntry, refers}, Climb.is_value}, Disk.Search.first_below}
use Rattle.ffs_volume.specs.Directories.Graph.{Graph, is_naming_entry, is_naming_dir, edge, within, level, parent}
use Rattle.ffs_survey.specs.Survey.{bool_at, number_at, counted_in}
use Rattle.ffs_volume.specs.Encodings.Kinds.{is_dir_at}

-- what the lists of a survey hold at a moment: the kinds and the marks that it goes by, and what it has found
-- so far: references, named and reached inodes, parents, calm directories, and the queue
pub record Found : Type 0 where
  pub kinds : List ℕ
  pub marked : List Bool
  pub references : List ℕ
  pub named : List Bool
  pub reached : List Bool
  pub parents : List ℕ
  pub calm : List Bool
  pub queue : List ℕ

-- 1 for true
abbrev pub bit : Bool → ℕ
bit true = 1
bit false = 0

-- how often x occurs in a list
unfoldable pub occurrences : ℕ → List ℕ → ℕ
occurrences x q = sum_by (λ y. bit (y == x)) q

-- how many are false
unfoldable pub unset : List Bool → ℕ
unset flags = sum_by (λ b. bit (not b)) flags

-- the parent that x gets from the directory s with these entries to come
abbrev pub from_entries : List ℕ → ℕ → List RoledEntry → ℕ → Option ℕ
from_entries kinds s rest x = cond (is_dir_at kinds x && list_any (is_naming_entry x) rest) (Some s) None

-- the parent that x gets from these directories, one after another
abbrev pub from_dirs : Graph → List ℕ → ℕ → Option ℕ
from_dirs g ss x = find (λ s. edge g s x) ss

-- what was read is discovered: `given` is the parent that it gives to an inode, if any. Each such inode is
-- reached, and one that wasn't before has this parent, and is queued
pub record AreDiscovered (given : ℕ → Option ℕ) (old new : Found) : Type 0 where
  pub reaches : (x : ℕ) → bool_at new.reached x ≡ (bool_at old.reached x || is_some (given x))
  pub parent_is : (x : ℕ) → number_at new.parents x
      ≡ cond (bool_at old.reached x) (number_at old.parents x) (unwrap_or (given x) (number_at old.parents x))
  pub queued : (x : ℕ) → occurrences x new.queue
      ≡ occurrences x old.queue + bit (is_some (given x) && not (bool_at old.reached x))

-- how many of these entries refer to x, and whether a plain one names it
abbrev pub count_in : List RoledEntry → ℕ → ℕ
count_in rest x = count_by (refers x) rest

abbrev pub any_in : List RoledEntry → ℕ → Bool
any_in rest x = list_any (is_naming_entry x) rest

-- the same of the entries of these directories
abbrev pub count_of : Graph → List ℕ → ℕ → ℕ
count_of g ss x = sum_by (λ s. counted_in g s x) ss

abbrev pub any_of : Graph → List ℕ → ℕ → Bool
any_of g ss x = list_any (λ s. is_naming_dir g s x) ss

-- this entry is counted: the references of the numbers below n, and which are named
pub record IsCounted (n : ℕ) (e : RoledEntry) (references : List ℕ) (named : List Bool) (references' : List ℕ)
    (named' : List Bool) : Type 0 where
  pub long : length references' ≡ length references
  pub named_long : length named' ≡ length named
  pub counts : (x : ℕ) → x < n → number_at references' x ≡ number_at references x + bit (refers x e)
  pub names : (x : ℕ) → x < n → bool_at named' x ≡ (bool_at named x || is_naming_entry x e)

-- what was read is counted: it refers `count` times to a number below n, and names it where `name` says so
pub record AreCountedOn (n : ℕ) (count : ℕ → ℕ) (name : ℕ → Bool) (old new : Found) : Type 0 where
  pub counts : (x : ℕ) → x < n → number_at new.references x ≡ number_at old.references x + count x
  pub names : (x : ℕ) → x < n → bool_at new.named x ≡ (bool_at old.named x || name x)

-- what exactly these directories refer to, counted on from these starts, and what they name
pub record IsCount (g : Graph) (dirs : List ℕ) (starts references : List ℕ) (named : List Bool) : Type 0 where
  pub counts : (x : ℕ) → x < g.count → number_at references x ≡ number_at starts x + count_of g dirs x
  pub names : (x : ℕ) → x < g.count → bool_at named x ≡ any_of g dirs x

-- each number of an ascending list is before no smaller one
abbrev pub Rising : List ℕ → Type 0
Rising [] = Unit {0}
Rising (x ∷ xs) = ((t : ℕ) → 1 ≤ occurrences t xs → x ≤ t) × Rising xs

-- the directories of level k, each once, ascending
pub record IsFrontier (g : Graph) (k : ℕ) (xs : List ℕ) : Type 0 where
  pub members : (x : ℕ) → occurrences x xs ≡ bit (is_value (level g x) k)
  pub rising : Rising xs

-- the parents when all levels up to k are known
abbrev pub parent_at : Graph → (k x : ℕ) → Option ℕ
parent_at g k x = cond (within g k x) (parent g x) None

-- what is known when all levels up to k are known: which inodes are reached, the parents, and that
-- each reached one was queued once
pub record LevelsKnown (g : Graph) (k : ℕ) (reached : List Bool) (parents queue : List ℕ) : Type 0 where
  pub reaches : (x : ℕ) → bool_at reached x ≡ within g k x
  pub parent : (x : ℕ) → number_at parents x ≡ unwrap_or (parent_at g k x) 0
  pub queued : (x : ℕ) → occurrences x queue ≡ bit (bool_at reached x)

-- how many entries refer to x, in those directories below n that `counts` picks
unfoldable pub counted_by : (ℕ → Bool) → Graph → (x s : ℕ) → ℕ
counted_by counts g x zero = 0
counted_by counts g x (suc s) = counted_by counts g x s + (if counts s then counted_in g s x else 0)

-- what is known when all reached directories are read: references, counted on from these starts,
-- which inodes are named and which are reached, and parents
pub record IsReachedPart (g : Graph) (starts references : List ℕ) (named reached : List Bool) (parents : List ℕ)
    : Type 0 where
  pub counts : (x : ℕ) → x < g.count
      → number_at references x ≡ number_at starts x + counted_by (bool_at reached) g x g.count
  pub names : (x : ℕ) → x < g.count
      → bool_at named x ≡ is_some (first_below (λ s. bool_at reached s && is_naming_dir g s x) g.count)
  pub reaches : (x : ℕ) → bool_at reached x ≡ is_some (level g x)
  pub parent : (x : ℕ) → number_at parents x ≡ unwrap_or (cond (is_some (level g x)) (parent g x) None) 0

-- x is a directory that isn't reached
abbrev pub is_unreached_dir : List ℕ → List Bool → ℕ → Bool
is_unreached_dir kinds reached x = is_dir_at kinds x && not (bool_at reached x)

-- the directory s names the directory x, and neither is reached
abbrev pub is_unreached_edge : Graph → List ℕ → List Bool → (x s : ℕ) → Bool
is_unreached_edge g kinds reached x s =
    is_unreached_dir kinds reached x && (not (bool_at reached s) && is_naming_dir g s x)

-- no directory that isn't reached has a parent
abbrev pub IsBlank : List ℕ → List Bool → List ℕ → Type 0
IsBlank kinds reached parents = (x : ℕ) → is_unreached_dir kinds reached x ≡ true → number_at parents x ≡ 0

-- what the directories below n that aren't reached add to references and to what is named, and
-- which parents they give
pub record IsRead (g : Graph) (kinds : List ℕ) (reached : List Bool) (n : ℕ) (old new : Found) : Type 0 where
  pub counts : (x : ℕ) → x < g.count
      → number_at new.references x ≡ number_at old.references x + counted_by (λ s. not (bool_at reached s)) g x n
  pub names : (x : ℕ) → x < g.count → bool_at new.named x ≡ (bool_at old.named x
      || is_some (first_below (λ s. not (bool_at reached s) && is_naming_dir g s x) n))
  pub parent : (x : ℕ) → x < g.count → number_at new.parents x
      ≡ unwrap_or (first_below (is_unreached_edge g kinds reached x) n) (number_at old.parents x)

-- a queue that ended at `top` ends at `end`, and what it had is there
pub record Extends (top end : ℕ) (old new : List ℕ) : Type 0 where
  pub ordered : top ≤ end
  pub kept : take top new ≡ take top old

-- a directory that is reached
pub record IsReachedDir (kinds : List ℕ) (reached : List Bool) (d : ℕ) : Type 0 where
  pub dir : is_dir_at kinds d ≡ true
  pub is_reached : bool_at reached d ≡ true
