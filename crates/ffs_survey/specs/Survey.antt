-- What a survey of directories finds of each inode, and the graph that it goes over.
use Rattle.std.specs.Prelude.{◌≡◌, ℕ, zero, suc, ◌+◌, ◌<◌, ◌==◌, Bool, ◌&&◌, ◌||◌, not, min, if◌then◌else◌}
use Rattle.std.specs.Prelude.{List, length, count_by, unwrap_or}
use Rattle.ffs_volume.specs.{declared.constants.TheConstants.{NO_LINKS, ROOTINO}, Directories.Roles.RoledEntry}
use Rattle.ffs_volume.specs.Directories.{Roles.refers, Graph.{Graph, is_named, reached as is_reached, parent}}
pub use Rattle.ffs_volume.specs.Encodings.Lists.{bool_at, number_at}
use Rattle.ffs_volume.specs.Encodings.Kinds.{is_empty_dir_kind}
pub use Rattle.ffs_volume.specs.Encodings.Kinds.{is_dir_kind}
use Rattle.ffs_volume.specs.Encodings.Kinds.{is_dir_at}

-- x is suspect: marked, or a directory of size 0
abbrev pub suspect_at : List ℕ → List Bool → ℕ → Bool
suspect_at kinds marked x = bool_at marked x || is_empty_dir_kind (number_at kinds x)

-- x is dead: suspect, not the root, and not named
abbrev pub dead_at : List ℕ → (marked named : List Bool) → ℕ → Bool
dead_at kinds marked named x = suspect_at kinds marked x && (not (x == ROOTINO) && not (bool_at named x))

-- the graph of the directories of a list of kinds, with these entries
abbrev pub graph_with : List ℕ → (ℕ → List RoledEntry) → Graph
graph_with kinds entries = record { count = length kinds; is_dir = is_dir_at kinds; entries = entries }

-- how many entries of s refer to x, where s is a directory
abbrev pub counted_in : Graph → (s x : ℕ) → ℕ
counted_in g s x = if g.is_dir s then count_by (refers x) (g.entries s) else 0

unfoldable pub counted_below : Graph → (x s : ℕ) → ℕ
counted_below g x zero = 0
counted_below g x (suc s) = counted_below g x s + counted_in g s x

-- how many entries refer to x
abbrev pub references_to : Graph → ℕ → ℕ
references_to g x = counted_below g x g.count

-- the most that a count of references starts at
abbrev pub most_start : ℕ
most_start = NO_LINKS

-- where the count of the references of x starts
abbrev pub start_in : (starts : List ℕ) (x : ℕ) → ℕ
start_in starts x = min (number_at starts x) most_start

-- these lists hold of each inode how many entries refer to it, counted on from where it starts,
-- whether a plain one names it, whether it is reached from inode 2, and its parent, 0 for none
pub record IsSurvey (g : Graph) (starts references : List ℕ) (named reached : List Bool) (parents : List ℕ)
    : Type 0 where
  pub counts : (x : ℕ) → x < g.count → number_at references x ≡ start_in starts x + references_to g x
  pub names : (x : ℕ) → x < g.count → bool_at named x ≡ is_named g x
  pub reaches : (x : ℕ) → bool_at reached x ≡ is_reached g x
  pub parent_is : (x : ℕ) → number_at parents x ≡ unwrap_or (parent g x) 0
