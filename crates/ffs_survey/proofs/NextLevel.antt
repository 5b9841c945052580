-- A level in the queue, and the next one, once what was discovered is sorted.
use Rattle.std.proofs.Common.{◌≡◌, ◌++◌, ℕ, ◌+◌, ◌*◌, ◌^◌, ◌<◌, ◌≤◌, Bool, List, length, take, drop, arith, ◌∙◌, ap}
use Rattle.std.{proofs.Common.{All, true}, specs.declared.{vec.Vec.Vec, alloc.Global.Global}}
use Rattle.ffs_volume.specs.{Directories.{Graph.Graph, Roles.RoledEntry}, Encodings.Kinds.is_dir_at}
use Rattle.ffs_memory.specs.Filled.{SortsPart}
use Rattle.ffs_survey.specs.{declared.lists.Lists.Lists, Lent.CountsAtMost, Discover.{IsReachedDir, Extends}}
use Rattle.ffs_survey.specs.{Discover.{IsFrontier, LevelsKnown, from_dirs, unset}, Survey.{number_at, graph_with}}
use Rattle.ffs_survey.proofs.{Remaining.{nothing, SameResult}, CalmLaws.frontier_reached, Frontiers.frontier_dirs}
use Rattle.ffs_survey.proofs.{Frontiers.sane_of, Queues.{level_after, queue_parts, same_result_after}}

-- A level is in the queue from `low` to `high`: after it there is room for all that isn't reached
-- yet, and no inode has more references than its start and the directories before it can give.
pub record HasRoomForLevel (low high : ℕ) (references : List ℕ) (reached : List Bool) (queue : List ℕ) : Type 0 where
  pub ordered : low ≤ high
  pub room : high + unset reached ≤ length queue
  pub counted : (x : ℕ) → x < length references → number_at references x ≤ (low + 1) * 2 ^ 28

-- all levels up to k are known, and the queue has level k from `low` to `high`
pub record AtLevel (g : Graph) (k low high : ℕ) (reached : List Bool) (parents queue : List ℕ) : Type 0 where
  pub frontier : IsFrontier g k (drop low (take high queue))
  pub levels : LevelsKnown g k reached parents (take high queue)

-- all levels up to one are known, and the queue has that one from `low` to `high`
pub record AtSomeLevel (g : Graph) (low high : ℕ) (reached : List Bool) (parents queue : List ℕ) : Type 0 where
  pub depth : ℕ
  pub at : AtLevel g depth low high reached parents queue

-- the queue has fewer than 2^31 places, so no count is past 2^59
pub few_counted : (l : Lists) {low high : ℕ} →
    HasRoomForLevel low high l.references.now.items l.reached.now.items l.queue.now.items → CountsAtMost (2 ^ 59) l
few_counted l r x b = grind arith

-- all of a level is reached
pub level_reached : {kinds q p : List ℕ} {r : List Bool} {low high : ℕ} (entries : ℕ → List RoledEntry) →
    is_dir_at kinds 2 ≡ true → AtSomeLevel (graph_with kinds entries) low high r p q →
    All (IsReachedDir kinds r) (drop low (take high q))
level_reached entries root level i d l = record {
  dir = frontier_dirs level.at.frontier root i d l;
  is_reached = frontier_reached level.at.frontier level.at.levels i d l;
}

pub next_at : {old : List ℕ} {mid new : Vec ℕ Global} {r r' : List Bool} {p p' : List ℕ} {low high end : ℕ}
    (kinds : List ℕ) (entries : ℕ → List RoledEntry) → 2 < length kinds → Extends high end old mid.items →
    SortsPart mid new high end →
    SameResult (from_dirs (graph_with kinds entries) (drop low (take high old))) r p (take high old) nothing r' p'
    (take end mid.items) → (depth : ℕ) → AtLevel (graph_with kinds entries) depth low high r p old →
    AtLevel (graph_with kinds entries) (depth + 1) high end r' p' new.items
next_at {old = old} {mid = mid} {new = new} {high = high} {end = end} kinds entries some kept sorted read depth at =
    let parts : (q : List ℕ) → take high q ≡ take high old → take end q ≡ take high old ++ drop high (take end q) =
    λ q h. queue_parts high end q kept.ordered ∙ ap (λ z. z ++ drop high (take end q)) h in
    let mid_parts = parts mid.items kept.kept in
    let n = level_after (sane_of kinds entries some) at.frontier at.levels
    (same_result_after (take high old) (drop high (take end mid.items)) (rw mid_parts at read)) sorted.moved
    sorted.rising in
    record { frontier = n.frontier; levels = rw (parts new.items (sorted.before ∙ kept.kept)) n.knows }
