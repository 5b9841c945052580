-- What a call needs of the lists of a survey and of its reader, what it does with them, and what it leaves.
use Rattle.std.specs.Prelude.{◌≡◌, ℕ, ◌+◌, ◌^◌, ◌<◌, ◌≤◌, All, Bool, List, Result, length, take, drop, vec_len, true}
use Rattle.std.specs.{Prelude.{false, ◌==◌, ◌&&◌, cond, OnOk, [], ◌∷◌}, Borrow.GName}
use Rattle.ffs_image.specs.{Reads.ReadAfter, declared.image.ImageFault.ImageFault}
use Rattle.ffs_volume.specs.{Directories.{Graph.is_naming_entry, Roles.RoledEntry}, Encodings.Kinds.is_dir_at}
use Rattle.ffs_volume.specs.Costs.{Calm.CurrentDir, DirectoryReads.costs_below}
use Rattle.ffs_survey.specs.declared.lists.{Lists.Lists, FoundLists.FoundLists, KnownInodes.KnownInodes}
use Rattle.ffs_survey.specs.{declared.{lists.LentDir.LentDir, directories.Directories.Ghosts}, Survey.number_at}
use Rattle.ffs_survey.specs.{Survey.{bool_at, graph_with, most_start}, Calm.{dir_by, AreCalm, IsFlagged, IsReadOnce}}
use Rattle.ffs_survey.specs.Discover.{AreDiscovered, Extends, Found, IsReachedDir, IsReachedPart, from_entries}
use Rattle.ffs_survey.specs.{Discover.{is_unreached_dir, unset}, Levels.ReadsUnreached, Lists.{AreLists, GrowsBy}}

-- what the lists hold
abbrev pub all_found : Lists → Found
all_found l = record {
  kinds = l.kinds.now;
  marked = l.marked.now.items;
  references = l.references.now.items;
  named = l.named.now.items;
  reached = l.reached.now.items;
  parents = l.parents.now.items;
  calm = l.calm.now.items;
  queue = l.queue.now.items;
}

-- with the queue up to `end`
abbrev pub found_up_to : Lists → ℕ → Found
found_up_to l end = record (all_found l) { queue = take end l.queue.now.items }

-- what the lists hold, with what is known of the inodes
abbrev pub found_by : KnownInodes → FoundLists → Found
found_by i l = record {
  kinds = i.kinds.now;
  marked = i.marked.now.items;
  references = l.references.now.items;
  named = l.named.now.items;
  reached = l.reached.now.items;
  parents = l.parents.now.items;
  calm = l.calm.now.items;
  queue = l.queue.now.items;
}

-- the current directory, by the lists
abbrev pub current_in : Lists → (dir parent : ℕ) → CurrentDir
current_in l dir parent = record { kinds = l.kinds.now; marked = l.marked.now.items; dir = dir; parent = parent }

-- the current directory, as a call is lent it
abbrev pub current_of : LentDir → CurrentDir
current_of s = record { kinds = s.kinds.now; marked = s.marked.now.items; dir = s.dir; parent = s.parent }

-- what is lent: the kinds and the marks, and the lists by their names
pub record Lent : Type 0 where
  pub kinds : List ℕ
  pub marked : List Bool
  pub references : GName
  pub named : GName
  pub reached : GName
  pub parents : GName
  pub calm : GName
  pub queue : GName

abbrev pub lent_in : Lists → Lent
lent_in l = record {
  kinds = l.kinds.now;
  marked = l.marked.now.items;
  references = l.references.ghost_name;
  named = l.named.ghost_name;
  reached = l.reached.ghost_name;
  parents = l.parents.ghost_name;
  calm = l.calm.ghost_name;
  queue = l.queue.ghost_name;
}

-- a call leaves the lists that it was lent, and kinds and marks as they were
pub record SameLists (old new : Lists) : Type 0 where
  pub lent : lent_in new ≡ lent_in old

-- a call leaves the lists that it was lent, and references, named inodes and calm flags as they were
pub record KeepsCounts (old new : Lists) : Type 0 where
  pub same : SameLists old new
  pub references : new.references.now.items ≡ old.references.now.items
  pub named : new.named.now.items ≡ old.named.now.items
  pub calm : new.calm.now.items ≡ old.calm.now.items

-- reached and calm directories stay as they are
pub record KeepsReached (old new : Lists) : Type 0 where
  pub reached : new.reached.now.items ≡ old.reached.now.items
  pub calm : new.calm.now.items ≡ old.calm.now.items

-- the entry e gives the parent d to a directory that it names, if that isn't reached and has none yet.
-- Parents and the queue alone may change
pub record Adopts (d : ℕ) (e : RoledEntry) (old new : Lists) : Type 0 where
  pub parent : (x : ℕ) → x < length old.kinds.now → number_at new.parents.now.items x
      ≡ cond ((number_at old.parents.now.items x == 0) && (is_unreached_dir old.kinds.now old.reached.now.items x
      && is_naming_entry x e)) d (number_at old.parents.now.items x)
  pub counts : KeepsCounts old new
  pub kept : KeepsReached old new

-- a call leaves the lists that it was lent, and each has the length that it had
pub record KeepsLists (old new : FoundLists) : Type 0 where
  pub references : new.references.ghost_name ≡ old.references.ghost_name
  pub named : new.named.ghost_name ≡ old.named.ghost_name
  pub reached : new.reached.ghost_name ≡ old.reached.ghost_name
  pub parents : new.parents.ghost_name ≡ old.parents.ghost_name
  pub calm : new.calm.ghost_name ≡ old.calm.ghost_name
  pub queue : new.queue.ghost_name ≡ old.queue.ghost_name
  pub references_long : vec_len new.references.now ≡ vec_len old.references.now
  pub named_long : vec_len new.named.now ≡ vec_len old.named.now
  pub reached_long : vec_len new.reached.now ≡ vec_len old.reached.now
  pub parents_long : vec_len new.parents.now ≡ vec_len old.parents.now
  pub calm_long : vec_len new.calm.now ≡ vec_len old.calm.now
  pub queue_long : vec_len new.queue.now ≡ vec_len old.queue.now

-- no count of references is above `most`
abbrev pub CountsAtMost : ℕ → Lists → Type 0
CountsAtMost most l = (x : ℕ) → x < length l.kinds.now → number_at l.references.now.items x ≤ most

-- the queue has room after `top` for each inode that isn't reached
abbrev pub HasRoomAfter : ℕ → Lists → Type 0
HasRoomAfter top l = top + unset l.reached.now.items ≤ length l.queue.now.items

-- what an entry of this directory names can be discovered: its kinds are those of the lists, and the queue
-- has room
pub record CanReach (current : LentDir) (top : ℕ) (l : Lists) : Type 0 where
  pub kinds : current.kinds.now ≡ l.kinds.now
  pub room : HasRoomAfter top l

-- what the entry e of the directory d names is discovered: the queue, which ended at `top`, keeps what
-- it had and ends at `end`, with what is newly reached; nothing is counted
pub record Reaches (d : ℕ) (e : RoledEntry) (top end : ℕ) (old new : Lists) : Type 0 where
  pub ends : end + unset new.reached.now.items ≡ top + unset old.reached.now.items
  pub discovered : AreDiscovered (from_entries old.kinds.now d (e ∷ [])) (found_up_to old top) (found_up_to new end)
  pub extends : Extends top end old.queue.now.items new.queue.now.items
  pub counts : KeepsCounts old new

module _ {S : Type 0} (D : Ghosts S) where
  -- P holds of the entries of each directory and of which directories have a right shape, by each
  -- list of bytes that the reader's base knows to be the image's
  abbrev pub ForKnown : S → ((ℕ → List RoledEntry) → (ℕ → Bool) → Type 0) → Type 0
  ForKnown reader P =
      (b : List ℕ) → D.knows (D.base reader) b → P (D.entries (D.base reader) b) (D.right_shape (D.base reader) b)

  -- the reader is ready, and these lists have an entry for every inode
  pub record CanSurvey (reader : S) (i : KnownInodes) (l : FoundLists) : Type 0 where
    pub ready : D.ready reader
    pub lists : AreLists (found_by i l)

  -- the reader is ready, nothing is found yet, and no count of references is past the greatest start
  pub record CanBegin (reader : S) (l : Lists) : Type 0 where
    pub ready : D.ready reader
    pub starts : (x : ℕ) → number_at l.references.now.items x ≤ most_start
    pub named : (x : ℕ) → bool_at l.named.now.items x ≡ false
    pub reached : (x : ℕ) → bool_at l.reached.now.items x ≡ false
    pub parents : (x : ℕ) → number_at l.parents.now.items x ≡ 0
    pub calm : (x : ℕ) → bool_at l.calm.now.items x ≡ false

  -- the reader is ready, and no count of references is above `most`
  pub record CanCount (most : ℕ) (reader : S) (l : Lists) : Type 0 where
    pub ready : D.ready reader
    pub counts : CountsAtMost most l

  -- the same, and the queue has room after `top`
  pub record CanReadReached (most top : ℕ) (reader : S) (l : Lists) : Type 0 where
    pub ready : D.ready reader
    pub counts : CountsAtMost most l
    pub room : HasRoomAfter top l

  -- the same for a level that is in the queue from `low` to `high`. If the reader's base knows the
  -- bytes, it is of reached directories
  pub record CanReadLevel (low high : ℕ) (reader : S) (l : Lists) : Type 0 where
    pub can : CanReadReached (2 ^ 59) high reader l
    pub ordered : low ≤ high
    pub reached : (b : List ℕ) → D.knows (D.base reader) b
        → All (IsReachedDir l.kinds.now l.reached.now.items) (drop low (take high l.queue.now.items))

  -- a call leaves the reader ready over the same base, and only reads the image, at most as often as
  -- `cost` says by what each directory costs
  pub record LeavesDirectories {T : Type 0} (cost : (ℕ → ℕ) → ℕ) (old new : S) (result : Result T ImageFault)
      : Type 0 where
    pub is_ready : D.ready new
    pub same : D.base new ≡ D.base old
    pub read : ReadAfter (D.device old) (D.device new) result
    pub counted : (b : List ℕ) → D.knows (D.base old) b → D.reads new ≤ D.reads old + cost (D.cost (D.base old) b)

  -- a call leaves the reader so, and the lists that it was lent
  pub record LeavesLent {T : Type 0} (cost : (ℕ → ℕ) → ℕ) (old new : S) (l l' : Lists)
      (result : Result T ImageFault) : Type 0 where
    pub reader : LeavesDirectories cost old new result
    pub lists : SameLists l l'

  -- a call leaves the reader and its lists so, and what is reached and calm as it was
  pub record LeavesReached {T : Type 0} (cost : (ℕ → ℕ) → ℕ) (old new : S) (l l' : Lists)
      (result : Result T ImageFault) : Type 0 where
    pub lent : LeavesLent cost old new l l' result
    pub kept : KeepsReached l l'

  -- the directory d was read as one that isn't reached. Where all of it was, no inode has got more than
  -- 2^28 references by it
  pub record AddsUnreached {T : Type 0} (d : ℕ) (old new : S) (l l' : Lists) (result : Result T ImageFault)
      : Type 0 where
    pub grown : OnOk result (GrowsBy (length l.kinds.now) (2 ^ 28) l.references.now.items l'.references.now.items)
    pub read : OnOk result (ForKnown old (λ entries right_shape.
        ReadsUnreached l.kinds.now d (entries d) (all_found l) (all_found l')))
    pub leaves : LeavesReached (λ cost. cost d) old new l l' result

  -- the current directory d, of which no entry is left, is flagged where its entries are calm and its shape
  -- is right. The reader stays ready over the same base, and the image was read at most as often as the
  -- rest of the directory asks for
  pub record FlagsIfCalm {T : Type 0} (d : ℕ) (all_calm : Bool) (old new : S) (flags flags' : List Bool)
      (result : Result T ImageFault) : Type 0 where
    pub flagged : OnOk result ((b : List ℕ) → D.knows (D.base old) b → D.ended old b
        → IsFlagged d all_calm (D.right_shape_so_far old b) flags flags')
    pub long : length flags' ≡ length flags
    pub is_ready : D.ready new
    pub same : D.base new ≡ D.base old
    pub read : ReadAfter (D.device old) (D.device new) result
    pub counted : (b : List ℕ) → D.knows (D.base old) b → D.held old → D.reads new ≤ D.reads old + D.to_read old b

  -- all directories that are reached from inode 2 are read, each once, references are counted on from
  -- what the lists held, and only calm directories have a flag. No inode has more than 2^59 references
  -- then
  pub record ReadsEachReached (old new : S) (l l' : Lists) : Type 0 where
    pub counts : CountsAtMost (2 ^ 59) l'
    pub part : ForKnown old (λ entries right_shape. IsReachedPart (graph_with l.kinds.now entries)
        l.references.now.items l'.references.now.items l'.named.now.items l'.reached.now.items l'.parents.now.items)
    pub calm : ForKnown old (λ entries right_shape. AreCalm l.kinds.now l.marked.now.items l'.reached.now.items
        l'.parents.now.items entries right_shape l'.calm.now.items)
    pub read : ForKnown old (λ entries right_shape. (d : ℕ) → is_dir_at l.kinds.now d ≡ true
        → bool_at l'.reached.now.items d ≡ true → IsReadOnce (dir_by l.kinds.now l.marked.now.items l'.parents.now.items d)
        l'.reached.now.items l'.parents.now.items (entries d) (right_shape d) l'.calm.now.items)
    pub once : (b : List ℕ) → D.knows (D.base old) b → D.reads new ≤ D.reads old
        + costs_below (bool_at l'.reached.now.items) (D.cost (D.base old) b) (length l.kinds.now)
