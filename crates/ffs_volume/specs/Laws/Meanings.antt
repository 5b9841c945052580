-- Laws that say of definitions what they are meant to say.
use Rattle.std.specs.Prelude.{◌≡◌, ◌≤◌, ◌<◌, ◌⊎◌, ℕ, ◌+◌, ◌*◌, ◌%◌, not, Bool, true, List, [], ◌∷◌, ◌++◌, length}
use Rattle.std.specs.{Prelude.{count_by, map, Some}, List.range_with_len}
use Rattle.ffs_volume.specs.declared.{constants.TheConstants.MAXPATHLEN, Order.Order, Layout.Layout, Class.Class}
use Rattle.ffs_volume.specs.{declared.Step.Step, Disk.Areas.cgbase, Blocks.{Owners.fragments_of, Claims.Claims}}
use Rattle.ffs_volume.specs.Blocks.{Claims.{is_open, after_steps}, KeptOffers.{Offer, kept_in_steps, offer_of}}
use Rattle.ffs_volume.specs.{Groups.Records.right_group_counts, Directories.Entries.{Entry, entry_at, entries_of}}
use Rattle.ffs_volume.specs.{Directories.{Graph.{Graph, level}, Paths.{dir_path, entry_path}}, Laws.Levels.IsLevel}

-- `kept` is the first part of the offers of the fragments fs to inode i, in order, and `rest` is
-- the other part. `rest` is empty unless the inode is cut
pub record KeptPrefix (i : ℕ) (kept : List Offer) (fs : List ℕ) (is_cut : Bool) : Type 0 where
  pub rest : List Offer
  pub parts : kept ++ rest ≡ map (offer_of i) fs
  pub end : (rest ≡ []) ⊎ (is_cut ≡ true)

-- the kept offers of an inode are the first of its offers, and all of them where it isn't cut
abbrev pub KeptAreFirst : Type 0
KeptAreFirst = (v : Layout) (inode : ℕ) (s : Claims) (steps : List Step) →
    KeptPrefix inode (kept_in_steps v inode s steps) (fragments_of steps) (not (is_open (after_steps v s steps)))

-- the list is of well formed entries of the chunk: the first is at the place, and each other where
-- the one before ends; it need not reach as far as it could
abbrev pub AreEntries : (order : Order) (chunk : List ℕ) (place : ℕ) (es : List Entry) → Type 0
AreEntries order chunk place [] = Unit {0}
AreEntries order chunk place (e ∷ es) =
    (entry_at order chunk place ≡ Some e) × AreEntries order chunk (place + e.length) es

-- a list of well formed entries from the start; each other such list is the first part of it
pub record IsLongest (order : Order) (chunk : List ℕ) (entries : List Entry) : Type 0 where
  pub are : AreEntries order chunk 0 entries
  pub longest : (es : List Entry) → AreEntries order chunk 0 es → (rest : List Entry) × (entries ≡ es ++ rest)

-- the entries of each chunk are the longest list
abbrev pub AreLongest : Type 0
AreLongest = (order : Order) (chunk : List ℕ) → IsLongest order chunk (entries_of order chunk)

-- a level is the least number of edges from inode 2, and is below the number of inodes
pub record LevelMeaning (g : Graph) (k d : ℕ) : Type 0 where
  pub is_least : level g d ≡ Some k → IsLevel g k d × (k < g.count)
  pub is_found : d < g.count → IsLevel g k d → level g d ≡ Some k

-- this holds of each graph, number and directory
abbrev pub LevelsAreLeast : Type 0
LevelsAreLeast = (g : Graph) (k d : ℕ) → LevelMeaning g k d

-- the path of a directory has at most 1,024 bytes, and so has that of an entry whose name has at
-- most 255
pub record PathsFit (g : Graph) (d : ℕ) : Type 0 where
  pub of_dir : length (dir_path g d) ≤ MAXPATHLEN
  pub of_entry : (name : List ℕ) → length name ≤ 255 → length (entry_path g d name) ≤ MAXPATHLEN

-- this holds of each graph and each directory
abbrev pub AllPathsFit : Type 0
AllPathsFit = (g : Graph) (d : ℕ) → PathsFit g d

-- the fragments of the free blocks of a group and the free fragments of its other blocks are all
-- its free fragments
abbrev pub SumsAreWhole : Type 0
SumsAreWhole = (v : Layout) (free : ℕ → Bool) (class : ℕ → Class) (c : ℕ) → 0 < v.frag → v.fpg % v.frag ≡ 0 →
    v.frag * (right_group_counts v free class c).blocks + (right_group_counts v free class c).fragments
    ≡ count_by free (range_with_len (cgbase v c) v.fpg)
