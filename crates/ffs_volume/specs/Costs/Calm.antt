-- Calm directories: phase 2 can report nothing of them, as a survey sees where it reads them.
use Rattle.std.specs.Prelude.{ℕ, suc, ◌==◌, Bool, false, not, ◌&&◌, ◌||◌, nat_le, nat_lt, List, [], ◌∷◌, length, map}
use Rattle.std.specs.{List.range_with_len, Option.unwrap_or}
use Rattle.ffs_volume.specs.declared.constants.TheConstants.{WINO, ROOTINO, DT_DIR, DT_WHT, EMPTY_DIR_KIND, UNKNOWN_KIND}
use Rattle.ffs_volume.specs.declared.{Layout.Layout, Role.{Role, TheVariants.{Empty, Dot, Dotdot, Extra, Plain}}}
use Rattle.ffs_volume.specs.{Blocks.Inodes.inodes_of, Encodings.Lists.{bool_at, number_at}}
use Rattle.ffs_volume.specs.Encodings.Kinds.{is_dir_at, is_allocated_kind, kind_at}
use Rattle.ffs_volume.specs.Directories.{Graph.{is_naming_entry, parent, reached}, Naming.graph_of}
use Rattle.ffs_volume.specs.Directories.PathnameCheck.{are_sound, has_partial_chunk, is_short}
use Rattle.ffs_volume.specs.Directories.{Roles.{RoledEntry, Volume, is_dir, roled_entries}, Volumes.{marked_at, volume_of}}

-- the size of a directory is right: it has room for `.` and `..`, and is in whole chunks
abbrev pub is_right_size : ℕ → Bool
is_right_size size = not (is_short size) && not (has_partial_chunk size)

-- the size of inode d is right, each of its chunks is sound, and none of its Gaps is kept
abbrev pub is_right_shape : Volume → ℕ → Bool
is_right_shape vol d = is_right_size (vol.inode d).size && (are_sound (vol.chunks d) && not (vol.gap d))

-- inode d is a directory of right shape
abbrev pub is_directory_of_right_shape : Volume → ℕ → Bool
is_directory_of_right_shape vol d = is_dir vol d && is_right_shape vol d

-- the current directory and its parent, and what its entries are compared with: the kinds of inodes
-- and which are marked
pub record CurrentDir : Type 0 where
  pub kinds : List ℕ
  pub marked : List Bool
  pub dir : ℕ
  pub parent : ℕ

-- neither unallocated, nor of class Unknown, nor a directory of size 0, nor a directory that is
-- reached; and not `DT_WHT`, which is the type of no inode
abbrev pub is_calm_kind : ℕ → Bool → Bool
is_calm_kind kind reached =
    is_allocated_kind kind && (not (kind == EMPTY_DIR_KIND) && (not (kind == DT_WHT) && (not (kind == UNKNOWN_KIND)
    && not ((kind == DT_DIR) && reached))))

-- a plain entry is a whiteout; or the inode that it names is one of the volume and isn't marked, and
-- the type of the entry is its kind, and a calm one
abbrev pub is_calm_plain : List ℕ → List Bool → (ℕ → Bool) → (x kind : ℕ) → Bool
is_calm_plain kinds marked reached x kind =
    nat_lt x (length kinds) && (((x == WINO) && (kind == DT_WHT)) || (nat_le ROOTINO x && (not (bool_at marked x)
    && ((number_at kinds x == kind) && is_calm_kind kind (reached x)))))

-- an entry at an index of the directory: `.` is the first, `..` the second, and all others are
-- empty or plain
abbrev pub is_calm_role : CurrentDir → (ℕ → Bool) → ℕ → Role → (number kind : ℕ) → Bool
is_calm_role current reached i Dot number kind = (i == 0) && ((number == current.dir) && (kind == DT_DIR))
is_calm_role current reached i Dotdot number kind = (i == 1) && ((number == current.parent) && (kind == DT_DIR))
is_calm_role current reached i Extra number kind = false
is_calm_role current reached i Empty number kind = nat_le 2 i
is_calm_role current reached i Plain number kind =
    nat_le 2 i && is_calm_plain current.kinds current.marked reached number kind

abbrev pub is_calm_entry : CurrentDir → (ℕ → Bool) → ℕ → RoledEntry → Bool
is_calm_entry current reached i e = is_calm_role current reached i e.role e.entry.number e.entry.kind

-- what is reached after an entry: a directory that it names, too
abbrev pub reached_after : List ℕ → (ℕ → Bool) → RoledEntry → ℕ → Bool
reached_after kinds reached e x = reached x || (is_dir_at kinds x && is_naming_entry x e)

-- all entries from an index on, where this is reached before them; the first two aren't missing
abbrev pub are_calm : CurrentDir → (ℕ → Bool) → ℕ → List RoledEntry → Bool
are_calm current reached i [] = nat_le 2 i
are_calm current reached i (e ∷ es) =
    is_calm_entry current reached i e && are_calm current (reached_after current.kinds reached e) (suc i) es

-- x is no child of the directory d: it is the root, or d isn't its parent
abbrev pub is_elsewhere : (parent_of : ℕ → ℕ) (d x : ℕ) → Bool
is_elsewhere parent_of d x = (x == ROOTINO) || not (parent_of x == d)

-- the directory d is calm by the parents of what it names, whichever directories were read before it: each directory
-- that is no child of d counts as reached before, which is the most that can be reached where d is read
abbrev pub is_calm_by_parents : List ℕ → List Bool → (parent_of : ℕ → ℕ) → List RoledEntry → Bool → ℕ → Bool
is_calm_by_parents kinds marked parent_of entries right_shape d =
    are_calm (record { kinds = kinds; marked = marked; dir = d; parent = parent_of d }) (is_elsewhere parent_of d) 0
    entries && right_shape

-- the kinds of all inodes, and which of these are marked
abbrev pub kinds_in : Layout → List ℕ → List ℕ
kinds_in v b = map (kind_at v b) (range_with_len 0 (inodes_of v))

abbrev pub marks_in : Layout → List ℕ → List Bool
marks_in v b = map (marked_at v b) (range_with_len 0 (inodes_of v))

-- the parent of x, 0 for none
abbrev pub parent_number : Layout → List ℕ → ℕ → ℕ
parent_number v b x = unwrap_or (parent (graph_of (volume_of v b)) x) 0

-- nothing can be reported of the directory d: it is reached, its shape is right, and it is calm by the
-- parents of what it names
unfoldable pub is_calm_directory : Layout → List ℕ → ℕ → Bool
is_calm_directory v b d = is_dir (volume_of v b) d && (reached (graph_of (volume_of v b)) d
    && is_calm_by_parents (kinds_in v b) (marks_in v b) (parent_number v b) (roled_entries (volume_of v b) d)
    (is_right_shape (volume_of v b) d) d)
