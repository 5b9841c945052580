-- The volume that the checks of directories see (`vol`), the roles of directory entries, and
-- references.
use Rattle.std.specs.Prelude.{ℕ, zero, suc, ◌+◌, ◌==◌, Bool, true, false, not, ◌&&◌, ◌||◌, nat_le, nat_lt}
use Rattle.std.specs.Prelude.{if◌then◌else◌, List, [], ◌∷◌, Option, Some, None, option_and_then, count_by, cond}
use Rattle.std.specs.List.{flat_map, find}
use Rattle.ffs_volume.specs.declared.{Class.Class, Inode.Inode, Role.{Role, TheVariants.{Empty, Dot, Dotdot, Extra}}}
use Rattle.ffs_volume.specs.{declared.Role.TheVariants.Plain, Directories.Entries.{Entry, Chunk, is_live}}
use Rattle.ffs_volume.specs.Blocks.Inodes.{is_directory, is_allocated}

-- a volume as the checks of directories see it: the number of its inodes, and of each its class, its
-- fields, whether a Gap of it is kept, its chunks if it is a directory, and whether it is marked
pub record Volume : Type 0 where
  pub count : ℕ
  pub class : ℕ → Class
  pub inode : ℕ → Inode
  pub gap : ℕ → Bool
  pub chunks : ℕ → List Chunk
  pub marked : ℕ → Bool

-- x is the number of an inode; 0 and 1 aren't
abbrev pub is_inode : Volume → ℕ → Bool
is_inode vol x = nat_le 2 x && nat_lt x vol.count

-- x is the number of a directory
abbrev pub is_dir : Volume → ℕ → Bool
is_dir vol x = is_inode vol x && is_directory (vol.class x)

-- x is the number of an inode that is allocated
abbrev pub is_allocated_inode : Volume → ℕ → Bool
is_allocated_inode vol x = is_inode vol x && is_allocated (vol.class x)

-- x is suspect: it is marked, or a directory of size 0
abbrev pub is_suspect : Volume → ℕ → Bool
is_suspect vol x = vol.marked x || (is_dir vol x && ((vol.inode x).size == 0))

-- the name is `.` (46)
abbrev pub is_one_dot : List ℕ → Bool
is_one_dot [] = false
is_one_dot (a ∷ []) = a == 46
is_one_dot (a ∷ b ∷ rest) = false

-- the name is `..`
abbrev pub is_two_dots : List ℕ → Bool
is_two_dots [] = false
is_two_dots (a ∷ []) = false
is_two_dots (a ∷ b ∷ []) = (a == 46) && (b == 46)
is_two_dots (a ∷ b ∷ c ∷ rest) = false

-- the role of an entry at an index of its chunk; `first` says that the chunk is at the start of the
-- file
unfoldable pub role_of : (first : Bool) (index : ℕ) (e : Entry) → Role
role_of first index e =
    if not (is_live e) then Empty
    else (if is_one_dot e.name then (if first && (index == 0) then Dot else Extra)
    else (if is_two_dots e.name then (if first && (index == 1) then Dotdot else Extra)
    else Plain))

-- the role is Plain
abbrev pub is_plain : Role → Bool
is_plain Plain = true
is_plain Dot = false
is_plain Dotdot = false
is_plain Extra = false
is_plain Empty = false

-- an entry of the role counts as a reference: it is neither Extra nor Empty
abbrev pub is_counted : Role → Bool
is_counted Plain = true
is_counted Dot = true
is_counted Dotdot = true
is_counted Extra = false
is_counted Empty = false

-- an entry with its role
pub record RoledEntry : Type 0 where
  pub role : Role
  pub entry : Entry

-- the entries from an index of a chunk on, with their roles
unfoldable pub roled_from : (first : Bool) (index : ℕ) (es : List Entry) → List RoledEntry
roled_from first index [] = []
roled_from first index (e ∷ es) = record { role = role_of first index e; entry = e } ∷ roled_from first (suc index) es

-- the entries of a chunk, with their roles
abbrev pub roled_chunk : Chunk → List RoledEntry
roled_chunk c = roled_from (c.offset == 0) 0 c.entries

-- all entries of a directory in order, with their roles, those that aren't live included
unfoldable pub roled_entries : Volume → ℕ → List RoledEntry
roled_entries vol d = flat_map roled_chunk (vol.chunks d)

-- the entry at an index of a list, if there is one
abbrev pub nth_entry : List Entry → ℕ → Option Entry
nth_entry [] i = None
nth_entry (e ∷ es) zero = Some e
nth_entry (e ∷ es) (suc i) = nth_entry es i

-- the entry at an index of the chunk at the start of the file, if there is one
unfoldable pub start_entry : (vol : Volume) (d i : ℕ) → Option Entry
start_entry vol d i = option_and_then (λ c. nth_entry c.entries i) (find (λ c. c.offset == 0) (vol.chunks d))

-- the entry, if it passes
abbrev pub entry_if : (Entry → Bool) → Option Entry → Option Entry
entry_if p None = None
entry_if p (Some e) = cond (p e) (Some e) None

-- the entry `.` of a directory: the one with the role Dot
unfoldable pub dot : Volume → ℕ → Option Entry
dot vol d = entry_if (λ e. is_live e && is_one_dot e.name) (start_entry vol d 0)

-- the entry `..` of a directory: the one with the role Dotdot
unfoldable pub dotdot : Volume → ℕ → Option Entry
dotdot vol d = entry_if (λ e. is_live e && is_two_dots e.name) (start_entry vol d 1)

-- the entry counts as a reference, and its inode number is x
abbrev pub refers : ℕ → RoledEntry → Bool
refers x e = is_counted e.role && (e.entry.number == x)

-- how many entries refer to x in the directories whose numbers are below s
unfoldable pub references_below : (vol : Volume) (x s : ℕ) → ℕ
references_below vol x zero = 0
references_below vol x (suc s) =
    references_below vol x s + (if is_dir vol s then count_by (refers x) (roled_entries vol s) else 0)

-- how many references there are to x: its right count of links
abbrev pub references : Volume → ℕ → ℕ
references vol x = references_below vol x vol.count
