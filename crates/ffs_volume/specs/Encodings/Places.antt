-- Where the parent entry of a directory is in the image, as a word of 32 bits notes it. Its low 31
-- bits note the part of the image that has the entry: 0 where none is noted, else 1 more than the
-- number of the part. A part is a chunk of 512 bytes, in a volume of less than 2^40 bytes, and
-- in a larger one a fragment: so 31 bits have room for the number of each. The top bit says that the
-- entry is due: the first look at the parent has met it, and the second reading, if there is one,
-- has not passed it yet.
use Rattle.std.specs.Prelude.{◌≡◌, ℕ, suc, ◌+◌, ◌-◌, ◌*◌, ◌/◌, ◌^◌, ◌≤◌, Bool, false, true, not, nat_le, nat_lt, List}
use Rattle.std.specs.{Prelude.{if◌then◌else◌, slice_index, Some, option_and_then}, List.{flat_map, list_any, range_with_len}}
use Rattle.ffs_volume.specs.{declared.{constants.TheConstants.DIRBLKSIZ, Layout.Layout, Order.Order}, Disk.Numbers.piece}
use Rattle.ffs_volume.specs.Directories.{Entries.entries_of, Graph.{is_naming_entry, first_index, level, parent}}
use Rattle.ffs_volume.specs.Directories.{Naming.{graph_of, nth_roled}, Paths.name_of, Roles.RoledEntry}
use Rattle.ffs_volume.specs.Directories.{Roles.{roled_entries, roled_from}, Volumes.volume_of}

-- the part that a word notes: 0 for none, else 1 more than its number
abbrev pub part_in : ℕ → ℕ
part_in word = if nat_lt word (2 ^ 31) then word else word - 2 ^ 31

-- the parent entry is due: a first look has met it, and no second reading has passed it
abbrev pub is_due : ℕ → Bool
is_due word = not (nat_lt word (2 ^ 31))

-- a word with the same part, whose parent entry is due just where `due_now` says so
pub record KeepsPart (due_now : Bool) (old new : ℕ) : Type 0 where
  pub due : is_due new ≡ due_now
  pub part : part_in new ≡ part_in old

-- how many bytes a part of the image has: a chunk's where 31 bits have room for the number of each
-- chunk of the volume, and else a fragment's
unfoldable pub part_size : Layout → ℕ
part_size v = if nat_le (v.size * v.fsize) (DIRBLKSIZ * (2 ^ 31 - 1)) then DIRBLKSIZ else v.fsize

-- the name of the first plain entry that names an inode, empty if there is none
abbrev pub name_in : ℕ → List RoledEntry → List ℕ
name_in d es = name_of (option_and_then (nth_roled es) (first_index (is_naming_entry d) es))

-- the entries of a chunk with these bytes. Whether an entry is plain doesn't depend on where the
-- chunk is in the file
abbrev pub entries_in_chunk : Order → List ℕ → List RoledEntry
entries_in_chunk order bytes = roled_from false 0 (entries_of order bytes)

-- the entries of so many chunks, one after another
abbrev pub entries_in_chunks : Order → (count : ℕ) → List ℕ → List RoledEntry
entries_in_chunks order count bytes =
    flat_map (λ i. entries_in_chunk order (piece (DIRBLKSIZ * i) DIRBLKSIZ bytes)) (range_with_len 0 count)

-- the entries of the part k of an image
abbrev pub entries_in_part : Layout → List ℕ → ℕ → List RoledEntry
entries_in_part v b k =
    entries_in_chunks v.order (part_size v / DIRBLKSIZ) (piece (part_size v * k) (part_size v) b)

-- the first plain entry in the part k that names x has the name of the first one of the directory p
abbrev pub IsPartOf : Layout → List ℕ → (p x k : ℕ) → Type 0
IsPartOf v b p x k = name_in x (entries_in_part v b k) ≡ name_in x (roled_entries (volume_of v b) p)

-- each part that is noted of a directory has its parent entry
abbrev pub AreParts : Layout → List ℕ → (words : List ℕ) → Type 0
AreParts v b words = (x p k : ℕ) → part_in (slice_index words x) ≡ suc k
    → parent (graph_of (volume_of v b)) x ≡ Some p → IsPartOf v b p x k

-- a place is noted of x: a part of the volume in which a plain entry names it
pub record PlaceIsNoted (v : Layout) (b words : List ℕ) (x : ℕ) : Type 0 where
  pub part : ℕ
  pub place : part_in (slice_index words x) ≡ suc part
  pub inside : part_size v * part + part_size v ≤ v.size * v.fsize
  pub named : list_any (is_naming_entry x) (entries_in_part v b part) ≡ true

-- a place is noted of each directory that is reached from the root and isn't the root
abbrev pub PlacesAreNoted : Layout → List ℕ → (words : List ℕ) → Type 0
PlacesAreNoted v b words = (x k : ℕ) → level (graph_of (volume_of v b)) x ≡ Some (suc k) → PlaceIsNoted v b words x
