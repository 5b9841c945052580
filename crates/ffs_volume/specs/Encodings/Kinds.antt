-- A number for the class of an inode and the type of a file, the *kind* of the inode: it fits four
-- bits. The `kind` of an entry is its type alone.
use Rattle.std.specs.Prelude.{ℕ, Bool, not, ◌||◌, ◌==◌, if◌then◌else◌, List, nat_le, ◌&&◌}
use Rattle.ffs_volume.specs.declared.{constants.TheConstants.{DT_DIR, EMPTY_DIR_KIND, UNKNOWN_KIND}, Layout.Layout}
use Rattle.ffs_volume.specs.declared.{Inode.Inode, Class.{Class, TheVariants.{Free, Partial, Unknown, File, Dir}}}
use Rattle.ffs_volume.specs.{Blocks.Inodes.{inode_of, type_of}, Directories.Volumes.class_at, Encodings.Lists.number_at}

-- 0 where nothing is allocated, and a number of its own for the class Unknown and for a directory
-- of size 0; else the type of the file or directory
abbrev pub kind_of : Class → Inode → ℕ
kind_of Free i = 0
kind_of Partial i = 0
kind_of Unknown i = UNKNOWN_KIND
kind_of Dir i = if i.size == 0 then EMPTY_DIR_KIND else DT_DIR
kind_of File i = type_of i.mode

-- the number for the inode x of an image, and 0 where x is no inode's number
unfoldable pub kind_at : (v : Layout) (image : List ℕ) (x : ℕ) → ℕ
kind_at v image x = kind_of (class_at v image x) (inode_of v image x)

-- the number is one of a directory
abbrev pub is_dir_kind : ℕ → Bool
is_dir_kind k = k == DT_DIR || k == EMPTY_DIR_KIND

-- the number is that of a directory of size 0
abbrev pub is_empty_dir_kind : ℕ → Bool
is_empty_dir_kind k = k == EMPTY_DIR_KIND

-- the number is one of an allocated inode
abbrev pub is_allocated_kind : ℕ → Bool
is_allocated_kind k = not (k == 0)

-- the number is that of the class Unknown
abbrev pub is_unknown_kind : ℕ → Bool
is_unknown_kind k = k == UNKNOWN_KIND

-- the class of a number; Partial comes back as Free
abbrev pub class_of_kind : ℕ → Class
class_of_kind k =
    if k == 0 then Free
    else (if k == UNKNOWN_KIND then Unknown
    else (if is_dir_kind k then Dir
    else File))

-- the type of a file or directory, by its kind
abbrev pub type_of_kind : ℕ → ℕ
type_of_kind k = if is_dir_kind k then DT_DIR else k

-- x is a directory, by a list with a kind for each inode
abbrev pub is_dir_at : List ℕ → ℕ → Bool
is_dir_at kinds x = nat_le 2 x && is_dir_kind (number_at kinds x)
