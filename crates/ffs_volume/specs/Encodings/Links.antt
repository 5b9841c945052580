-- Where the count of an inode's references starts: at `LINKS_MET`, 32,768, less its count of links.
-- Each reference adds one, so the count ends at 32,768 where there are as many as links. Without a
-- valid number of links it starts at `NO_LINKS`, 32,769: above `LINKS_MET`, so it never ends there.
-- A list of the workspace has these counts, all 0 at first: that of an inode that isn't allocated
-- stays so.
use Rattle.std.specs.Prelude.{ℕ, ◌-◌, ◌&&◌, nat_le, nat_lt, if◌then◌else◌, List, ℤ, pos, negsuc}
use Rattle.ffs_volume.specs.declared.{constants.TheConstants.{LINKS_MET, NO_LINKS}, Layout.Layout, Inode.Inode}
use Rattle.ffs_volume.specs.{declared.Class.Class, Blocks.Inodes.{inode_of, is_allocated}, Directories.Volumes.class_at}

-- the start, by the count of links. A count from 1 to 32,768 is valid. That of an inode is 32,767
-- at most, but the definition takes any number
abbrev pub links_start : ℤ → ℕ
links_start (pos n) = if nat_lt 0 n && nat_le n LINKS_MET then LINKS_MET - n else NO_LINKS
links_start (negsuc n) = NO_LINKS

-- the start for an inode of a class: 0 where it isn't allocated
abbrev pub start_of : Class → Inode → ℕ
start_of class i = if is_allocated class then links_start i.nlink else 0

-- the start for the inode x of an image, and 0 where x is no inode's number
unfoldable pub start_at : (v : Layout) (image : List ℕ) (x : ℕ) → ℕ
start_at v image x = start_of (class_at v image x) (inode_of v image x)
