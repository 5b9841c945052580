-- What a look at an entry, and at those of a chunk, finds.
use Rattle.std.specs.{Prelude.{◌≡◌, ℕ, List}, declared.{alloc.Global.Global, vec.Vec.Vec}}
use Rattle.ffs_volume.specs.{declared.Order.Order, Directories.{Entries.entries_of, Roles.RoledEntry}}
use Rattle.ffs_volume.specs.Directories.Roles.{Volume, roled_from}
use Rattle.ffs_pathnames.specs.declared.{look.DirectoryChunk.DirectoryChunk, inodes.Inodes.Inodes}
use Rattle.ffs_pathnames.specs.{PassedNames.after_looks, Sees.{Sees, stamps_in}, Stamps.KeepsWords}

-- the entries of a chunk with their roles
abbrev pub roled_in : Order → DirectoryChunk → List RoledEntry
roled_in order c = roled_from c.at_start 0 (entries_of order c.bytes.now)

-- each inode that one of these entries names is stamped where it belongs to the directory `dir`, by the words
-- before and after, which note the same places
pub record StampsEntries (inodes : Inodes) (dir : ℕ) (es : List RoledEntry) (old new : Vec ℕ Global) : Type 0 where
  pub after : (vol : Volume) → Sees vol inodes
      → stamps_in inodes new.items ≡ after_looks vol dir (stamps_in inodes old.items) es
  pub words : KeepsWords old new
