-- What a workspace notes of an inode, in 32 bits: its cut, which is how many offers it keeps, if its
-- eleventh dup offer cut it; where its cut is 0 and it is a directory of one chunk, `first_noted` plus
-- that chunk's address, so that the survey needn't read the inode again; else 0.
use Rattle.std.specs.Prelude.{ℕ, Bool, ◌+◌, ◌-◌, ◌^◌, ◌&&◌, ◌==◌, nat_lt, if◌then◌else◌, List, slice_index}
use Rattle.ffs_volume.specs.declared.{Layout.Layout, Inode.Inode, Class.Class, constants.TheConstants.DIRBLKSIZ}
use Rattle.ffs_volume.specs.{Blocks.Inodes.{inode_of, is_directory}, Directories.Volumes.class_at}
use Rattle.ffs_volume.specs.Encodings.Replay.{cut_at}

-- notes from this number on are addresses, from 0 on. No inode keeps so many offers, since each one
-- that it keeps is of one of three kinds: it claims a fragment that was unused (fewer than 2^31), it
-- is in a bad Run (at most 8 in each of at most eleven), or it is a dup offer (at most eleven). So
-- there are fewer than 2^31 + 99 (`ClaimBound` of `Laws/ClaimBounds`); 128 is the next power of two
abbrev pub first_noted : ℕ
first_noted = 2 ^ 31 + 128

-- only addresses below this one are noted: first_noted plus an address is then below 2^32
abbrev pub noted_below : ℕ
noted_below = 2 ^ 31 - 128

-- a directory of the size of one chunk, at an address that can be noted
abbrev pub has_one_chunk : Class → Inode → Bool
has_one_chunk class i = is_directory class && ((i.size == DIRBLKSIZ) && nat_lt (slice_index i.addresses 0) noted_below)

-- the note of an inode of a class, and with this cut
abbrev pub note_of : Class → Inode → ℕ → ℕ
note_of class i cut = if (cut == 0) && has_one_chunk class i then first_noted + slice_index i.addresses 0 else cut

-- the note of the inode x of an image, and 0 where x is no inode's number
unfoldable pub note_at : (v : Layout) (image : List ℕ) (x : ℕ) → ℕ
note_at v image x = note_of (class_at v image x) (inode_of v image x) (cut_at v image x)

-- the cut that a note says
abbrev pub cut_in : ℕ → ℕ
cut_in note = if nat_lt note first_noted then note else 0
