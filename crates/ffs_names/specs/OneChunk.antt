-- A directory of one chunk at an address.
use Rattle.std.specs.Prelude.{ℕ, ◌*◌, ◌∷◌, ◌==◌, ◌&&◌, Bool, not, replicate, pos}
use Rattle.ffs_volume.specs.declared.{constants.TheConstants.{DT_DIR, DIRBLKSIZ}, Inode.Inode, Layout.Layout}
use Rattle.ffs_volume.specs.Disk.Areas.{is_run_in_range}

-- its inode, as far as a reading of its entries asks for it
abbrev pub one_chunk_at : ℕ → Inode
one_chunk_at address = record {
  mode = DT_DIR * 4096;
  nlink = pos 0;
  size = DIRBLKSIZ;
  mtime = pos 0;
  addresses = address ∷ replicate 14 0;
  blocks = 0;
  uid = 0;
}

-- the chunk is read: its address is no hole, and in range
abbrev pub has_chunk_at : Layout → ℕ → Bool
has_chunk_at v address = not (address == 0) && is_run_in_range v address 1
