-- What is noted of a directory says how a reading of it begins: at its only chunk, or with its cut.
use Rattle.std.proofs.Common.{◌≡◌, ◌∙◌, ◌+◌, ◌<◌, ◌^◌, ℕ, true, not, ◌&&◌, List, ap, arith, flat_map, refl, sym}
use Rattle.ffs_image.specs.Device.{Device}
use Rattle.ffs_volume.specs.{declared.{Class.TheVariants.Dir, Inode.Inode, Layout.Layout}, Blocks.Inodes.class_of}
use Rattle.ffs_volume.specs.{Blocks.{Inodes.inode_of, Steps.steps_of}, Directories.Entries.has_gap}
use Rattle.ffs_volume.specs.Directories.{PathnameCheck.are_sound, Roles.{is_dir, roled_chunk, roled_entries}}
use Rattle.ffs_volume.specs.{Directories.Volumes.volume_of, Encodings.Replay.{fresh_replay, replayed_steps}}
use Rattle.ffs_volume.specs.{Encodings.{ReplayCounts.replayed_runs, Notes.cut_in}, Laws.Geometry.IsAcceptedLayout}
use Rattle.ffs_volume.specs.{Encodings.Notes.{first_noted, note_at}, Costs.DirectoryReads.directory_runs}
use Rattle.ffs_volume.specs.Costs.Calm.{is_right_shape, is_right_size}
use Rattle.ffs_workspace.proofs.NoteLaws.{cut_is_noted, address_is_noted, address_is_whole, IsOneChunkAt}
use Rattle.ffs_workspace.specs.{Tables.TableHolds, declared.{table.Table.Table, workspace.Windows.Windows}}
use Rattle.ffs_names.specs.{OneChunk.one_chunk_at, Readers.IsReaderReady, Readings.chunks_in}
use Rattle.ffs_names.proofs.{DirCosts.runs_are, DirLaws.{dir_is, dir_size, dir_seen, shape_seen}, OneChunks.entries_by}
use Rattle.ffs_names.proofs.OneChunks.{one_chunk_class, one_chunk_is, shape_by}

-- a reading of this inode with this cut gives what the volume has of the directory d
pub record IsReadAs (v : Layout) (b : List ℕ) (d : ℕ) (i : Inode) (cut : ℕ) : Type 0 where
  pub is_dir : class_of v i ≡ Dir
  pub small : i.size < 2 ^ 31
  pub entries : flat_map roled_chunk (chunks_in v b i cut) ≡ roled_entries (volume_of v b) d
  pub shape : (is_right_size i.size && (are_sound (chunks_in v b i cut)
      && not (has_gap (replayed_steps v cut fresh_replay (steps_of v i b))))) ≡ is_right_shape (volume_of v b) d
  pub runs : replayed_runs v cut fresh_replay (steps_of v i b) ≡ directory_runs v b d

pub read_by_chunk : (v : Layout) (b : List ℕ) (d a : ℕ) → IsAcceptedLayout v → is_dir (volume_of v b) d ≡ true →
    note_at v b d ≡ first_noted + a → IsReadAs v b d (one_chunk_at a) 0
read_by_chunk v b d a g dir noted =
    let i = inode_of v b d in
    let is = dir_is v b d dir in
    let at = address_is_noted v b d a g noted in
    let one : IsOneChunkAt (class_of v i) i a = record { is_dir = is.1; size = at.size; address_is = at.address_is } in
    let whole = sym (address_is_whole v b d a g noted) in
    record {
      is_dir = one_chunk_class v a g;
      small = omega arith;
      entries = one_chunk_is v i b a (entries_by v b) g one ∙ dir_seen v b d i 0 g is.0 refl whole;
      shape = one_chunk_is v i b a (shape_by v b) g one ∙ shape_seen v b d i 0 g is.0 refl whole;
      runs = one_chunk_is v i b a (λ size steps. replayed_runs v 0 fresh_replay steps) g one
          ∙ runs_are v b d i 0 refl whole;
    }

pub read_by_cut : (v : Layout) (b : List ℕ) (d : ℕ) {i : Inode} {note cut : ℕ} → IsAcceptedLayout v →
    is_dir (volume_of v b) d ≡ true → i ≡ inode_of v b d → note ≡ note_at v b d → cut ≡ cut_in note → IsReadAs v b d i cut
read_by_cut v b d {i = i} {cut = cut} g dir inode noted is_cut =
    let is = dir_is v b d dir in
    let same = is_cut ∙ (ap cut_in noted ∙ cut_is_noted v b d g) in
    record {
      is_dir = ap (class_of v) inode ∙ is.1;
      small = rw inode (dir_size v (inode_of v b d) is.1);
      entries = dir_seen v b d i cut g is.0 inode same;
      shape = shape_seen v b d i cut g is.0 inode same;
      runs = runs_are v b d i cut inode same;
    }

-- a reader stays ready where an inode was read, or couldn't be
pub ready_read : {v : Layout} {d d' : Device} {w : Windows} {table : Table} {kinds notes : List ℕ} →
    d'.contents ≡ d.contents → d'.size ≡ d.size → TableHolds v d'.contents table →
    IsReaderReady v d w kinds notes → IsReaderReady v d' (record w { table = table }) kinds notes
ready_read e size kept r = grind arith
