-- What a workspace shows, and what is read of directories, is the volume's.
use Rattle.std.proofs.Common.{◌≡◌, ◌≤◌, refl, sym, ap, ◌∙◌, ℕ, true, false, ◌==◌, List, length, Option, Some, None}
use Rattle.std.{proofs.Common.{arith, ne_eqb, slice_index}, specs.{Option.unwrap_or, List.flat_map}}
use Rattle.ffs_volume.specs.declared.{Layout.Layout, Class.{Class, TheVariants.{Partial, File, Dir}}, Inode.Inode}
use Rattle.ffs_volume.specs.Blocks.Inodes.{is_file_or_dir, is_allocated, is_unknown, inode_of, inodes_of}
use Rattle.ffs_volume.specs.{Blocks.Steps.steps_of, Laws.Geometry.IsAcceptedLayout, Directories.Climb.is_value}
use Rattle.ffs_volume.{proofs.CutLaws.replay_at, specs.Directories.{Entries.{Chunk, has_gap}, Roles.roled_chunk}}
use Rattle.ffs_volume.specs.Directories.{Roles.roled_entries, Volumes.{volume_of, volume_with, is_inode_number}}
use Rattle.ffs_volume.specs.{Directories.Volumes.chunk_source_of, Encodings.Replay.{cut_at, fresh_replay}}
use Rattle.ffs_volume.specs.Encodings.{Replay.replayed_steps, Notes.cut_in}
use Rattle.ffs_workspace.specs.{declared.workspace.Workspace.Workspace, Holds.{HoldsBlockCheck, HoldsSurvey}}
use Rattle.ffs_workspace.proofs.{KindLaws.{reports_at, dir_is, suspect_is, type_is, class_is}, NoteLaws.cut_is_noted}
use Rattle.ffs_names.specs.Readings.{chunks_in}
use Rattle.ffs_pathnames.specs.{declared.inodes.Inodes.Inodes, Sees.Sees}

-- ---- what a workspace shows
pub settled : (c : Class) → is_allocated c ≡ true → is_unknown c ≡ false → is_file_or_dir c ≡ true
settled Dir a u = refl
settled File a u = refl
settled c a u = absurd (cc)

whole : (c : Class) → is_allocated c ≡ true → c ≡ Partial → ⊥
whole c a e = let no_way : false ≡ true = sym (ap is_allocated e) ∙ a in cc

-- 0 means no parent
parent_number : (o : Option ℕ) (s : ℕ) → 2 ≤ s → is_value o s ≡ (unwrap_or o 0 == s)
parent_number None s h = sym (ne_eqb 0 s (λ e. absurd (omega (arith, e))))
parent_number (Some p) s h = refl

-- the lists of a workspace
pub record Shows (v : Layout) (w : Workspace) (i : Inodes) : Type 0 where
  pub kinds : i.kinds.now ≡ w.kinds.items
  pub marked : i.marked.now.items ≡ w.marked.items
  pub parents : i.parents.now ≡ w.parents
  pub count : length i.kinds.now ≡ inodes_of v

pub sees : (v : Layout) (b : List ℕ) (w : Workspace) (i : Inodes) → Shows v w i → HoldsBlockCheck v b w
    → HoldsSurvey v b w
    → Sees (volume_of v b) i
unfolding volume_of volume_with
sees v b w i s h r =
    let reports = reports_at v b in
    grind (arith, dir_is, suspect_is, type_is, settled, class_is, whole, parent_number)

-- ---- the chunks that are read
-- those of an inode with this cut (`chunks_in`), as a name that proofs here don't look into
unfoldable pub chunks_read : Layout → Inode → ℕ → List ℕ → List Chunk
chunks_read v i cut b = chunks_in v b i cut

-- the cut that is noted
pub cut_here : {v : Layout} {w : Workspace} {cut : ℕ} {b : List ℕ} (x : ℕ) → IsAcceptedLayout v →
    cut ≡ cut_in (slice_index w.notes.items x) → HoldsBlockCheck v b w → cut ≡ cut_at v b x
cut_here {v = v} {b = b} x sound is h = is ∙ (ap cut_in (h.notes x) ∙ cut_is_noted v b x sound)

pub chunks_are : (v : Layout) (b : List ℕ) (d : ℕ) {i : Inode} {cut : ℕ} → IsAcceptedLayout v →
    is_inode_number v d ≡ true → i ≡ inode_of v b d → cut ≡ cut_at v b d →
    chunks_read v i cut b ≡ (volume_of v b).chunks d
unfolding chunks_read volume_of volume_with chunk_source_of
chunks_are v b d g n e c = rw (e, c, replay_at v b d g n) refl

pub gap_is : (v : Layout) (b : List ℕ) (d : ℕ) {i : Inode} {cut : ℕ} → IsAcceptedLayout v →
    is_inode_number v d ≡ true → i ≡ inode_of v b d → cut ≡ cut_at v b d →
    has_gap (replayed_steps v cut fresh_replay (steps_of v i b)) ≡ (volume_of v b).gap d
unfolding volume_of volume_with
gap_is v b d g n e c = rw (e, c, replay_at v b d g n) refl

pub seen_are : (v : Layout) (b : List ℕ) (d : ℕ) (cs : List Chunk) → cs ≡ (volume_of v b).chunks d →
    flat_map roled_chunk cs ≡ roled_entries (volume_of v b) d
unfolding roled_entries
seen_are v b d cs e = ap (flat_map roled_chunk) e
