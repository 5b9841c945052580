-- What a workspace holds between the phases.
use Rattle.std.specs.Prelude.{◌≡◌, ◌==◌, ◌<◌, ◌+◌, ℕ, Bool, false, not, true, List, replicate, slice_index}
use Rattle.std.specs.Option.{unwrap_or}
use Rattle.ffs_volume.specs.Blocks.{BlockCheck.set_count, Claims.{Claims, all_claims}, Inodes.inodes_of}
use Rattle.ffs_volume.specs.{declared.Layout.Layout, Directories.{Graph.{is_named, reached, parent}, Roles.references}}
use Rattle.ffs_volume.specs.Directories.{Naming.graph_of, Volumes.{marked_at, marked_by_phase1_at, volume_of}}
use Rattle.ffs_volume.specs.Encodings.{Kinds.kind_at, Links.start_at, Places.AreParts, Notes.note_at}
use Rattle.ffs_workspace.specs.declared.workspace.Workspace.{Workspace}
use Rattle.ffs_maps.specs.Bits.{bits_of}
pub use Rattle.ffs_volume.specs.Encodings.Lists.{bool_at}

-- the claims that a workspace holds
abbrev pub claims_of : Workspace → Claims
claims_of w = record {
  used = bits_of w.used;
  duplicates = bits_of w.duplicates;
  runs = w.runs_seen;
  bad = w.bad;
  dup_offers = w.dup_offers;
  kept = w.kept;
  tail = w.tail;
}

-- some fragment has a DUP line, and its first kept offer isn't reported yet
abbrev pub has_unreported_dups : Workspace → Bool
has_unreported_dups w = not (set_count (bits_of w.duplicates) == 0)

-- nothing is claimed, dup, counted, noted or marked yet
pub record IsFresh (v : Layout) (w : Workspace) : Type 0 where
  pub used : bits_of w.used ≡ replicate v.size false
  pub duplicates : bits_of w.duplicates ≡ replicate v.size false
  pub kinds : w.kinds.items ≡ replicate (inodes_of v) 0
  pub marked : w.marked.items ≡ replicate (inodes_of v) false
  pub notes : w.notes.items ≡ replicate (inodes_of v) 0
  pub references : w.references.items ≡ replicate (inodes_of v) 0

-- what phase 1 leaves: the fragments that are reserved or claimed, those with a DUP line, and for each
-- inode its kind, whether it is marked so far, what is noted of it, and where its count of references
-- starts. Nothing is surveyed yet
pub record HoldsPhase1 (v : Layout) (image : List ℕ) (w : Workspace) : Type 0 where
  pub used : bits_of w.used ≡ (all_claims v image).used
  pub duplicates : bits_of w.duplicates ≡ (all_claims v image).duplicates
  pub kinds : (x : ℕ) → slice_index w.kinds.items x ≡ kind_at v image x
  pub marked : (x : ℕ) → bool_at w.marked.items x ≡ marked_by_phase1_at v image x
  pub notes : (x : ℕ) → slice_index w.notes.items x ≡ note_at v image x
  pub starts : (x : ℕ) → slice_index w.references.items x ≡ start_at v image x
  pub unsurveyed : w.surveyed ≡ false

-- what the survey leaves: how often each inode is referred to, counted on from its start
pub record HoldsReferences (v : Layout) (image : List ℕ) (w : Workspace) : Type 0 where
  pub counts : (x : ℕ) → x < inodes_of v
      → slice_index w.references.items x ≡ start_at v image x + references (volume_of v image) x

-- what the survey leaves of each inode: whether a plain entry names it, whether it is reached from the
-- root, and its parent, or 0 for none
pub record HoldsTree (v : Layout) (image : List ℕ) (w : Workspace) : Type 0 where
  pub named : (x : ℕ) → x < inodes_of v → bool_at w.named.items x ≡ is_named (graph_of (volume_of v image)) x
  pub reached : (x : ℕ) → bool_at w.reached.items x ≡ reached (graph_of (volume_of v image)) x
  pub parents : (x : ℕ) → slice_index w.parents.items x ≡ unwrap_or (parent (graph_of (volume_of v image)) x) 0

-- the tree that the survey found, and each place that was noted since in `words` is that of a parent
-- entry. How often inodes are referred to is apart (`HoldsReferences`): phase 3 doesn't ask it
pub record HoldsSurvey (v : Layout) (image : List ℕ) (w : Workspace) : Type 0 where
  pub tree : HoldsTree v image w
  pub places : AreParts v image w.words.items

-- before the survey each count of references is where it starts; what the survey has found stays,
-- so that a second one needn't count again
unfoldable pub HoldsCounts : Layout → (image : List ℕ) → Workspace → Type 0
HoldsCounts v image w = (w.surveyed ≡ false → (x : ℕ) → slice_index w.references.items x ≡ start_at v image x)
    × (w.surveyed ≡ true → HoldsReferences v image w × HoldsTree v image w)

-- what phases 1 and 1b leave, and all phases after them keep: the fragments that are reserved or
-- claimed, and for each inode its kind, whether it is marked, what is noted of it, and how often it is
-- referred to, as far as that is counted
pub record HoldsBlockCheck (v : Layout) (image : List ℕ) (w : Workspace) : Type 0 where
  pub used : bits_of w.used ≡ (all_claims v image).used
  pub kinds : (x : ℕ) → slice_index w.kinds.items x ≡ kind_at v image x
  pub marked : (x : ℕ) → bool_at w.marked.items x ≡ marked_at v image x
  pub notes : (x : ℕ) → slice_index w.notes.items x ≡ note_at v image x
  pub counts : HoldsCounts v image w

-- what the block check and the survey leave, with the counts of references
pub record HoldsFindings (v : Layout) (image : List ℕ) (w : Workspace) : Type 0 where
  pub block_check : HoldsBlockCheck v image w
  pub survey : HoldsSurvey v image w
  pub references : HoldsReferences v image w
