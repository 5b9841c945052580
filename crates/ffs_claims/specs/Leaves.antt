-- What calls need of a workspace, and what they leave of it as it was.
use Rattle.std.specs.Prelude.{◌≡◌, ◌+◌, ◌<◌, ◌≤◌, ◌||◌, ℕ, Bool, IsTrue, true, min, List, slice_set, vec_len}
use Rattle.ffs_volume.specs.{Blocks.Inodes.is_unknown, Encodings.{Kinds.kind_of, Links.start_of, Replay.cut_of}}
use Rattle.ffs_volume.specs.{declared.{Class.Class, Inode.Inode, Layout.Layout}, Encodings.Notes.note_of}
use Rattle.ffs_volume.specs.Blocks.Claims.{has_blame, is_set}
use Rattle.ffs_maps.specs.Bits.{bits_of}
use Rattle.ffs_workspace.specs.{Holds.claims_of, Lengths.IsFor, declared.workspace.Workspace.Workspace}
use Rattle.ffs_claims.specs.Bounds.{first_step_bound, address_bound}

-- the current inode has no bad Run, no dup offer and no kept one yet, and there is room to count
-- its Runs
pub record HasBegun (w : Workspace) : Type 0 where
  pub bad : w.bad ≡ 0
  pub dup_offers : w.dup_offers ≡ 0
  pub kept : w.kept ≡ 0
  pub runs : w.runs_seen < first_step_bound

-- the workspace was made for the volume, its count of kept offers has room for so many more, and where
-- `known_in_range` says that these are in range, they are (`are_in_range`)
pub record CanOffer (v : Layout) (w : Workspace) (more : ℕ) (known_in_range are_in_range : Bool) : Type 0 where
  pub made : IsFor v w
  pub room : w.kept + more ≤ address_bound
  pub known : IsTrue known_in_range → are_in_range ≡ true

-- each flag that was set is set
pub record StaySet (old new : List Bool) : Type 0 where
  pub flags : (f : ℕ) → is_set old f ≡ true → is_set new f ≡ true

-- what was found of inodes is as it was, and all else but claims, counts and windows. What was used is used, and
-- what had a DUP line has one
pub record SameFound (old new : Workspace) : Type 0 where
  pub only : new ≡ record old {
    used = new.used;
    duplicates = new.duplicates;
    runs_seen = new.runs_seen;
    bad = new.bad;
    dup_offers = new.dup_offers;
    kept = new.kept;
    tail = new.tail;
    windows = new.windows;
  }
  pub used : StaySet (bits_of old.used) (bits_of new.used)
  pub duplicates : StaySet (bits_of old.duplicates) (bits_of new.duplicates)

-- all is as it was but claims and counts, what is found of inodes that claim, and windows. What was used is used,
-- and what had a DUP line has one
pub record ClaimsAndFinds (old new : Workspace) : Type 0 where
  pub only : new ≡ record old {
    used = new.used;
    duplicates = new.duplicates;
    kinds = new.kinds;
    marked = new.marked;
    notes = new.notes;
    references = new.references;
    runs_seen = new.runs_seen;
    bad = new.bad;
    dup_offers = new.dup_offers;
    kept = new.kept;
    tail = new.tail;
    windows = new.windows;
  }
  pub used : StaySet (bits_of old.used) (bits_of new.used)
  pub duplicates : StaySet (bits_of old.duplicates) (bits_of new.duplicates)

-- what claiming leaves: the lists have their lengths, and the windows and what was found are as they were
pub record ClaimsOnly (v : Layout) (old new : Workspace) : Type 0 where
  pub made : IsFor v new
  pub windows : new.windows ≡ old.windows
  pub found : SameFound old new

-- what the offers of a Run leave: what claiming does, and no Run more is seen
pub record OffersOnly (v : Layout) (old new : Workspace) : Type 0 where
  pub claiming : ClaimsOnly v old new
  pub runs : new.runs_seen ≡ old.runs_seen

-- there is a place for what is found of an inode
pub record HasInode (w : Workspace) (number : ℕ) : Type 0 where
  pub kinds : number < vec_len w.kinds
  pub marked : number < vec_len w.marked
  pub notes : number < vec_len w.notes
  pub references : number < vec_len w.references

-- what was found of the current inode is stored
pub record Stored (number : ℕ) (class : Class) (i : Inode) (old new : Workspace) : Type 0 where
  pub kinds : new.kinds.items ≡ slice_set old.kinds.items number (kind_of class i)
  pub marked : new.marked.items ≡ slice_set old.marked.items number (is_unknown class || has_blame (claims_of new))
  pub notes : new.notes.items ≡ slice_set old.notes.items number
      (note_of class i (min (cut_of (claims_of new)) 4294967295))
  pub starts : new.references.items ≡ slice_set old.references.items number (start_of class i)
