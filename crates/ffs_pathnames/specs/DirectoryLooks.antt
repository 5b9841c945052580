-- What a look at a directory finds, how often it reads for it, and what of a workspace stays.
use Rattle.std.specs.{Prelude.{◌≡◌, ◌+◌, ◌≤◌, ℕ, ◌==◌, IfOk, List, [], Result}, List.find}
use Rattle.ffs_workspace.specs.{Moments.WorkMoment, declared.workspace.Workspace.Workspace, Leaves.LeavesSurvey}
use Rattle.ffs_workspace.specs.Ready.{CanRead}
use Rattle.ffs_image.specs.{Reads.ReadAfter, declared.image.ImageFault.ImageFault, Known.ForBytes}
use Rattle.ffs_volume.specs.{declared.Layout.Layout, Blocks.Inodes.inode_of, Directories.Roles.roled_entries}
use Rattle.ffs_volume.specs.Directories.{PathnameCheck.are_sound, Volumes.volume_of}
use Rattle.ffs_pathnames.specs.{declared.look.{ChunksLook.ChunksLook, FirstLook.FirstLook}, Sees.passed_of}
use Rattle.ffs_pathnames.specs.{PassedNames.{are_quiet, after_looks}, StartChunks.start_chunk, Stamps.KeepParts}

-- a call leaves what the phases before the pathname check left, the flags, and the places that words note
pub record LeavesAllButDue (old new : Workspace) : Type 0 where
  pub survey : LeavesSurvey old new
  pub flags : new.flags ≡ old.flags
  pub places : KeepParts old.words.items new.words.items

-- what the first look at a directory leaves: the image, but for a read that failed, and all of the
-- workspace but its windows and which words are due
pub record LookLeaves {T : Type 0} (v : Layout) (old new : WorkMoment) (result : Result T ImageFault) :
    Type 0 where
  pub lists : LeavesAllButDue old.workspace new.workspace
  pub ready : CanRead v new.image new.workspace
  pub read : ReadAfter old.image new.image result

-- what a look at all chunks of the directory `dir` finds: whether a Gap of it is kept, whether its chunks are
-- sound, the chunk at the start of the file, and whether it is sure that nothing is reported of its entries
pub record IsChunksLook (v : Layout) (b : List ℕ) (dir : ℕ) (old : Workspace) (look : ChunksLook) (start : List ℕ) :
    Type 0 where
  pub gap : look.gap ≡ (volume_of v b).gap dir
  pub sound : look.sound ≡ are_sound ((volume_of v b).chunks dir)
  pub started : find (λ c. c.offset == 0) ((volume_of v b).chunks dir) ≡ start_chunk [] look.started v.order start
  pub quiet : look.quiet ≡ are_quiet (volume_of v b) dir old.flags.items (passed_of old).stamps
      (roled_entries (volume_of v b) dir)

-- what a first look at it finds: the same, and its inode, which is the image's
pub record IsFirstLook (v : Layout) (b : List ℕ) (dir : ℕ) (old : Workspace) (f : FirstLook) (start : List ℕ) :
    Type 0 where
  pub inode : f.inode ≡ inode_of v b dir
  pub chunks : IsChunksLook v b dir old f.chunks start

-- each inode that belongs to the directory `dir` is stamped
abbrev pub StampsOwn : Layout → (b : List ℕ) → (dir : ℕ) → (old new : Workspace) → Type 0
StampsOwn v b dir old new = (passed_of new).stamps
    ≡ after_looks (volume_of v b) dir (passed_of old).stamps (roled_entries (volume_of v b) dir)

-- a look at a directory finds what `finds` says, by what is known of the bytes, and leaves all but the
-- windows and which words are due
pub record LooksAt {T : Type 0} (v : Layout) (knows : List ℕ → Type 0) (finds : T → List ℕ → Type 0)
    (old new : WorkMoment) (result : Result T ImageFault) : Type 0 where
  pub found : IfOk result (λ x. ForBytes knows (finds x))
  pub leaves : LookLeaves v old new result

-- a look takes its reads of those that are left: `cost` at most, by what is known of the bytes, and no more
-- than are left, of any image
pub record TakesLook (knows : List ℕ → Type 0) (cost : List ℕ → ℕ) (before after left left' : ℕ) : Type 0 where
  pub reads : ForBytes knows (λ b. after ≤ before + cost b)
  pub spends : ForBytes knows (λ b. left ≤ left' + cost b)
  pub most : after + left' ≤ before + left
