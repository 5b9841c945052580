-- What chunks of a directory p note of the places of parent entries. Words are as in the book's
-- `Encodings/Places`, but the bit that says later that the parent entry of a directory is due
-- (`is_due`) says here that the directory is a parent whose chunks are to be read (`is_to_be_read`).
use Rattle.std.specs.Prelude.{◌≡◌, ◌⊎◌, ℕ, suc, ◌<◌, ◌≤◌, ◌^◌, ◌==◌, Bool, true, false, not, ◌&&◌, if◌then◌else◌, List}
use Rattle.std.specs.{Prelude.{◌+◌, nat_lt, slice_index, length, vec_len, OnOk, Result}, List.list_any}
use Rattle.std.specs.declared.{alloc.Global.Global, vec.Vec.Vec}
use Rattle.ffs_workspace.specs.{Moments.WorkMoment, Holds.HoldsSurvey, Ready.CanRead}
use Rattle.ffs_workspace.specs.declared.workspace.{Windows.Windows, Workspace.Workspace}
use Rattle.ffs_image.specs.{Device.{Device, ForContents}, Reads.ReadAfter, declared.image.ImageFault.ImageFault}
use Rattle.ffs_image.specs.declared.image.Image.{Ghosts}
use Rattle.ffs_volume.specs.declared.{constants.TheConstants.ROOTINO, Layout.Layout}
use Rattle.ffs_volume.specs.Directories.{Graph.is_naming_entry, Roles.{RoledEntry, roled_entries}, Volumes.volume_of}
use Rattle.ffs_volume.specs.{Disk.Search.some_below, Encodings.Lists.bool_at, Blocks.Inodes.inodes_of}
use Rattle.ffs_volume.specs.{Costs.DirectoryReads.{costs_below, noted_directory_cost}, Encodings.Places.entries_in_part}
use Rattle.ffs_volume.specs.Encodings.Places.{is_due as is_to_be_read, name_in, part_in, PlacesAreNoted, PlaceIsNoted}
use Rattle.ffs_names.specs.{Costs.{to_read, HoldsReading}, Windows.CanReadChunks, declared.chunks.Chunks.Chunks}

-- a place that isn't 0 and has 31 bits can be noted for children of p, which isn't 0, by lists of one
-- length
pub record CanNote (parents words : Vec ℕ Global) (p place : ℕ) : Type 0 where
  pub dir : 0 < p
  pub some : 0 < place
  pub small : place < 2 ^ 31
  pub long : vec_len parents ≡ vec_len words

-- a moment at which chunks of a directory are noted: the image, how often it was read by then, its windows,
-- the reading of the chunks, and the words that have the places
pub record NotingMoment : Type 0 where
  pub image : Device
  pub reads : ℕ
  pub windows : Windows
  pub chunks : Chunks
  pub words : Vec ℕ Global

-- the moment at which these are so. I is what the type of the image gives to contracts: I.Image in a contract
abbrev pub noting_moment : {S : Type 0} → Ghosts S → S → Windows → Chunks → Vec ℕ Global → NotingMoment
noting_moment I image windows chunks words =
    record { image = I.device image; reads = I.reads image; windows = windows; chunks = chunks; words = words }

-- the chunks of p can be read, of which none was given yet, and noted
pub record CanNoteChunks (parents : Vec ℕ Global) (p : ℕ) (m : NotingMoment) : Type 0 where
  pub ready : CanReadChunks m.chunks.walk.geometry.layout m.image m.windows.blocks m.windows.current
  pub first : m.chunks.run_cursor.next ≡ 0
  pub dir : 0 < p
  pub lengths : vec_len parents ≡ vec_len m.words

-- the chunks of an inode of the volume can be read and noted
pub record CanNoteDirectory (v : Layout) (d : Device) (w : Workspace) (p : ℕ) : Type 0 where
  pub dir : (0 < p) × (p < inodes_of v)
  pub ready : CanRead v d w

-- p is the parent of x. The root has no parent entry
abbrev pub is_child_of : (parents : List ℕ) (p x : ℕ) → Bool
is_child_of parents p x = (slice_index parents x == p) && not (x == ROOTINO)

-- p is the parent of x, of which no place is noted yet, and some entries have a plain one that names x
abbrev pub is_found : (parents words : List ℕ) (p : ℕ) → List RoledEntry → (x : ℕ) → Bool
is_found parents words p es x =
    is_child_of parents p x && ((part_in (slice_index words x) == 0) && list_any (is_naming_entry x) es)

-- what is to be read stays so
abbrev pub KeepsToRead : (old new : List ℕ) → Type 0
KeepsToRead old new = (x : ℕ) → is_to_be_read (slice_index new x) ≡ is_to_be_read (slice_index old x)

-- the place of a chunk of p with these entries is noted of each inode that is found in it, and of no other
pub record NotesChunk (parents old new : List ℕ) (p place : ℕ) (es : List RoledEntry) : Type 0 where
  pub places : (x : ℕ) → part_in (slice_index new x)
      ≡ (if is_found parents old p es x then place else part_in (slice_index old x))
  pub to_read : KeepsToRead old new

-- the place is noted as in `NotesChunk`, and there are as many words as before
pub record NotesInWords (parents old new : Vec ℕ Global) (p place : ℕ) (es : List RoledEntry) : Type 0 where
  pub noted : NotesChunk parents.items old.items new.items p place es
  pub long : vec_len new ≡ vec_len old

-- places are noted by the entries es of a directory: of each place that is noted anew the first plain entry of
-- the part that names the inode has the name of the first one of es
abbrev pub NotesRight : (v : Layout) (b : List ℕ) (es : List RoledEntry) (old new : List ℕ) → Type 0
NotesRight v b es old new = (x k : ℕ) → part_in (slice_index new x) ≡ suc k → (part_in (slice_index old x) ≡ suc k)
    ⊎ (name_in x (entries_in_part v b k) ≡ name_in x es)

-- a place is noted of each child that a plain one of these entries names, if none or a right one was noted before
abbrev pub NotesEach : (v : Layout) (b : List ℕ) (child : ℕ → Bool) (es : List RoledEntry) (old new : List ℕ) → Type 0
NotesEach v b child es old new = (x : ℕ) → child x ≡ true → list_any (is_naming_entry x) es ≡ true →
    (part_in (slice_index old x) ≡ 0) ⊎ PlaceIsNoted v b old x → PlaceIsNoted v b new x

-- no place of an inode with another parent is noted, and what is to be read stays so
pub record NotesChildren (parents old new : List ℕ) (p : ℕ) : Type 0 where
  pub others : (x : ℕ) → is_child_of parents p x ≡ false → part_in (slice_index new x) ≡ part_in (slice_index old x)
  pub to_read : KeepsToRead old new

-- places of the entries of the directory p are noted, those of all where no read failed, and the image was read
-- at most as often as the directory asks for
pub record NotesDirectory {T : Type 0} (v : Layout) (b : List ℕ) (p : ℕ) (old new : WorkMoment)
    (result : Result T ImageFault) : Type 0 where
  pub right : NotesRight v b (roled_entries (volume_of v b) p) old.workspace.words.items new.workspace.words.items
  pub each : OnOk result (NotesEach v b (is_child_of old.workspace.parents.items p) (roled_entries (volume_of v b) p)
      old.workspace.words.items new.workspace.words.items)
  pub counted : new.reads ≤ old.reads + noted_directory_cost v b p

-- p is the parent of a reached inode with a number greater than the root's
pub record IsParent (reached : List Bool) (parents : List ℕ) (p : ℕ) : Type 0 where
  pub child : ℕ
  pub after_root : ROOTINO < child
  pub is_reached : bool_at reached child ≡ true
  pub parent_is : slice_index parents child ≡ p
  pub from_root : ROOTINO ≤ p

-- whether d is a parent by these lists, of a reached inode with a number greater than the root's
abbrev pub has_child : (reached : List Bool) (parents : List ℕ) → (d : ℕ) → Bool
has_child reached parents d =
    some_below (λ x. nat_lt ROOTINO x && (bool_at reached x && (slice_index parents x == d))) (length parents)

-- at most how many reads the parents of reached inodes take in a sweep, by what the workspace has
abbrev pub parents_sweep_cost : Layout → List ℕ → Workspace → ℕ
parents_sweep_cost v b w =
    costs_below (has_child w.reached.items w.parents.items) (noted_directory_cost v b) (inodes_of v)

-- a word for each inode: no place is noted, no number below the root's is to be read, the parent of each
-- reached inode with a number greater than the root's is to be read, and only parents of such inodes are
pub record BeginsNotes (reached : List Bool) (parents : List ℕ) (words : Vec ℕ Global) : Type 0 where
  pub long : vec_len words ≡ length reached
  pub none : (x : ℕ) → part_in (slice_index words.items x) ≡ 0
  pub low : (x : ℕ) → x < ROOTINO → is_to_be_read (slice_index words.items x) ≡ false
  pub to_read : (x : ℕ) → ROOTINO < x → x < length reached → bool_at reached x ≡ true → ROOTINO ≤ slice_index parents x
      → slice_index parents x < length reached → is_to_be_read (slice_index words.items (slice_index parents x)) ≡ true
  pub only : (p : ℕ) → is_to_be_read (slice_index words.items p) ≡ true → IsParent reached parents p

-- what the survey found is held with the places, and a place is noted of each directory that is
-- reached and isn't the root
pub record HoldsPlaces (v : Layout) (b : List ℕ) (w : Workspace) : Type 0 where
  pub survey : HoldsSurvey v b w
  pub noted : PlacesAreNoted v b w.words.items

-- what a call leaves that notes the chunks of p that are to come: the other windows are as they were, only
-- children of p are noted, in as many words, and the image is read at most as often as these chunks ask for
pub record NotingChunksLeaves {T : Type 0} (parents : Vec ℕ Global) (p : ℕ) (old new : NotingMoment)
    (result : Result T ImageFault) : Type 0 where
  pub geometry : new.chunks.walk.geometry ≡ old.chunks.walk.geometry
  pub ready : CanReadChunks old.chunks.walk.geometry.layout new.image new.windows.blocks new.windows.current
  pub read : ReadAfter old.image new.image result
  pub counted : HoldsReading old.windows.blocks old.windows.current old.chunks → ForContents old.image.contents
      (λ b. new.reads ≤ old.reads + to_read b old.chunks)
  pub others : new.windows ≡ record old.windows { blocks = new.windows.blocks; current = new.windows.current }
  pub children : NotesChildren parents.items old.words.items new.words.items p
  pub long : vec_len new.words ≡ vec_len old.words

-- what a call leaves that notes places of children of p in `words`: only the windows change beside it, and
-- hold what the image gives, which was only read
pub record NotingDirectoryLeaves {T : Type 0} (v : Layout) (p : ℕ) (old new : WorkMoment) (result : Result T ImageFault)
    : Type 0 where
  pub lists : new.workspace ≡ record old.workspace { windows = new.workspace.windows; words = new.workspace.words }
  pub ready : CanRead v new.image new.workspace
  pub read : ReadAfter old.image new.image result
  pub children : NotesChildren old.workspace.parents.items old.workspace.words.items new.workspace.words.items p

-- what a call leaves that notes all places: only the windows and `words` change, the windows hold what the
-- image gives, which was only read, and where no read failed nothing is to be read any more: no parent entry is due
pub record NotingLeaves {T : Type 0} (v : Layout) (old new : WorkMoment) (result : Result T ImageFault) : Type 0 where
  pub lists : new.workspace ≡ record old.workspace { windows = new.workspace.windows; words = new.workspace.words }
  pub ready : CanRead v new.image new.workspace
  pub read : ReadAfter old.image new.image result
  pub none_due : OnOk result ((x : ℕ) → is_to_be_read (slice_index new.workspace.words.items x) ≡ false)
