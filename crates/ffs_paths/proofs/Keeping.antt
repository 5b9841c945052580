-- What is kept of a directory and its children stays right where only other parts of a workspace change.
use Rattle.std.proofs.Common.{arith, ◌≡◌, List, ℕ, ap, Option, Result, Ok, vec_len, Err, OnErr, OnOk}
use Rattle.ffs_workspace.specs.Moments.{WorkMoment}
use Rattle.ffs_image.specs.{Device.Device, Reads.ReadAfter, declared.image.ImageFault.ImageFault}
use Rattle.ffs_volume.specs.{declared.Layout.Layout, Directories.Graph.Graph}
use Rattle.ffs_workspace.specs.{declared.workspace.Workspace.Workspace, Leaves.LeavesSurvey, Ready.CanRead}
use Rattle.ffs_workspace.proofs.Leaving.{claims_held, claims_left, survey_held, survey_left, windows_leave}
use Rattle.ffs_paths.specs.{Reads.{ForTree, OnlyReads, ReadsNames}, declared.kept_parent.KeptParent.KeptParent}
use Rattle.ffs_paths.specs.KeptParents.{IsKeptParent, HoldsKeptParent, SamePlaces}
use Rattle.ffs_walk.specs.{declared.{window.Window.Window, blocks.Blocks.Blocks}, Windows.WindowHolds}
use Rattle.ffs_names.specs.Windows.{CanReadChunks}

-- where the same places are noted, what was found is as it was, seen from the later workspace
leaves_back : (old new : Workspace) → LeavesSurvey old new → SamePlaces old new → LeavesSurvey new old
leaves_back old new s same = grind arith

-- what is kept stays right where the same places are noted
pub kept_parent_on : (v : Layout) (contents contents' : Option (List ℕ)) (old new : Workspace) (s : KeptParent) →
    contents' ≡ contents → LeavesSurvey old new → SamePlaces old new
    → HoldsKeptParent v contents old s → HoldsKeptParent v contents' new s
kept_parent_on v contents contents' old new s e left same k = grind (arith, leaves_back, claims_left, survey_left)

-- and so where only the windows have changed
pub kept_parent_held : (v : Layout) (contents contents' : Option (List ℕ)) (old new : Workspace) (s : KeptParent) →
    contents' ≡ contents → new ≡ record old { windows = new.windows }
    → HoldsKeptParent v contents old s → HoldsKeptParent v contents' new s
kept_parent_held v contents contents' old new s e lists k = grind (arith, kept_parent_on, windows_leave)

-- and after a call that only read
pub kept_on : {T : Type 0} {v : Layout} {d d' : Device} {w w' : Workspace} {x : T} (s : KeptParent) →
    OnlyReads v d d' w w' (Ok x) → HoldsKeptParent v d.contents w s → HoldsKeptParent v d'.contents w' s
kept_on s r k = kept_parent_held _ _ _ _ _ s (ap (λ d. d.contents) r.read) r.lists k

-- and after one that may have failed
pub kept_so : {T : Type 0} {v : Layout} {d d' : Device} {w w' : Workspace} (result : Result T ImageFault)
    (s : KeptParent) → OnlyReads v d d' w w' result → HoldsKeptParent v d.contents w s →
    OnOk result (HoldsKeptParent v d'.contents w' s)
kept_so (Ok x) s r k = kept_on s r k
kept_so (Err e) s r k = tt

-- and after one that failed
pub kept_still : {T : Type 0} {v : Layout} {d d' : Device} {w w' : Workspace} (result : Result T ImageFault)
    (s : KeptParent) → OnlyReads v d d' w w' result → HoldsKeptParent v d.contents w s →
    OnErr result (HoldsKeptParent v d'.contents w' s)
kept_still (Ok x) s r k = tt
kept_still (Err e) s r k = kept_parent_held _ _ _ _ _ s r.read.contents r.lists k

-- what a call leaves that only read, by another answer, which is no fault either
pub reads_as : {S T : Type 0} {v : Layout} {d d' : Device} {w w' : Workspace} {x : S} {y : T} →
    OnlyReads v d d' w w' (Ok x) → OnlyReads v d d' w w' (Ok y)
reads_as r = record { lists = r.lists; current = r.current; ready = r.ready; read = r.read }

pub names_none : {T : Type 0} {v : Layout} {x : ℕ} {now : WorkMoment} {y : T} → CanRead v now.image now.workspace →
    ReadsNames v x now now (Ok y)
names_none r = grind arith

-- a call that only reads, after another
pub reads_then : {S T : Type 0} {v : Layout} {old mid last : Device} {before w after : Workspace} {x : S}
    {result : Result T ImageFault}
    → OnlyReads v old mid before w (Ok x) → OnlyReads v mid last w after result →
    OnlyReads v old last before after result
reads_then {last = last} {after = after} {result = result} one two = grind arith

-- what the workspace says of the tree after a call that only read, it said before
pub tree_on : {T : Type 0} {v : Layout} {d d' : Device} {w w' : Workspace} {x : T} (P : Graph → Type 0) →
    OnlyReads v d d' w w' (Ok x) → ForTree v d' w' P → ForTree v d w P
tree_on {v = v} {w = w} {w' = w'} P r known = grind (arith, claims_held, survey_held)

-- so what is kept then is right for the tree before
pub kept_before : {T : Type 0} {v : Layout} {d d' : Device} {w w' : Workspace} {x : T} {s : KeptParent} →
    OnlyReads v d d' w w' (Ok x) → HoldsKeptParent v d'.contents w' s → ForTree v d w (λ g. IsKeptParent g s)
kept_before {s = s} r k = tree_on (λ g. IsKeptParent g s) r k.right

-- ---- what reads into the windows leave of a workspace
-- the image gives what it gave, whether a read failed or not
same_image : {T : Type 0} (d d' : Device) (result : Result T ImageFault) → ReadAfter d d' result →
    (d'.contents ≡ d.contents) × (d'.size ≡ d.size)
same_image d d' (Ok x) r = (ap (λ q. q.contents) r, ap (λ q. q.size) r)
same_image d d' (Err e) r = (r.contents, r.size)

-- indirect blocks and a chunk were read
chunk_read : {T : Type 0} {v : Layout} {d d' : Device} {w : Workspace} {blocks : Blocks} {names : Window}
    {result : Result T ImageFault} → CanRead v d w → CanReadChunks v d' blocks names → ReadAfter d d' result →
    OnlyReads v d d' w (record w { windows = record w.windows { blocks = blocks; other = names } }) result
chunk_read {d = d} {d' = d'} {result = result} ready can read = grind (arith, same_image)

pub chunk_then : {S T : Type 0} {v : Layout} {d d' d'' : Device} {w w' : Workspace} {blocks : Blocks} {names : Window}
    {x : S} {result : Result T ImageFault} → OnlyReads v d d' w w' (Ok x) → CanReadChunks v d'' blocks names →
    ReadAfter d' d'' result →
    OnlyReads v d d'' w (record w' { windows = record w'.windows { blocks = blocks; other = names } }) result
chunk_then reads can read = reads_then reads (chunk_read reads.ready can read)

-- bytes were read into the window of names
pub name_read : {T : Type 0} {v : Layout} {d d' : Device} {w : Workspace} {names : Window}
    {result : Result T ImageFault} → CanRead v d w → vec_len names.buffer ≡ vec_len w.windows.other.buffer
    → WindowHolds d'.contents names → ReadAfter d d' result →
    OnlyReads v d d' w (record w { windows = record w.windows { other = names } }) result
name_read {d = d} {d' = d'} {result = result} ready long holds read = grind (arith, same_image, chunk_read)
