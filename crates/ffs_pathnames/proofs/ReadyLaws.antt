-- The windows hold what the image gives where a chunk is read.
use Rattle.std.{proofs.Common.{◌≡◌, ◌≤◌, ◌+◌, ℕ, Bool, arith, ap, rules, subst, Result, Ok, Err, vec_len}, specs.declared.alloc.Global.Global}
use Rattle.std.specs.declared.vec.Vec.{Vec}
use Rattle.ffs_workspace.specs.Moments.{WorkMoment}
use Rattle.ffs_image.specs.{Device.Device, declared.image.ImageFault.ImageFault}
use Rattle.ffs_volume.specs.declared.Layout.{Layout}
use Rattle.ffs_walk.specs.declared.{blocks.Blocks.Blocks, window.Window.Window}
use Rattle.ffs_workspace.specs.{declared.workspace.{Windows.Windows, Workspace.Workspace}, Ready.CanRead}
use Rattle.ffs_paths.specs.{declared.kept_parent.KeptParent.KeptParent, Reads.{OnlyReadsFew}}
use Rattle.ffs_paths.proofs.{Climbed.{few_more, few_then}, Keeping.{kept_on, reads_then, kept_parent_held}}
use Rattle.ffs_names.specs.Windows.{CanReadChunks, CanWalkDir}
use Rattle.ffs_pathnames.{specs.{Ready.{DirectoryLeaves, LimitedPathLeaves, CanMakePaths}, Stamps.KeepParts}, proofs.StampLaws.keep_more}
use Rattle.ffs_report.specs.{PhaseOutcome.ImageAfter, declared.fault.RunFault.RunFault}
use Rattle.ffs_workspace.{specs.Leaves.LeavesSurvey, proofs.Leaving.leaves_more}

-- a workspace with other blocks and another chunk in its windows
abbrev pub with_chunk : Workspace → Blocks → Window → Workspace
with_chunk w blocks chunk = record w { windows = record w.windows { blocks = blocks; current = chunk } }

-- the other windows are as they were
pub others_stay : (w w' : Windows) (blocks : Blocks) (chunk : Window) →
    w' ≡ record w { blocks = w'.blocks; current = w'.current }
    → record w' { blocks = blocks; current = chunk } ≡ record w { blocks = blocks; current = chunk }
others_stay w w' blocks chunk same = ap (λ (x : Windows). record x { blocks = blocks; current = chunk }) same

pub ready_read : (v : Layout) (d d' : Device) (w : Workspace) (blocks : Blocks) (chunk : Window) → CanRead v d w
    → d'.contents ≡ d.contents → CanReadChunks v d' blocks chunk → CanRead v d' (with_chunk w blocks chunk)
ready_read v d d' w blocks chunk r same can = grind (arith, rules)

-- and so is what is kept of a directory and its children
pub ready_next : (v : Layout) (d d' : Device) (w : Workspace) (s : KeptParent) (blocks : Blocks) (chunk : Window)
    → CanMakePaths v d w s → d' ≡ d → CanReadChunks v d' blocks chunk → CanMakePaths v d' (with_chunk w blocks chunk) s
ready_next v d d' w s blocks chunk r e can = grind (arith, ready_read, kept_parent_held)

-- the same of windows that are as they were, but for these two
pub windows_read : (v : Layout) (d d' : Device) (w : Workspace) (windows : Windows) → CanRead v d w
    → d'.contents ≡ d.contents → windows ≡ record w.windows { blocks = windows.blocks; current = windows.current }
    → CanReadChunks v d' windows.blocks windows.current → CanRead v d' (record w { windows = windows })
windows_read v d d' w windows r same others can = grind (arith, ready_read)

pub windows_next : (v : Layout) (d d' : Device) (w : Workspace) (s : KeptParent) (windows : Windows)
    → CanMakePaths v d w s → d' ≡ d → windows ≡ record w.windows { blocks = windows.blocks; current = windows.current }
    → CanReadChunks v d' windows.blocks windows.current → CanMakePaths v d' (record w { windows = windows }) s
windows_next v d d' w s windows r e others can = grind (arith, ready_next)

-- and where other stamps are in the words, too
pub ready_looked : (v : Layout) (d d' : Device) (w : Workspace) (windows : Windows) (words : Vec ℕ Global) → CanRead v d w
    → d'.contents ≡ d.contents → windows ≡ record w.windows { blocks = windows.blocks; current = windows.current }
    → CanReadChunks v d' windows.blocks windows.current → vec_len words ≡ vec_len w.words
    → CanRead v d' (record w { windows = windows; words = words })
ready_looked v d d' w windows words r same others can long = grind arith

-- and where other names were passed
pub ready_passed : (v : Layout) (d : Device) (w : Workspace) (flags : Vec Bool Global) (words : Vec ℕ Global) → CanRead v d w
    → vec_len flags ≡ vec_len w.flags → vec_len words ≡ vec_len w.words
    → CanRead v d (record w { flags = flags; words = words })
ready_passed v d w flags words r marked long = grind arith

-- the windows of chunks after reads into that of indirect blocks alone
pub can_read_more : (v : Layout) (d d' : Device) (blocks blocks' : Blocks) (chunk : Window) →
    CanReadChunks v d blocks chunk → d'.contents ≡ d.contents → CanWalkDir v d' blocks' →
    CanReadChunks v d' blocks' chunk
can_read_more v d d' blocks blocks' chunk can e walk = grind arith

-- what is ready for reading chunks
pub can_read_in : (v : Layout) (d : Device) (w : Workspace) → CanRead v d w
    → CanReadChunks v d w.windows.blocks w.windows.current
can_read_in v d w r = grind arith

-- what a call leaves after others that left the image as it was
pub leaves_after : {T : Type 0} {v : Layout} {old mid new : WorkMoment} {s : KeptParent} {r : Result T RunFault} →
    mid.image ≡ old.image → LeavesSurvey old.workspace mid.workspace →
    KeepParts old.workspace.words.items mid.workspace.words.items → DirectoryLeaves v mid new s r →
    DirectoryLeaves v old new s r
leaves_after {new = new} {r = r} same survey places left = record {
  image = subst (λ d. ImageAfter d new.image r) same left.image;
  survey = leaves_more survey left.survey;
  places = keep_more _ _ _ places left.places;
  ready = left.ready;
}

-- what a call leaves that gathered a path, and another that only read
pub leaves_read : {S T : Type 0} {n k m : ℕ} {v : Layout} {old mid new : WorkMoment} {s : KeptParent} {x : S}
    (result : Result T ImageFault) → LimitedPathLeaves v n old mid s (Ok x) → OnlyReadsFew v k mid new result →
    n + k ≤ m → LimitedPathLeaves v m old new s result
leaves_read (Ok y) path read more = record {
  path = record {
    reads = reads_then path.path.reads read.reads;
    counted = λ b k. few_more (few_then (path.path.counted b k) read.counted) more;
    kept_parent = kept_on _ read.reads path.path.kept_parent;
  };
  most = let first = path.most in omega (arith, first, read.counted.count, more);
}
leaves_read (Err e) path read more = record {
  path = record {
    reads = reads_then path.path.reads read.reads;
    counted = λ b k. few_more (few_then (path.path.counted b k) read.counted) more;
    kept_parent = tt;
  };
  most = let first = path.most in omega (arith, first, read.counted.count, more);
}

-- where gathering a path failed
pub gather_failed : {S T : Type 0} {n m : ℕ} {v : Layout} {old new : WorkMoment} {s : KeptParent} (fault : ImageFault) →
    LimitedPathLeaves {T = S} v n old new s (Err fault) → n ≤ m → LimitedPathLeaves {T = T} v m old new s (Err fault)
gather_failed fault left more = grind (arith, few_more)
