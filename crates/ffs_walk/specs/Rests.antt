-- What is left of a walk.
use Rattle.std.specs.Prelude.{◌≡◌, ℕ, zero, suc, ◌+◌, ◌-◌, ◌*◌, ◌<◌, ◌≤◌, List, [], ◌∷◌, ◌++◌, if◌then◌else◌, Option}
use Rattle.std.specs.Prelude.{None, IfSome, MatchOption, Result, Ok, IfOk, OnErr, nat_lt}
use Rattle.ffs_image.specs.{Device.ForContents, declared.image.ImageFault.ImageFault}
use Rattle.ffs_volume.specs.declared.{Class.Class, Inode.Inode, Step.Step}
use Rattle.ffs_volume.specs.Blocks.{Inodes.{class_of, logical_blocks_of}, Steps.FileBlocks}
use Rattle.ffs_volume.specs.Blocks.Steps.{data_step, indirect_steps, steps_at, steps_of, steps_of_addresses, is_walked}
use Rattle.ffs_layout.specs.declared.geometry.Geometry.{Geometry}
use Rattle.ffs_walk.specs.{declared.{walk.Walk.Walk, frame.{Frame.Frame, Item.Item}}, Frames.{frame_rest, frame_left}}
use Rattle.ffs_walk.specs.{Frames.{item_steps, item_left}, Fits.{FrameFits, IsBelow, IsSpent}, Lengths.IsStepOf}
use Rattle.ffs_walk.specs.Counts.{AreHeld, EntersOnly, IsEntered, StepReads, indirect_in_step, indirect_in_answer}
use Rattle.ffs_walk.specs.{Windows.{BlocksAfter, FailsAt, ImageWith}, declared.blocks.Blocks.Blocks}

-- the blocks of the file that a walk is over, as the definition of steps takes them
abbrev pub file_blocks_of : Walk → FileBlocks
file_blocks_of w = record { layout = w.geometry.layout; blocks = w.logical_blocks; last_length = w.last }

-- the steps that a walk has left in its single, double and triple indirect block, and from the
-- inode's own addresses
abbrev pub single_rest : List ℕ → Walk → List Step
single_rest bytes w = frame_rest w.geometry.layout bytes (steps_at (file_blocks_of w) bytes 0) 1 w.single

abbrev pub double_rest : List ℕ → Walk → List Step
double_rest bytes w = frame_rest w.geometry.layout bytes (steps_at (file_blocks_of w) bytes 1) w.geometry.layout.nindir
    w.double

abbrev pub triple_rest : List ℕ → Walk → List Step
triple_rest bytes w = frame_rest w.geometry.layout bytes (steps_at (file_blocks_of w) bytes 2)
    (w.geometry.layout.nindir * w.geometry.layout.nindir) w.triple

abbrev pub top_rest : List ℕ → Walk → List Step
top_rest bytes w = steps_of_addresses (file_blocks_of w) bytes w.addresses w.next (w.used - w.next)

-- the steps that a walk has left, in an image of these bytes
abbrev pub steps_left : List ℕ → Walk → List Step
steps_left bytes w = single_rest bytes w ++ (double_rest bytes w ++ (triple_rest bytes w ++ top_rest bytes w))

-- at most how many steps there are at an address of a level of indirection
abbrev pub most_at : ℕ → ℕ → ℕ
most_at words zero = 1
most_at words (suc level) = 2 + words * most_at words level

-- at most how many steps a walk has left, whatever its image holds
abbrev pub most_steps_left : Walk → ℕ
most_steps_left w =
    frame_left (most_at w.geometry.layout.nindir 0) w.single
    + (frame_left (most_at w.geometry.layout.nindir 1) w.double
    + (frame_left (most_at w.geometry.layout.nindir 2) w.triple
    + (w.used - w.next) * most_at w.geometry.layout.nindir 3))

-- the walk has no step left
pub record IsOver (w : Walk) : Type 0 where
  pub single : IsSpent w.single
  pub double : IsSpent w.double
  pub triple : IsSpent w.triple
  pub top : w.next ≡ w.used

-- none of its indirect blocks has an item left: the next step is at one of the inode's own addresses
pub record IsAtTop (w : Walk) : Type 0 where
  pub single : IsSpent w.single
  pub double : IsSpent w.double
  pub triple : IsSpent w.triple

-- the next step of a walk in an image of these contents is taken, and the walk has the others left;
-- None comes after the last
pub record IsNextStep (contents : Option (List ℕ)) (old new : Walk) (answer : Option Step) : Type 0 where
  pub steps : ForContents contents (λ bytes. MatchOption answer (steps_left bytes old ≡ [])
      (λ step. steps_left bytes old ≡ step ∷ steps_left bytes new))
  pub fits : IfSome answer (IsStepOf old.geometry.layout.frag old.logical_blocks)
  pub falls : IfSome answer (λ _. most_steps_left new < most_steps_left old)
  pub over : answer ≡ None → IsOver new

-- the innermost indirect block that a walk is in, of those with a used word left
abbrev pub innermost : Walk → Frame
innermost w = if nat_lt w.single.next w.single.used
    then w.single else (if nat_lt w.double.next w.double.used then w.double else w.triple)

-- the byte of the image where the indirect block begins that a walk reads for its next step, if it reads one
abbrev pub block_place : Walk → ℕ
block_place w = (innermost w).address * w.geometry.layout.fsize

-- the walks are over as many logical blocks of the same volume
pub record SameFileBlocks (old new : Walk) : Type 0 where
  pub geometry : new.geometry ≡ old.geometry
  pub blocks : new.logical_blocks ≡ old.logical_blocks

-- a walk is ended: no word of an indirect block and no address of the inode is used
pub record Stops (old new : Walk) : Type 0 where
  pub over : IsOver new
  pub same : SameFileBlocks old new
  pub single : new.single.used ≡ 0
  pub double : new.double.used ≡ 0
  pub triple : new.triple.used ≡ 0
  pub top : new.used ≡ 0

-- a walk of this geometry that is over
pub record IsEndedWalk (g : Geometry) (w : Walk) : Type 0 where
  pub over : IsOver w
  pub geometry : w.geometry ≡ g

-- a walk that has all steps of an inode left
pub record IsWalkOf (g : Geometry) (inode : Inode) (w : Walk) : Type 0 where
  pub steps : (bytes : List ℕ) → steps_left bytes w ≡ steps_of g.layout inode bytes
  pub geometry : w.geometry ≡ g
  pub blocks : w.logical_blocks ≡ (if is_walked g.layout inode then logical_blocks_of g.layout inode else 0)
  pub top : IsAtTop w

-- a walk that has all steps of an inode left, if this is the inode's class
pub record IsWalkByClass (g : Geometry) (inode : Inode) (class : Class) (w : Walk) : Type 0 where
  pub walk : class ≡ class_of g.layout inode → IsWalkOf g inode w
  pub top : IsAtTop w
  pub geometry : w.geometry ≡ g

-- the step is that at the address of a data block
pub record IsDataStep (w : Walk) (address block : ℕ) (made : Step) : Type 0 where
  pub step : made ≡ data_step (file_blocks_of w) address block
  pub fits : IsStepOf w.geometry.layout.frag w.logical_blocks made

-- the step and those of the frame are all at the address of an indirect block
pub record Enters (w : Walk) (span address first : ℕ) (made : Step) (frame : Frame) : Type 0 where
  pub steps : (bytes : List ℕ) (child : ℕ → ℕ → List Step) →
      indirect_steps (file_blocks_of w) bytes child span address first
      ≡ made ∷ frame_rest w.geometry.layout bytes child span frame
  pub step : IsStepOf w.geometry.layout.frag w.logical_blocks made
  pub left : (most : ℕ) → frame_left most frame ≤ 1 + w.geometry.layout.nindir * most
  pub fits : FrameFits w.geometry.layout w.logical_blocks span frame
  pub counted : IsEntered made frame

-- an item of a level was taken in a walk: a word's logical block is one of the inode and isn't direct,
-- and nothing is left in the indirect blocks of the levels below
pub record ComesNext (level : ℕ) (w : Walk) (item : Item) : Type 0 where
  pub below : IsBelow w.logical_blocks item
  pub single : 1 ≤ level → IsSpent w.single
  pub double : 2 ≤ level → IsSpent w.double

-- the step is the first that an item of a level means, and the walk has the others left, before
-- those that it had
pub record IsFirstOf (level : ℕ) (item : Item) (old new : Walk) (step : Step) : Type 0 where
  pub steps : (bytes : List ℕ) → item_steps (steps_at (file_blocks_of old) bytes level) item ++ steps_left bytes old
      ≡ step ∷ steps_left bytes new
  pub fits : IsStepOf old.geometry.layout.frag old.logical_blocks step
  pub left : 1 + most_steps_left new ≤ item_left (most_at old.geometry.layout.nindir level) item + most_steps_left old
  pub same : SameFileBlocks old new
  pub counted : EntersOnly old new (indirect_in_step step)

-- the next step of a walk is taken, or a read failed, which doesn't end the walk; a walk that is over
-- stays as it is
pub record GivesStep (contents : Option (List ℕ)) (old new : Walk) (result : Result (Option Step) ImageFault) :
    Type 0 where
  pub step : IfOk result (IsNextStep contents old new)
  pub over : IsOver old → (result ≡ Ok None) × (new ≡ old)
  pub same : SameFileBlocks old new

-- the next step of a walk is taken, or a read failed, which doesn't end the walk: what is given and
-- what is left. Where the blocks that were read are held, only one that was still to be read is read; in
-- any case one at most, once; and none where the next step is at one of the inode's own addresses: what is
-- held stays
pub record Advances (before after : ImageWith Blocks) (old new : Walk) (result : Result (Option Step) ImageFault) :
    Type 0 where
  pub gives : GivesStep before.image.contents old new result
  pub leaves : BlocksAfter old.geometry.layout before after result
  pub counted : AreHeld before.cache old → StepReads before after old new result
  pub any : after.reads ≤ before.reads + 1
  pub at_inode : IsAtTop old → (after.cache ≡ before.cache) × (after.reads ≡ before.reads)
  pub sector : FailsAt (block_place old) result

-- the step at the next of the inode's own addresses is taken, whatever the image holds; where there
-- is none, the walk stays as it is
pub record IsTopStep (old new : Walk) (answer : Option Step) : Type 0 where
  pub none : answer ≡ None → new ≡ old
  pub gives : (contents : Option (List ℕ)) → GivesStep contents old new (Ok answer)
  pub counted : EntersOnly old new (indirect_in_answer answer)

-- the next step of a walk is taken, and the walk has the others left; it is over after a failed
-- read. Where the blocks that were read are held, only one that was still to be read is read; in any case,
-- as where another walk has used the blocks, one at most, once; and none where the next step is at one of
-- the inode's own addresses, or none is left: what is held stays
pub record TakesStep (before after : ImageWith Blocks) (old new : Walk) (result : Result (Option Step) ImageFault) :
    Type 0 where
  pub step : IfOk result (IsNextStep before.image.contents old new)
  pub over : IsOver old → result ≡ Ok None
  pub fault : OnErr result (IsOver new)
  pub same : SameFileBlocks old new
  pub leaves : BlocksAfter old.geometry.layout before after result
  pub counted : AreHeld before.cache old → StepReads before after old new result
  pub any : after.reads ≤ before.reads + 1
  pub at_inode : IsAtTop old → (after.cache ≡ before.cache) × (after.reads ≡ before.reads)
  pub sector : FailsAt (block_place old) result
