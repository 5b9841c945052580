-- What is left in an indirect block that a walk is in.
use Rattle.std.specs.Prelude.{ℕ, true, false, ◌+◌, ◌-◌, ◌*◌, ◌^◌, ◌<◌, ◌≤◌, ◌≡◌, List, [], ◌∷◌, ◌++◌, Option}
use Rattle.std.specs.Prelude.{Result, OnOk, IfOk, if◌then◌else◌}
use Rattle.ffs_image.specs.{Device.{Device, ForContents}, declared.image.ImageFault.ImageFault}
use Rattle.ffs_volume.specs.{declared.{Layout.Layout, Step.{Step, TheVariants.Tail}}, Blocks.Steps.block_bytes}
use Rattle.ffs_volume.specs.Blocks.Steps.{tail_of, any_nonzero_from, steps_under}
use Rattle.ffs_walk.specs.declared.{blocks.Blocks.Blocks, frame.{Frame.Frame, Item.Item}}
use Rattle.ffs_walk.specs.{declared.frame.Item.TheVariants.{UnusedWord, Word}, Windows.{CanFill, FailsAt}}

-- the steps that a frame has left, where `child` has the steps at an address
abbrev pub frame_rest : Layout → List ℕ → (ℕ → ℕ → List Step) → ℕ → Frame → List Step
frame_rest v bytes child span f =
    (if f.unread then tail_of (any_nonzero_from v (block_bytes v bytes f.address) f.used) else [])
    ++ steps_under v bytes child span f.address f.first f.next (f.used - f.next)

-- the steps that an item of a frame means
abbrev pub item_steps : (ℕ → ℕ → List Step) → Item → List Step
item_steps child UnusedWord = Tail ∷ []
item_steps child (Word address block) = child address block

-- at most how many steps a frame has left, where a word has at most `most`
abbrev pub frame_left : ℕ → Frame → ℕ
frame_left most f = (if f.unread then 1 else 0) + (f.used - f.next) * most

-- at most how many steps an item means
abbrev pub item_left : ℕ → Item → ℕ
item_left most UnusedWord = 1
item_left most (Word address block) = most

-- the item is the frame's next word, or says that a word is set that isn't used
abbrev pub IsFrom : Frame → ℕ → Item → Type 0
IsFrom f span UnusedWord = f.unread ≡ true
IsFrom f span (Word address block) = (f.next < f.used) × (block ≡ f.first + f.next * span)

-- the item is the frame's next one in an image of these contents, and the frame has the others left
pub record IsNextItem (v : Layout) (contents : Option (List ℕ)) (span : ℕ) (old new : Frame) (given : Item) :
    Type 0 where
  pub item : IsFrom old span given
  pub steps : ForContents contents (λ bytes. (child : ℕ → ℕ → List Step) →
      frame_rest v bytes child span old ≡ item_steps child given ++ frame_rest v bytes child span new)
  pub falls : (most : ℕ) → item_left most given + frame_left most new ≤ frame_left most old

-- the frames are in the same block, with as many used words
pub record IsSameBlock (old new : Frame) : Type 0 where
  pub address : new.address ≡ old.address
  pub first : new.first ≡ old.first
  pub used : new.used ≡ old.used

-- the next item of a frame may be taken, for a level: it has one left, whose logical block is a
-- number, and its block may be asked for
pub record CanTake (v : Layout) (d : Device) (span level : ℕ) (f : Frame) (blocks : Blocks) : Type 0 where
  pub left : f.next < f.used
  pub words : f.used ≤ v.nindir
  pub small : f.first + f.next * span < 2 ^ 64
  pub ready : CanFill v d level f.address blocks

-- the next item of a frame is taken, in an image of these contents, and its block counts as read then; where
-- a read of the block failed none is taken. In both cases the frame stays in its block
pub record TakesItem (v : Layout) (contents : Option (List ℕ)) (span : ℕ) (old new : Frame)
    (result : Result Item ImageFault) : Type 0 where
  pub item : IfOk result (IsNextItem v contents span old new)
  pub read : OnOk result (new.unread ≡ false)
  pub same : IsSameBlock old new
  pub sector : FailsAt (old.address * v.fsize) result
