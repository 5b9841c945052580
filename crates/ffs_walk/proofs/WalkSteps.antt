-- The steps of a file at each level of indirect blocks, and of a walk that has nothing left there.
use Rattle.std.proofs.Common.{◌≡◌, ℕ, ◌+◌, ◌-◌, ◌*◌, ◌<◌, ◌≤◌, List, [], ◌∷◌, ◌++◌, slice_index, Option, Some, arith}
use Rattle.std.{proofs.Common.refl, specs.Prelude.Ok}
use Rattle.ffs_image.specs.Device.{ForContents}
use Rattle.ffs_volume.specs.{declared.{Layout.Layout, Step.Step}, Laws.Geometry.IsAcceptedLayout}
use Rattle.ffs_volume.specs.Blocks.Steps.{FileBlocks, data_step, steps_at, steps_of_addresses, indirection_of}
use Rattle.ffs_volume.specs.Blocks.Steps.{first_block}
use Rattle.ffs_walk.specs.{declared.{frame.Frame.Frame, walk.Walk.Walk}, Fits.IsSpent, Frames.frame_rest}
use Rattle.ffs_walk.specs.Rests.{GivesStep, IsAtTop, IsOver, IsTopStep, SameFileBlocks, file_blocks_of, steps_left}
use Rattle.ffs_walk.specs.{Rests.{single_rest, double_rest, triple_rest, top_rest, most_at, most_steps_left}}
use Rattle.ffs_walk.specs.{Counts.{EntersOnly, indirect_in_step}, Lengths.IsStepOf}

pub steps_zero : (t : FileBlocks) (bytes : List ℕ) (a f : ℕ) → steps_at t bytes 0 a f ≡ data_step t a f ∷ []
unfolding steps_at
steps_zero t bytes a f = refl

-- nothing is left in a frame that is spent
pub spent_rest : (g : Layout) (bytes : List ℕ) (child : ℕ → ℕ → List Step) (span : ℕ) (f : Frame) → IsSpent f →
    frame_rest g bytes child span f ≡ []
spent_rest g bytes child span f h = grind arith

-- where the frames are spent, the rest is that of the addresses
pub rest_at_top : (bytes : List ℕ) (w : Walk) → IsSpent w.single → IsSpent w.double → IsSpent w.triple →
    steps_left bytes w ≡ top_rest bytes w
rest_at_top bytes w s d t = grind arith

pub next_address : (t : FileBlocks) (bytes addresses : List ℕ) (next used : ℕ) → next < used →
    steps_of_addresses t bytes addresses next (used - next)
    ≡ steps_at t bytes (indirection_of next) (slice_index addresses next) (first_block t.layout.nindir next)
    ++ steps_of_addresses t bytes addresses (next + 1) (used - (next + 1))
next_address t bytes addresses next used h = grind arith

-- the steps of the addresses after the next one
abbrev pub later_rest : List ℕ → Walk → List Step
later_rest bytes w = steps_of_addresses (file_blocks_of w) bytes w.addresses (w.next + 1) (w.used - (w.next + 1))

pub top_ends : (bytes : List ℕ) (w : Walk) → w.used ≤ w.next → IsSpent w.single → IsSpent w.double → IsSpent w.triple →
    steps_left bytes w ≡ []
top_ends bytes w h s d t = grind arith

-- nothing is left in the frames of a walk that is at the inode's own addresses
pub no_rests : (bytes : List ℕ) (w : Walk) → IsAtTop w →
    (single_rest bytes w ≡ []) × (double_rest bytes w ≡ []) × (triple_rest bytes w ≡ [])
no_rests bytes w top = grind (arith, spent_rest)

-- the step at the address that comes next goes out, before those under it and those of the later addresses
pub top_next : (bytes : List ℕ) (w : Walk) (level first : ℕ) (step : Step) (rest : List Step) →
    w.next < w.used → IsAtTop w →
    indirection_of w.next ≡ level → first_block w.geometry.layout.nindir w.next ≡ first →
    steps_at (file_blocks_of w) bytes level (slice_index w.addresses w.next) first ≡ step ∷ rest →
    steps_left bytes w ≡ step ∷ (rest ++ later_rest bytes w)
top_next bytes w level first step rest h top is at e = grind (arith, rest_at_top, next_address)

-- what an address has at most is below what a triple indirect one has
pub most_below : (v : Layout) → IsAcceptedLayout v →
    (1 ≤ most_at v.nindir 3) × (2 + v.nindir * most_at v.nindir 0 ≤ most_at v.nindir 3)
    × (2 + v.nindir * most_at v.nindir 1 ≤ most_at v.nindir 3)
most_below v sound = grind arith

-- the next address takes out more than goes into a frame
pub top_falls : (next used m s' d' t' s d t : ℕ) → next < used → s' + (d' + t') + 1 ≤ s + (d + t) + m →
    s' + (d' + (t' + (used - (next + 1)) * m)) < s + (d + (t + (used - next) * m))
top_falls next used m s' d' t' s d t h le = grind arith

-- a step is given of a walk that isn't over
pub gives_one : (contents : Option (List ℕ)) (old new : Walk) (step : Step) → (IsOver old → ⊥) →
    ForContents contents (λ bytes. steps_left bytes old ≡ step ∷ steps_left bytes new) →
    IsStepOf old.geometry.layout.frag old.logical_blocks step → most_steps_left new < most_steps_left old →
    SameFileBlocks old new → GivesStep contents old new (Ok (Some step))
gives_one contents old new step more steps fits falls same = grind arith

-- a step is given at the address that comes next
pub top_gives : (old new : Walk) (step : Step) → old.next < old.used →
    ((bytes : List ℕ) → steps_left bytes old ≡ step ∷ steps_left bytes new) →
    IsStepOf old.geometry.layout.frag old.logical_blocks step → most_steps_left new < most_steps_left old →
    SameFileBlocks old new → EntersOnly old new (indirect_in_step step) → IsTopStep old new (Some step)
top_gives old new step left steps fits falls same counted = grind (arith, gives_one)
