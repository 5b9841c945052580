-- The step at the next word of the single indirect block that a walk is in.
use Rattle.std.proofs.Common.{◌≡◌, ℕ, ◌+◌, ◌-◌, ◌<◌, false, if◌then◌else◌, List, [], ◌∷◌, ◌++◌, arith}
use Rattle.ffs_volume.specs.Blocks.Steps.{block_bytes, address_in, steps_at, steps_under, tail_of, any_nonzero_from}
use Rattle.ffs_walk.specs.{declared.walk.Walk.Walk, Rests.{file_blocks_of, single_rest}, HeldWords.word_step}
use Rattle.ffs_walk.proofs.{FrameSteps.next_word, WalkSteps.steps_zero}

-- the step at the next word of a frame, and what is left after it
pub word_first : (w : Walk) (bytes block : List ℕ) (address : ℕ) → w.single.next < w.single.used →
    w.single.unread ≡ false → block ≡ block_bytes w.geometry.layout bytes w.single.address →
    address ≡ address_in w.geometry.layout block w.single.next →
    single_rest bytes w
    ≡ (word_step w.geometry.layout.frag address (w.single.first + w.single.next) ∷ [])
    ++ ((if w.single.unread then tail_of (any_nonzero_from w.geometry.layout
    (block_bytes w.geometry.layout bytes w.single.address) w.single.used) else [])
    ++ steps_under w.geometry.layout bytes (steps_at (file_blocks_of w) bytes 0) 1 w.single.address w.single.first
    (w.single.next + 1) (w.single.used - (w.single.next + 1)))
word_first w bytes block address some read held is = grind (arith, next_word, steps_zero)
