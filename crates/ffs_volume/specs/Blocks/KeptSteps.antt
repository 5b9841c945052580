-- The steps of an inode that are kept. The checks of directories see these alone: a chunk is read
-- where its Run is kept, and a hole is reported where its Gap is.
use Rattle.std.specs.Prelude.{ℕ, Bool, ◌+◌, ◌-◌, ◌&&◌, List, [], ◌∷◌, ◌++◌, ◌==◌, if◌then◌else◌, map}
use Rattle.std.specs.List.{range_with_len}
use Rattle.ffs_volume.specs.declared.{Layout.Layout, Step.{Step, TheVariants.{Run, Tail, Gap}}}
use Rattle.ffs_volume.specs.Blocks.{Inodes.inode_of, Steps.steps_of, Owners.owner_of, Claims.{Claims, no_claims}}
use Rattle.ffs_volume.specs.Blocks.Claims.{at_next_inode, is_open, after_step, after_owners}

-- a Gap or Tail is kept where it is seen, and a Run where all its offers are: the count of kept
-- offers rises by its length
abbrev pub is_kept_step : Layout → Claims → Step → Bool
is_kept_step v s (Run start len block) = is_open s && (after_step v s (Run start len block)).kept == s.kept + len
is_kept_step v s Tail = is_open s
is_kept_step v s Gap = is_open s

-- the steps of a list that are kept, in order
abbrev pub kept_steps : Layout → Claims → List Step → List Step
kept_steps v s [] = []
kept_steps v s (step ∷ steps) =
    (if is_kept_step v s step then step ∷ [] else []) ++ kept_steps v (after_step v s step) steps

-- the state before the inode x
unfoldable pub claims_before : (v : Layout) (image : List ℕ) (x : ℕ) → Claims
claims_before v image x = after_owners v (no_claims v) (map (owner_of v image) (range_with_len 2 (x - 2)))

-- the kept steps of the inode x
unfoldable pub kept_steps_of : (v : Layout) (image : List ℕ) (x : ℕ) → List Step
kept_steps_of v image x = kept_steps v (at_next_inode (claims_before v image x)) (steps_of v (inode_of v image x) image)
