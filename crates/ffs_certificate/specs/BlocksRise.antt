-- Each logical block has one place at most.
use Rattle.std.specs.{Prelude.{◌≤◌, ◌≡◌, ℕ, ◌+◌, nat_lt, true, List, [], ◌∷◌, Some, None}, List.{flat_map, list_all}}
use Rattle.ffs_volume.specs.declared.{Layout.Layout, Inode.Inode, Step.{Step, TheVariants.{Run, Tail, Gap}}}
use Rattle.ffs_volume.specs.Blocks.{Inodes.logical_blocks_of, Steps.steps_of}

-- the logical blocks of the Runs of data among some steps
abbrev pub step_blocks : Step → List ℕ
step_blocks (Run start len (Some block)) = block ∷ []
step_blocks (Run start len None) = []
step_blocks Tail = []
step_blocks Gap = []

abbrev pub blocks_in : List Step → List ℕ
blocks_in steps = flat_map step_blocks steps

-- numbers that rise, from `low` on
abbrev pub AreRising : ℕ → List ℕ → Type 0
AreRising low [] = Unit {0}
AreRising low (b ∷ bs) = (low ≤ b) × AreRising (b + 1) bs

-- the logical blocks of an inode's Runs rise, and are below the number of its logical blocks
pub record BlocksRise (v : Layout) (i : Inode) (image : List ℕ) : Type 0 where
  pub rising : AreRising 0 (blocks_in (steps_of v i image))
  pub below : list_all (λ b. nat_lt b (logical_blocks_of v i)) (blocks_in (steps_of v i image)) ≡ true

abbrev pub AllBlocksRise : Type 0
AllBlocksRise = (v : Layout) (i : Inode) (image : List ℕ) → BlocksRise v i image
