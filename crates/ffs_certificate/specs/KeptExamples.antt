-- Which steps an inode keeps.
use Rattle.std.specs.Prelude.{◌≡◌, Some, List, [], ◌∷◌, ◌++◌}
use Rattle.ffs_volume.specs.declared.{Order.TheVariants.Little, Step.{Step, TheVariants.{Run, Tail, Gap}}}
use Rattle.ffs_volume.specs.{Blocks.{Claims.no_claims, KeptSteps.kept_steps}, Examples.Images.base_layout}
use Rattle.ffs_volume.specs.Examples.BlockExamples.{blocks_at}

-- what is kept of these steps, by an inode that comes first
unfoldable pub kept_first : List Step → List Step
kept_first steps = kept_steps (base_layout Little) (no_claims (base_layout Little)) steps

pub record KeptExamples : Type 0 where
  -- ten bad Runs are kept and the Gap before the eleventh, which isn't, nor what is after it
  pub bad : kept_first (blocks_at 200 10 ++ (Gap ∷ Run 200 4 (Some 11) ∷ Gap ∷ Run 40 4 (Some 13) ∷ []))
      ≡ blocks_at 200 10 ++ (Gap ∷ [])
  -- a Run whose last offer is after the eleventh dup one isn't kept, nor the Tail of that Run
  pub dup : kept_first (blocks_at 5 3 ++ (Tail ∷ Gap ∷ Run 40 4 (Some 4) ∷ [])) ≡ blocks_at 5 2
