-- What the words of an indirect block, and the direct addresses of an inode, claim with nothing to report.
use Rattle.std.specs.Prelude.{◌≡◌, ℕ, ◌≤◌, true, List, [], Option}
use Rattle.ffs_volume.specs.Blocks.Claims.{Claims, after_step, after_steps, is_open, lines_of_steps, step_lines}
use Rattle.ffs_volume.specs.{Laws.ClaimBounds.ClaimBound, Costs.VolumeReads.indirect_in_steps, declared.Layout.Layout}
use Rattle.ffs_volume.specs.declared.Step.{Step}
use Rattle.ffs_image.specs.Device.{ForContents}
use Rattle.ffs_walk.specs.{Counts.EntersOnly, HeldWords.word_step, Rests.{SameFileBlocks, most_steps_left, steps_left}}
use Rattle.ffs_walk.specs.{Windows.BlocksHold, declared.{blocks.Blocks.Blocks, walk.Walk.Walk}}
use Rattle.ffs_workspace.specs.{Holds.claims_of, declared.workspace.Workspace.Workspace}
use Rattle.ffs_claims.specs.{Bounds.{step_bound, address_bound}, Claiming.CanSeeNext, Leaves.ClaimsOnly}
use Rattle.ffs_claims.specs.declared.{area.DataArea.DataArea, silent_addresses.RunCounts.RunCounts}

-- a workspace with these counts of Runs that are looked at, and of offers that are kept
abbrev pub with_run_counts : Workspace → RunCounts → Workspace
with_run_counts w counts = record w { runs_seen = counts.runs_seen; kept = counts.kept }

-- what the next addresses of a walk offer can be claimed: the inode's next step can be seen
abbrev pub CanClaimAddresses : Workspace → DataArea → Walk → Type 0
CanClaimAddresses w area walk = CanSeeNext walk.geometry.layout w area step_bound

-- a step claims what it offers, and nothing is reported of it
pub record ClaimsSilently (v : Layout) (step : Step) (old new : Workspace) : Type 0 where
  pub claims : claims_of new ≡ after_step v (claims_of old) step
  pub silent : (number : ℕ) → step_lines v number (claims_of old) step ≡ []

-- what an address offers can be claimed: in a volume of some layout, the inode's next step can be seen
pub record CanClaimAddress (w : Workspace) (area : DataArea) : Type 0 where
  pub layout : Layout
  pub next : CanSeeNext layout w area address_bound

-- the step of an address of a block of data, which has so many fragments, claims what it offers,
-- wherever in the file it is: nothing is reported of it, and the inode isn't cut by it
pub record ClaimsAddress (v : Layout) (address len : ℕ) (old new : Workspace) : Type 0 where
  pub claims : (block : ℕ) → ClaimsSilently v (word_step len address block) old new
  pub uncut : is_open (claims_of new) ≡ true
  pub only : ClaimsOnly v old new
  pub rises : old.runs_seen ≤ new.runs_seen

-- a walk was at `walk` with the claims `old`, and is at `walk'` with the claims `new`: the steps that it has
-- left now lead to the same claims and lines as those that it had left then, and to the same count of indirect
-- blocks that are seen
pub record MeansSame (v : Layout) (blocks : Blocks) (old new : Claims) (walk walk' : Walk) : Type 0 where
  pub claims : (contents : Option (List ℕ)) → BlocksHold v contents blocks → ForContents contents (λ bytes.
      after_steps v new (steps_left bytes walk') ≡ after_steps v old (steps_left bytes walk))
  pub lines : (contents : Option (List ℕ)) → BlocksHold v contents blocks → ForContents contents (λ bytes.
      (number : ℕ) → lines_of_steps v number new (steps_left bytes walk')
      ≡ lines_of_steps v number old (steps_left bytes walk))
  pub indirect : (contents : Option (List ℕ)) → BlocksHold v contents blocks → ForContents contents (λ bytes.
      indirect_in_steps v new (steps_left bytes walk') ≡ indirect_in_steps v old (steps_left bytes walk))
  pub bound : ClaimBound old new

-- a walk passes over steps that claim what they offer: what it has left means the same as before
pub record ClaimsAddresses (v : Layout) (old new : Workspace) (walk walk' : Walk) : Type 0 where
  pub means : MeansSame v old.windows.blocks (claims_of old) (claims_of new) walk walk'
  pub uncut : is_open (claims_of new) ≡ true
  pub only : ClaimsOnly v old new
  pub falls : most_steps_left walk' ≤ most_steps_left walk
  pub same : SameFileBlocks walk walk'
  pub rises : old.runs_seen ≤ new.runs_seen
  pub counted : EntersOnly walk walk' 0
