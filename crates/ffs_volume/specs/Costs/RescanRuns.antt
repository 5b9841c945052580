-- How many Runs phase 1b looks at.
use Rattle.std.specs.Prelude.{ℕ, Bool, ◌==◌, ◌+◌, List, [], ◌∷◌, ◌++◌, if◌then◌else◌}
use Rattle.ffs_volume.specs.{declared.{Layout.Layout, Step.{Step, TheVariants.{Run, Tail, Gap}}}, Blocks.Owners.{Owner, owners_of}}
use Rattle.ffs_volume.specs.Blocks.Claims.{Claims, no_claims, at_next_inode, is_open, after_owner, after_step, all_claims}
use Rattle.ffs_volume.specs.Blocks.{KeptOffers.{Offer, kept_in_run}, BlockCheck.{unreported_after, set_count}}

-- the kept offers of each Run that is seen: of a step, of steps, and of inodes
abbrev pub run_offers_of_step : Layout → ℕ → Claims → Step → List (List Offer)
run_offers_of_step v number s (Run start len block) = if is_open s then kept_in_run v number s start len ∷ [] else []
run_offers_of_step v number s Tail = []
run_offers_of_step v number s Gap = []

abbrev pub run_offers_of_steps : Layout → ℕ → Claims → List Step → List (List Offer)
run_offers_of_steps v number s [] = []
run_offers_of_steps v number s (step ∷ steps) = run_offers_of_step v number s step ++ run_offers_of_steps v number (after_step v s step) steps

unfoldable pub run_offers_of_owners : Layout → Claims → List Owner → List (List Offer)
run_offers_of_owners v s [] = []
run_offers_of_owners v s (o ∷ os) = run_offers_of_steps v o.number (at_next_inode s) o.steps ++ run_offers_of_owners v (after_owner v s o) os

-- how many of some Runs are looked at, by their kept offers: all up to the one that reports the
-- last fragment with a DUP line
unfoldable pub runs_until_reported : List Bool → List (List Offer) → ℕ
runs_until_reported left [] = 0
runs_until_reported left (kept ∷ runs) =
    if set_count left == 0 then 0 else 1 + runs_until_reported (unreported_after left kept) runs

-- how many Runs of an image phase 1b looks at
unfoldable pub rescan_runs : Layout → List ℕ → ℕ
rescan_runs v image =
    runs_until_reported (all_claims v image).duplicates (run_offers_of_owners v (no_claims v) (owners_of v image))
