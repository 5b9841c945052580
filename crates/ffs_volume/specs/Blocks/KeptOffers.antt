-- The offers that inodes keep, walked from a state as `Claims` walks. `KeptByRule`, the next file, says
-- by one rule which they are.
use Rattle.std.specs.{Prelude.{ℕ, ◌+◌, List, [], ◌∷◌, ◌++◌, ◌==◌, nat_lt, if◌then◌else◌}, List.range_with_len}
use Rattle.ffs_volume.specs.declared.{constants.TheConstants.{MAXBAD, MAXDUP}, Layout.Layout, Step.Step}
use Rattle.ffs_volume.specs.{declared.Step.TheVariants.{Run, Tail, Gap}, Disk.Areas.is_run_in_range}
use Rattle.ffs_volume.specs.Blocks.{Owners.Owner, Claims.{Claims, at_next_inode, is_open, after_offer, after_step}}
use Rattle.ffs_volume.specs.Blocks.Claims.{after_owner}

-- an offer: one fragment of a Run, and the inode of the Run
pub record Offer : Type 0 where
  pub inode : ℕ
  pub fragment : ℕ

-- the offer with these two numbers
abbrev pub offer_of : (inode fragment : ℕ) → Offer
offer_of i f = record { inode = i; fragment = f }

-- the kept offers of some fragments, of a Run, of a step, of steps, and of inodes, from a state s.
-- Offers are kept, in range or not, until their inode is cut, at its eleventh bad Run or dup offer
abbrev pub kept_in_offers : (v : Layout) (inode : ℕ) (s : Claims) (fs : List ℕ) → List Offer
kept_in_offers v inode s [] = []
kept_in_offers v inode s (f ∷ fs) =
    (if nat_lt s.dup_offers (MAXDUP + 1) then offer_of inode f ∷ [] else [])
    ++ kept_in_offers v inode (after_offer v s f) fs

abbrev pub kept_in_run : (v : Layout) (inode : ℕ) (s : Claims) (start len : ℕ) → List Offer
kept_in_run v inode s start len =
    if is_run_in_range v start len
    then kept_in_offers v inode (record s { runs = s.runs + 1 }) (range_with_len start len)
    else (if s.bad == MAXBAD then []
    else kept_in_offers v inode (record s { runs = s.runs + 1; bad = s.bad + 1 }) (range_with_len start len))

abbrev pub kept_in_step : Layout → ℕ → Claims → Step → List Offer
kept_in_step v inode s (Run start len block) = if is_open s then kept_in_run v inode s start len else []
kept_in_step v inode s Tail = []
kept_in_step v inode s Gap = []

abbrev pub kept_in_steps : Layout → ℕ → Claims → List Step → List Offer
kept_in_steps v inode s [] = []
kept_in_steps v inode s (step ∷ steps) =
    kept_in_step v inode s step ++ kept_in_steps v inode (after_step v s step) steps

abbrev pub kept_in_owners : Layout → Claims → List Owner → List Offer
kept_in_owners v s [] = []
kept_in_owners v s (o ∷ os) = kept_in_steps v o.number (at_next_inode s) o.steps
    ++ kept_in_owners v (after_owner v s o) os
