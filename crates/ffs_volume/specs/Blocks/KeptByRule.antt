-- The kept offers of `KeptOffers` once more, by a rule on each offer (`offer_verdict`). The law
-- `keeping_is_by_rule` of the crate ffs_certificate says that both are the same. p is an offer with
-- the number of bad Runs up to its own (`CountedOffer`), and j an offer with what the rule says of
-- it (`OfferVerdict`).
use Rattle.std.specs.Prelude.{ℕ, Bool, ◌+◌, ◌&&◌, ◌||◌, List, [], ◌∷◌, ◌++◌, ◌==◌, nat_le, if◌then◌else◌, map, count_by}
use Rattle.std.specs.List.{list_any, flat_map, range_with_len}
use Rattle.ffs_volume.specs.declared.{constants.TheConstants.{MAXBAD, MAXDUP}, Layout.Layout, Step.Step}
use Rattle.ffs_volume.specs.{declared.Step.TheVariants.{Run, Tail, Gap}, Disk.Areas.is_fragment_in_range}
use Rattle.ffs_volume.specs.{Disk.Areas.{is_run_in_range, is_reserved}, Blocks.{Owners.Owner, KeptOffers.Offer}}

-- an offer, and how many bad Runs of its inode are at or before its Run
pub record CountedOffer : Type 0 where
  pub inode : ℕ
  pub fragment : ℕ
  pub bad_runs : ℕ

-- how many bad Runs an inode has after a step, by how many it had before
abbrev pub bad_runs_after : Layout → ℕ → Step → ℕ
bad_runs_after v bad_runs (Run start len block) = if is_run_in_range v start len then bad_runs else bad_runs + 1
bad_runs_after v bad_runs Tail = bad_runs
bad_runs_after v bad_runs Gap = bad_runs

-- the offer of f to an inode with so many bad Runs
abbrev pub counted_offer : (inode bad_runs f : ℕ) → CountedOffer
counted_offer inode bad_runs f = record { inode = inode; fragment = f; bad_runs = bad_runs }

-- the offers of a step
abbrev pub step_offers : (v : Layout) (inode bad_runs : ℕ) → Step → List CountedOffer
step_offers v inode bad_runs (Run start len block) =
    map (counted_offer inode (bad_runs_after v bad_runs (Run start len block))) (range_with_len start len)
step_offers v inode bad_runs Tail = []
step_offers v inode bad_runs Gap = []

-- the offers of steps, one after the other
abbrev pub offers_of_steps : (v : Layout) (inode bad_runs : ℕ) (steps : List Step) → List CountedOffer
offers_of_steps v inode bad_runs [] = []
offers_of_steps v inode bad_runs (step ∷ steps) =
    step_offers v inode bad_runs step ++ offers_of_steps v inode (bad_runs_after v bad_runs step) steps

-- all offers, in order
abbrev pub all_offers : Layout → List Owner → List CountedOffer
all_offers v os = flat_map (λ o. offers_of_steps v o.number 0 o.steps) os

-- an offer with its verdict: whether it is dup, and whether it is kept
pub record OfferVerdict : Type 0 where
  pub inode : ℕ
  pub fragment : ℕ
  pub dup : Bool
  pub kept : Bool

-- an earlier kept offer has the fragment
abbrev pub is_claimed_before : List OfferVerdict → ℕ → Bool
is_claimed_before earlier f = list_any (λ j. j.kept && j.fragment == f) earlier

-- how many of the earlier offers are dup offers of the inode i
abbrev pub dups_of : List OfferVerdict → ℕ → ℕ
dups_of earlier i = count_by (λ j. j.dup && j.inode == i) earlier

-- an offer of a fragment in range is dup where the fragment is reserved or an earlier kept offer
-- has it. An offer is kept where at most ten bad Runs of its inode are at or before its Run, and at
-- most ten dup offers of the inode before it
unfoldable pub offer_verdict : Layout → List OfferVerdict → CountedOffer → OfferVerdict
offer_verdict v earlier p = record {
  inode = p.inode;
  fragment = p.fragment;
  dup = is_fragment_in_range v p.fragment && (is_reserved v p.fragment || is_claimed_before earlier p.fragment);
  kept = nat_le p.bad_runs MAXBAD && nat_le (dups_of earlier p.inode) MAXDUP;
}

-- the verdicts on the earlier offers and on some more, the newest first
abbrev pub verdicts : Layout → List OfferVerdict → List CountedOffer → List OfferVerdict
verdicts v earlier [] = earlier
verdicts v earlier (p ∷ ps) = verdicts v (offer_verdict v earlier p ∷ earlier) ps

-- the offer alone
abbrev pub uncounted : CountedOffer → Offer
uncounted p = record { inode = p.inode; fragment = p.fragment }

-- the offers of a list that the rule keeps, in order
abbrev pub kept_by_rule : Layout → List OfferVerdict → List CountedOffer → List Offer
kept_by_rule v earlier [] = []
kept_by_rule v earlier (p ∷ ps) =
    (if (offer_verdict v earlier p).kept then uncounted p ∷ [] else [])
    ++ kept_by_rule v (offer_verdict v earlier p ∷ earlier) ps
