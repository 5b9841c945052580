-- Which fragments inodes get. A Run offers its fragments to its inode, in order. An offer is dup where
-- its fragment is in range and used already, by an earlier kept offer or as a reserved one. At its
-- eleventh bad Run or eleventh dup offer an inode is cut: its further steps aren't seen. It keeps each
-- offer that comes before its eleventh bad Run, and no later than its eleventh dup offer. The eleventh
-- dup offer itself is kept, so phase 1b looks for the first offer of its fragment, too.
use Rattle.std.specs.Prelude.{ℕ, Bool, true, false, ◌+◌, ◌&&◌, not, List, [], ◌∷◌, ◌++◌, ◌==◌, nat_lt, slice_set}
use Rattle.std.specs.{Prelude.{if◌then◌else◌, map, replicate}, List.{range_with_len, slice_index_or}}
use Rattle.ffs_volume.specs.declared.{constants.TheConstants.{MAXBAD, MAXDUP}, Layout.Layout, Step.Step}
use Rattle.ffs_volume.specs.declared.{Step.TheVariants.{Run, Tail, Gap}, BlockMessage.{BlockMessage, TheVariants.Bad}}
use Rattle.ffs_volume.specs.declared.BlockMessage.TheVariants.{Dup, ManyBad, ManyDup, PartTrunc}
use Rattle.ffs_volume.specs.Disk.Areas.{is_fragment_in_range, is_run_in_range, is_reserved}
use Rattle.ffs_volume.specs.Blocks.Owners.{Owner, owners_of}

-- the state after some steps: maps of the volume's fragments, how many Runs were seen, and counts
-- of the current inode
pub record Claims : Type 0 where
  pub used : List Bool  -- the fragments that are reserved or claimed
  pub duplicates : List Bool  -- the fragments of kept dup offers
  pub runs : ℕ  -- the Runs that were seen, of all inodes
  pub bad : ℕ  -- the bad Runs of the current inode
  pub dup_offers : ℕ  -- the kept dup offers of the current inode
  pub kept : ℕ  -- the kept offers of the current inode
  pub tail : Bool  -- a Tail of the current inode was seen

-- the fragments that are used from the start: the reserved ones
unfoldable pub reserved_map : Layout → List Bool
reserved_map v = map (is_reserved v) (range_with_len 0 v.size)

-- the state before the first inode: only reserved fragments are used
unfoldable pub no_claims : Layout → Claims
no_claims v = record {
  used = reserved_map v;
  duplicates = replicate v.size false;
  runs = 0;
  bad = 0;
  dup_offers = 0;
  kept = 0;
  tail = false;
}

-- the state where the next inode begins: the counts of the current inode are 0 again
abbrev pub at_next_inode : Claims → Claims
at_next_inode s = record s { bad = 0; dup_offers = 0; kept = 0; tail = false }

-- the flag at an index f is set; past the end of the list none is
abbrev pub is_set : (bits : List Bool) (f : ℕ) → Bool
is_set bits f = slice_index_or bits f false

-- the inode isn't cut, so its next step is seen: it has at most ten bad Runs and at most ten dup offers
abbrev pub is_open : Claims → Bool
is_open s = nat_lt s.bad (MAXBAD + 1) && nat_lt s.dup_offers (MAXDUP + 1)

-- the current inode has a bad Run or a dup offer
abbrev pub has_blame : Claims → Bool
has_blame s = not (s.bad == 0 && s.dup_offers == 0)

-- the state after the offer of f, which is kept unless eleven were dup before it. A fragment in
-- range is claimed, or the offer is dup. One that isn't in range, of a bad Run, is only counted:
-- nothing is claimed
abbrev pub after_offer : Layout → Claims → ℕ → Claims
after_offer v s f =
    if nat_lt s.dup_offers (MAXDUP + 1)
    then (if is_fragment_in_range v f
    then (if is_set s.used f
    then record s { kept = s.kept + 1; dup_offers = s.dup_offers + 1; duplicates = slice_set s.duplicates f true }
    else record s { kept = s.kept + 1; used = slice_set s.used f true })
    else record s { kept = s.kept + 1 })
    else s

-- the lines of one offer: a DUP where it is dup and kept, with EXCESSIVE DUP BLKS after the eleventh
abbrev pub offer_lines : (v : Layout) (inode : ℕ) (s : Claims) (f : ℕ) → List BlockMessage
offer_lines v inode s f =
    if nat_lt s.dup_offers (MAXDUP + 1) && (is_fragment_in_range v f && is_set s.used f)
    then Dup f inode ∷ (if s.dup_offers == MAXDUP then ManyDup inode ∷ [] else [])
    else []

-- the state after offers, one after the other
abbrev pub after_offers : Layout → Claims → List ℕ → Claims
after_offers v s [] = s
after_offers v s (f ∷ fs) = after_offers v (after_offer v s f) fs

-- the lines of offers, one after the other
abbrev pub lines_of_offers : (v : Layout) (inode : ℕ) (s : Claims) (fs : List ℕ) → List BlockMessage
lines_of_offers v inode s [] = []
lines_of_offers v inode s (f ∷ fs) = offer_lines v inode s f ++ lines_of_offers v inode (after_offer v s f) fs

-- the state after a Run is seen. One that isn't in range is bad, and offers its fragments as any
-- other, unless it is the eleventh
abbrev pub after_run : (v : Layout) (s : Claims) (start len : ℕ) → Claims
after_run v s start len =
    if is_run_in_range v start len
    then after_offers v (record s { runs = s.runs + 1 }) (range_with_len start len)
    else (if s.bad == MAXBAD
    then record s { runs = s.runs + 1; bad = s.bad + 1 }
    else after_offers v (record s { runs = s.runs + 1; bad = s.bad + 1 }) (range_with_len start len))

-- the lines of a Run
abbrev pub run_lines : (v : Layout) (inode : ℕ) (s : Claims) (start len : ℕ) → List BlockMessage
run_lines v inode s start len =
    if is_run_in_range v start len
    then lines_of_offers v inode (record s { runs = s.runs + 1 }) (range_with_len start len)
    else Bad start inode ∷ (if s.bad == MAXBAD then ManyBad inode ∷ []
    else lines_of_offers v inode (record s { runs = s.runs + 1; bad = s.bad + 1 }) (range_with_len start len))

-- the state after one step
abbrev pub after_step : Layout → Claims → Step → Claims
after_step v s (Run start len block) = if is_open s then after_run v s start len else s
after_step v s Tail = if is_open s then record s { tail = true } else s
after_step v s Gap = s

-- the lines of one step; the first Tail of an inode has one
abbrev pub step_lines : Layout → ℕ → Claims → Step → List BlockMessage
step_lines v inode s (Run start len block) = if is_open s then run_lines v inode s start len else []
step_lines v inode s Tail = if is_open s && not s.tail then PartTrunc inode ∷ [] else []
step_lines v inode s Gap = []

-- the state after steps, one after the other
abbrev pub after_steps : Layout → Claims → List Step → Claims
after_steps v s [] = s
after_steps v s (step ∷ steps) = after_steps v (after_step v s step) steps

-- the lines of steps, one after the other
abbrev pub lines_of_steps : Layout → ℕ → Claims → List Step → List BlockMessage
lines_of_steps v inode s [] = []
lines_of_steps v inode s (step ∷ steps) =
    step_lines v inode s step ++ lines_of_steps v inode (after_step v s step) steps

-- the state after an inode
abbrev pub after_owner : Layout → Claims → Owner → Claims
after_owner v s o = after_steps v (at_next_inode s) o.steps

-- the state after inodes, one after the other
abbrev pub after_owners : Layout → Claims → List Owner → Claims
after_owners v s [] = s
after_owners v s (o ∷ os) = after_owners v (after_owner v s o) os

-- the state after all inodes of an image
unfoldable pub all_claims : Layout → List ℕ → Claims
all_claims v image = after_owners v (no_claims v) (owners_of v image)
