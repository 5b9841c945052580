-- The Runs of data of an inode come in the order of its logical blocks, and each Run has a fragment
-- at least, and a block's fragments at most.
use Rattle.std.proofs.Common.{zero, suc, ◌≡◌, ℕ, ◌+◌, ◌*◌, ◌%◌, ◌<◌, ◌≤◌, ◌==◌, Bool, true, false, arith, refl, List}
use Rattle.std.proofs.Common.{[], ◌∷◌, ◌++◌, Some, None, nat_eq, if◌then◌else◌, slice_index, flat_map, mul-le-mul_right}
use Rattle.std.proofs.{Common.{append-nil, All}, lemmas.{Bool.Decides.nat_tests, Grind.div_ceil_times}}
use Rattle.std.{proofs.lemmas.List.Elements.{All-nil, All-cons}, specs.{Int.div_ceil, List.range_with_len}}
use Rattle.ffs_volume.specs.Blocks.{Inodes.{logical_blocks_of, addresses_needed}, Steps.{FileBlocks, block_bytes}}
use Rattle.ffs_volume.specs.Blocks.Steps.{address_at, indirect_addresses_needed, tail_of, any_nonzero_from, steps_under}
use Rattle.ffs_volume.specs.Blocks.Steps.{span_of, indirect_steps, steps_at, indirection_of, first_block}
use Rattle.ffs_volume.specs.{Blocks.Steps.{last_length_of, is_walked, steps_of}, Disk.Areas.is_run_in_range}
use Rattle.ffs_volume.specs.{Laws.{Geometry.IsAcceptedLayout, RunLengths.HasLength}, declared.Inode.Inode}
use Rattle.ffs_volume.specs.declared.{Layout.Layout, Step.{Step, TheVariants.{Run, Tail, Gap}}}

-- the blocks of the data are from `low` on, ascending, and below `high`; each Run has a fragment at
-- least, and `frag` at most
abbrev pub Within : ℕ → ℕ → ℕ → List Step → Type 0
Within frag low high [] = low ≤ high
Within frag low high (Run start len (Some block) ∷ steps) = (low ≤ block) × HasLength frag (Run start len (Some block))
    × Within frag (block + 1) high steps
Within frag low high (Run start len None ∷ steps) = HasLength frag (Run start len None) × Within frag low high steps
Within frag low high (Tail ∷ steps) = Within frag low high steps
Within frag low high (Gap ∷ steps) = Within frag low high steps

pub within_lower : (frag low mid high : ℕ) (xs : List Step) → low ≤ mid → Within frag mid high xs →
    Within frag low high xs
within_lower frag low mid high [] l w = omega arith
within_lower frag low mid high (Run start len (Some block) ∷ xs) l w = let a = w.0 in (omega arith, w.1, w.2)
within_lower frag low mid high (Run start len None ∷ xs) l w = (w.0, within_lower frag low mid high xs l w.1)
within_lower frag low mid high (step ∷ xs) l w = within_lower frag low mid high xs l w

within_append : (frag low mid high : ℕ) (xs ys : List Step) → Within frag low mid xs → Within frag mid high ys →
    Within frag low high (xs ++ ys)
within_append frag low mid high [] ys w v = within_lower frag low mid high ys w v
within_append frag low mid high (Run start len (Some block) ∷ xs) ys w v =
    (w.0, w.1, within_append frag (block + 1) mid high xs ys w.2 v)
within_append frag low mid high (Run start len None ∷ xs) ys w v = (w.0, within_append frag low mid high xs ys w.1 v)
within_append frag low mid high (step ∷ xs) ys w v = within_append frag low mid high xs ys w v

-- steps under numbers one after the other, where those under j begin at `place j`
within_flat : (frag : ℕ) (steps : ℕ → List Step) (place : ℕ → ℕ) (next count : ℕ) →
    ((j : ℕ) → j < next + count → Within frag (place j) (place (j + 1)) (steps j)) →
    Within frag (place next) (place (next + count)) (flat_map steps (range_with_len next count))
within_flat frag steps place next zero h = let e : next + 0 ≡ next = omega arith in rw e (omega arith)
within_flat frag steps place next (suc count) h =
    let e : next + suc count ≡ (next + 1) + count = omega arith in
    rw e (within_append frag _ _ _ (steps next) _ (h next (omega arith))
    (within_flat frag steps place (next + 1) count (λ j l. h j (omega arith))))

within_long : (frag low high : ℕ) (xs : List Step) → Within frag low high xs → All (HasLength frag) xs
within_long frag low high [] w = All-nil (HasLength frag)
within_long frag low high (Run start len (Some block) ∷ xs) w =
    All-cons (HasLength frag) (Run start len (Some block)) xs w.1 (within_long frag (block + 1) high xs w.2)
within_long frag low high (Run start len None ∷ xs) w =
    All-cons (HasLength frag) (Run start len None) xs w.0 (within_long frag low high xs w.1)
within_long frag low high (step ∷ xs) w = All-cons (HasLength frag) step xs tt (within_long frag low high xs w)

-- the last block has a fragment at least, and a block's fragments at most
abbrev IsFit : FileBlocks → Type 0
IsFit t = (0 < t.last_length) × (t.last_length ≤ t.layout.frag)

indirect_within : (t : FileBlocks) (bytes : List ℕ) (child : ℕ → ℕ → List Step) (span address first : ℕ) → IsFit t
    → ((a f : ℕ) → Within t.layout.frag f (f + span) (child a f))
    → Within t.layout.frag first (first + t.layout.nindir * span) (indirect_steps t bytes child span address first)
indirect_within t bytes child span address first l h =
    one (nat_eq address 0) (is_run_in_range t.layout address t.layout.frag)
  where
    used : ℕ
    used = indirect_addresses_needed t.layout.nindir t.blocks first span

    under : List Step
    under = steps_under t.layout bytes child span address first 0 used

    tail : List Step
    tail = tail_of (any_nonzero_from t.layout (block_bytes t.layout bytes address) used)

    inner : Within t.layout.frag first (first + t.layout.nindir * span) (tail ++ under)
    inner =
        let most : used * span ≤ t.layout.nindir * span = mul-le-mul_right span (omega arith) in
        let u = within_flat t.layout.frag (λ j. child (address_at t.layout bytes address j) (first + j * span))
        (λ j. first + j * span) 0 used
        (λ j low. let m : first + (j + 1) * span ≡ first + j * span + span = omega arith in rw m (h _ _)) in
        let z : first + 0 * span ≡ first = omega arith in
        let y : 0 + used ≡ used = omega arith in
        let whole = within_append t.layout.frag first (first + used * span) (first + t.layout.nindir * span) under []
        (rw (z, y) at u) (omega arith) in
        within_append t.layout.frag first first _ tail under (grind arith) (rw append-nil at whole)

    one : (a b : Bool) → Within t.layout.frag first (first + t.layout.nindir * span)
        (if a then Gap ∷ [] else Run address t.layout.frag None ∷ (if b then tail ++ under else []))
    one true b = omega arith
    one false b = grind (arith, inner)

pub span_more : (words level : ℕ) → words * span_of words level ≡ span_of words (suc level)
span_more words zero = omega arith
span_more words (suc level) = refl

at_within : (t : FileBlocks) (bytes : List ℕ) (level address first : ℕ) → IsFit t
    → Within t.layout.frag first (first + span_of t.layout.nindir level) (steps_at t bytes level address first)
unfolding steps_at
at_within t bytes zero address first l = grind arith
at_within t bytes (suc level) address first l = rw (← span_more t.layout.nindir level)
    (indirect_within t bytes (steps_at t bytes level) _ address first l (λ a f. at_within t bytes level a f l))

-- where the blocks under each of the fifteen addresses begin, and after them where the last ones end
abbrev first_or_end : ℕ → ℕ → ℕ
first_or_end words i =
    if i == 15 then first_block words 14 + span_of words (indirection_of 14) else first_block words i

next_or_end : (words i : ℕ) → i < 15 → first_block words i + span_of words (indirection_of i) ≡ first_or_end words (i + 1)
next_or_end words i h = grind (arith, nat_tests)

-- how many units cover n, which is some and less than `frag` of them
ceil_fits : (n k frag unit : ℕ) → 0 < n → n ≤ k * unit → k * unit < n + unit → n < frag * unit → (0 < k) × (k ≤ frag)
ceil_fits n k frag unit some low high less = grind arith

last_fits : (v : Layout) (i : Inode) → IsAcceptedLayout v → (0 < last_length_of v i) × (last_length_of v i ≤ v.frag)
last_fits v i g =
    let n = i.size % v.bsize in
    let sizes = g.sizes in
    let ceil = div_ceil_times n v.fsize (omega arith) in
    let fits = ceil_fits n (div_ceil n v.fsize) v.frag v.fsize in
    grind (arith, nat_tests)

pub used_most : (words blocks : ℕ) → addresses_needed words blocks ≤ 15
used_most words blocks = grind (arith, nat_tests)

-- the steps of an inode
pub steps_within : (v : Layout) (i : Inode) (bytes : List ℕ) → IsAcceptedLayout v → (high : ℕ)
    × Within v.frag 0 high (steps_of v i bytes)
unfolding steps_of
steps_within v i bytes g = (_, within_flat v.frag _ (first_or_end v.nindir) 0 (addresses_needed v.nindir t.blocks) each)
  where
    t : FileBlocks
    t = record {
      layout = v;
      blocks = if is_walked v i then logical_blocks_of v i else 0;
      last_length = last_length_of v i;
    }

    each : (j : ℕ) → j < 0 + addresses_needed v.nindir t.blocks → Within v.frag (first_or_end v.nindir j)
        (first_or_end v.nindir (j + 1))
        (steps_at t bytes (indirection_of j) (slice_index i.addresses j) (first_block v.nindir j))
    each j low =
        let few = used_most v.nindir t.blocks in
        let a : (j == 15) ≡ false = grind (arith, nat_tests) in
        rw (a, ← next_or_end v.nindir j (omega arith))
        (at_within t bytes _ _ (first_block v.nindir j) (last_fits v i g))

-- each of them has a length
pub steps_long : (v : Layout) (i : Inode) (bytes : List ℕ) → IsAcceptedLayout v
    → All (HasLength v.frag) (steps_of v i bytes)
steps_long v i bytes g = let w = steps_within v i bytes g in within_long v.frag 0 w.0 (steps_of v i bytes) w.1
