-- Words of zero are gaps, at every level.
use Rattle.std.proofs.Common.{◌≡◌, ℕ, zero, suc, ◌+◌, ◌-◌, ◌*◌, ◌<◌, ◌≤◌, false, if◌then◌else◌, List, [], ◌∷◌, ◌++◌}
use Rattle.std.proofs.{Common.{replicate, slice_index, append_assoc, arith, refl, ap, ◌∙◌}, Math.Nat.mul-le-mul_right}
use Rattle.ffs_volume.specs.{declared.{Layout.Layout, Step.{Step, TheVariants.Gap}}, Blocks.Steps.FileBlocks}
use Rattle.ffs_volume.specs.Blocks.Steps.{block_bytes, address_in, address_at, tail_of, any_nonzero_from, steps_under}
use Rattle.ffs_volume.specs.Blocks.Steps.{steps_at, steps_of_addresses}
use Rattle.ffs_walk.specs.{declared.{frame.Frame.Frame, walk.Walk.Walk}, Frames.frame_rest, Rests.IsAtTop}
use Rattle.ffs_walk.specs.Rests.{file_blocks_of, steps_left, single_rest, double_rest, triple_rest}
use Rattle.ffs_walk.{specs.Skips.EndsZeroAddresses, proofs.{FrameSteps.next_word, WalkSteps.next_address}}
use Rattle.ffs_walk.proofs.WalkSteps.{rest_at_top, spent_rest}

-- so many words of zero in a row
gaps_under : (g : Layout) (bytes : List ℕ) (child : ℕ → ℕ → List Step) (span address first used n next : ℕ) →
    ((block : ℕ) → child 0 block ≡ Gap ∷ []) → next + n ≤ used →
    ((k : ℕ) → next ≤ k → k < next + n → address_at g bytes address k ≡ 0) →
    steps_under g bytes child span address first next (used - next) ≡ replicate n Gap ++ steps_under g bytes child span
    address first (next + n) (used - (next + n))
gaps_under g bytes child span address first used zero next gap h zeros = grind arith
gaps_under g bytes child span address first used (suc n) next gap h zeros =
    let rest = gaps_under g bytes child span address first used n (next + 1) gap (omega arith)
    (λ k l m. zeros k (omega arith) (omega arith)) in
    grind (arith, rest, next_word)

-- what is left in a frame whose block is read before
pub was_read : (g : Layout) (bytes : List ℕ) (child : ℕ → ℕ → List Step) (span : ℕ) (f : Frame) → f.unread ≡ false →
    frame_rest g bytes child span f ≡ steps_under g bytes child span f.address f.first f.next (f.used - f.next)
was_read g bytes child span f e = rw e refl

pub gaps_passed : (g : Layout) (bytes : List ℕ) (child : ℕ → ℕ → List Step) (span n next : ℕ) (f : Frame)
    (block : List ℕ) → ((block : ℕ) → child 0 block ≡ Gap ∷ []) →
    f.unread ≡ false → next ≡ f.next + n → next ≤ f.used → block ≡ block_bytes g bytes f.address →
    ((k : ℕ) → f.next ≤ k → k < next → address_in g block k ≡ 0) →
    frame_rest g bytes child span f
    ≡ replicate n Gap ++ ((if f.unread then tail_of (any_nonzero_from g (block_bytes g bytes f.address) f.used) else [])
    ++ steps_under g bytes child span f.address f.first next (f.used - next))
gaps_passed g bytes child span n next f block gap read moved h is zeros = grind (arith, gaps_under)

-- ---- in a walk, the frames before are spent
pub in_first : (s s' o r : List Step) → s ≡ r ++ s' → s ++ o ≡ r ++ (s' ++ o)
in_first s s' o r e = ap (λ xs. xs ++ o) e ∙ append_assoc r s' o

pub in_second : (s d d' o r : List Step) → s ≡ [] → d ≡ r ++ d' → s ++ (d ++ o) ≡ r ++ (s ++ (d' ++ o))
in_second s d d' o r none e = rw none (in_first d d' o r e)

pub in_third : (s d t t' o r : List Step) → s ≡ [] → d ≡ [] → t ≡ r ++ t' →
    s ++ (d ++ (t ++ o)) ≡ r ++ (s ++ (d ++ (t' ++ o)))
in_third s d t t' o r none none' e = rw (none, none') (in_first t t' o r e)

-- an address of zero is a gap, at every level
pub zero_gap : (t : FileBlocks) (bytes : List ℕ) (level block : ℕ) → steps_at t bytes level 0 block ≡ Gap ∷ []
unfolding steps_at
zero_gap t bytes zero block = refl
zero_gap t bytes (suc level) block = refl

-- so many addresses of zero in a row
pub gaps_at_addresses : (t : FileBlocks) (bytes addresses : List ℕ) (used n next : ℕ) → next + n ≤ used →
    ((k : ℕ) → next ≤ k → k < next + n → slice_index addresses k ≡ 0) →
    steps_of_addresses t bytes addresses next (used - next)
    ≡ replicate n Gap ++ steps_of_addresses t bytes addresses (next + n) (used - (next + n))
gaps_at_addresses t bytes addresses used zero next h zeros = grind arith
gaps_at_addresses t bytes addresses used (suc n) next h zeros =
    let rest = gaps_at_addresses t bytes addresses used n (next + 1) (omega arith)
    (λ k l m. zeros k (omega arith) (omega arith)) in
    grind (arith, rest, next_address, zero_gap)

-- the same of the addresses of a walk that is in no indirect block
pub gaps_at_top : (w : Walk) (bytes : List ℕ) (end : ℕ) → IsAtTop w → EndsZeroAddresses w end →
    steps_left bytes w ≡ replicate (end - w.next) Gap ++ (single_rest bytes w ++ (double_rest bytes w
    ++ (triple_rest bytes w ++ steps_of_addresses (file_blocks_of w) bytes w.addresses end (w.used - end))))
gaps_at_top w bytes end top ends =
    let g = w.geometry.layout in
    let whole : w.next + (end - w.next) ≡ end = omega (arith, ends.within.0) in
    let here = gaps_at_addresses (file_blocks_of w) bytes w.addresses w.used (end - w.next) w.next
    (omega (arith, whole, ends.within.1)) (λ k l m. ends.zeros k l (omega (arith, m, whole))) in
    grind (arith, here, rest_at_top, spent_rest)

-- fewer are left after an index further on
pub fewer : (used next end most : ℕ) → next ≤ end → (used - end) * most ≤ (used - next) * most
fewer used next end most le = mul-le-mul_right most (omega arith)

-- gaps are passed over in one of the frames of a walk
pub ruleset passing = (in_first, in_second, in_third, spent_rest, zero_gap)
