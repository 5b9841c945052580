-- The logical blocks of an inode's Runs rise, and are below the number of its logical blocks.
use Rattle.std.proofs.{lemmas.Bool.Decides.nat_tests, Common.{zero, suc, ◌≡◌, ℕ, ◌+◌, ◌*◌, ◌<◌, ◌≤◌, true, arith, refl}}
use Rattle.std.proofs.Common.{List, [], ◌∷◌, ◌++◌, append_assoc, nat_lt, if◌then◌else◌, slice_index}
use Rattle.std.{proofs.{lemmas.List.Folds.list_all-append, Math.Nat.mul-le-mul_right}, specs.List.{list_all, flat_map}}
use Rattle.std.specs.List.{range_with_len}
use Rattle.ffs_volume.specs.{declared.Step.Step, Blocks.Steps.{FileBlocks, address_at, indirect_addresses_needed}}
use Rattle.ffs_volume.specs.Blocks.Steps.{span_of, steps_at, indirection_of, first_block, steps_of_addresses, is_walked}
use Rattle.ffs_volume.specs.Blocks.{Steps.{last_length_of, steps_of}, Inodes.{logical_blocks_of, addresses_needed}}
use Rattle.ffs_volume.proofs.StepLaws.{span_more, used_most}
use Rattle.ffs_certificate.specs.BlocksRise.{blocks_in, AreRising, AllBlocksRise}

-- numbers that rise from `low` on, below `high`, and all below a bound
abbrev Rises : ℕ → ℕ → List ℕ → Type 0
Rises low high [] = low ≤ high
Rises low high (b ∷ bs) = (low ≤ b) × Rises (b + 1) high bs

rise_lower : (a b c : ℕ) (xs : List ℕ) → a ≤ b → Rises b c xs → Rises a c xs
rise_lower a b c [] le r = omega (arith, le, r)
rise_lower a b c (x ∷ xs) le r = (let first = r.0 in omega (arith, le, first), r.1)

rise_upper : (a b c : ℕ) (xs : List ℕ) → b ≤ c → Rises a b xs → Rises a c xs
rise_upper a b c [] le r = omega (arith, le, r)
rise_upper a b c (x ∷ xs) le r = (r.0, rise_upper (x + 1) b c xs le r.1)

rise_join : (a b c : ℕ) (xs ys : List ℕ) → Rises a b xs → Rises b c ys → Rises a c (xs ++ ys)
rise_join a b c [] ys r s = rise_lower a b c ys r s
rise_join a b c (x ∷ xs) ys r s = (r.0, rise_join (x + 1) b c xs ys r.1 s)

rising_lower : (a b : ℕ) (xs : List ℕ) → a ≤ b → AreRising b xs → AreRising a xs
rising_lower a b [] le r = tt
rising_lower a b (x ∷ xs) le r = (let first = r.0 in omega (arith, le, first), r.1)

rising_join : (a b : ℕ) (xs ys : List ℕ) → Rises a b xs → AreRising b ys → AreRising a (xs ++ ys)
rising_join a b [] ys r s = rising_lower a b ys r s
rising_join a b (x ∷ xs) ys r s = (r.0, rising_join (x + 1) b xs ys r.1 s)

blocks_append : (xs ys : List Step) → blocks_in (xs ++ ys) ≡ blocks_in xs ++ blocks_in ys
blocks_append [] ys = refl
blocks_append (x ∷ xs) ys = simp (append_assoc, blocks_append xs ys)

-- what some steps have: blocks from low to high, all below the number of blocks
record Within (nb low high : ℕ) (steps : List Step) : Type 0 where
  rises : Rises low high (blocks_in steps)
  below : list_all (λ b. nat_lt b nb) (blocks_in steps) ≡ true

-- spans
span_some : (words level : ℕ) → 0 < words → 0 < span_of words level
span_some words zero some = omega arith
span_some words (suc level) some =
    let rest = span_some words level some in
    let more : 1 * span_of words level ≤ words * span_of words level = mul-le-mul_right (span_of words level) some in
    let whole = span_more words level in
    omega (arith, rest, more, whole)

-- the logical blocks under a word that is used
word_below : (words nb first span j : ℕ) → 0 < span → j < indirect_addresses_needed words nb first span →
    first + j * span < nb
word_below words nb first span j some lt = grind arith

under_within : (nb span first : ℕ) (f : ℕ → List Step) (next count : ℕ) →
    ((j : ℕ) → next ≤ j → j < next + count → Within nb (first + j * span) (first + j * span + span) (f j)) →
    Within nb (first + next * span) (first + (next + count) * span) (flat_map f (range_with_len next count))
under_within nb span first f next zero h = grind arith
under_within nb span first f next (suc count) h =
    let here = h next (omega arith) (omega arith) in
    let rest = under_within nb span first f (next + 1) count (λ j low high. h j (omega arith) (omega arith)) in
    let step : first + next * span + span ≡ first + (next + 1) * span = omega arith in
    let end : next + suc count ≡ next + 1 + count = omega arith in
    rw end (grind (arith, blocks_append, rise_join, list_all-append))

-- a level of indirection
at_within : (t : FileBlocks) (bytes : List ℕ) (level address first : ℕ) → first < t.blocks →
    Within t.blocks first (first + span_of t.layout.nindir level) (steps_at t bytes level address first)
unfolding steps_at
at_within t bytes zero address first lt = grind arith
at_within t bytes (suc level) address first lt =
    let words = t.layout.nindir in
    let span = span_of words level in
    let used = indirect_addresses_needed words t.blocks first span in
    let all = under_within t.blocks span first
    (λ j. steps_at t bytes level (address_at t.layout bytes address j) (first + j * span)) 0 used (λ j low few.
    at_within t bytes level _ _
    (word_below words t.blocks first span j (span_some words level (omega arith)) (omega arith))) in
    let u : used ≤ words = omega arith in
    let most : used * span ≤ words * span = mul-le-mul_right span u in
    grind (arith, rise_upper)

first_below : (words blocks i : ℕ) → i < addresses_needed words blocks → first_block words i < blocks
first_below words blocks i h = grind arith

-- all addresses from one on
record Goes (t : FileBlocks) (low : ℕ) (steps : List Step) : Type 0 where
  rising : AreRising low (blocks_in steps)
  below : list_all (λ b. nat_lt b t.blocks) (blocks_in steps) ≡ true

addresses_go : (t : FileBlocks) (bytes addresses : List ℕ) (next count : ℕ) → next + count ≤ 15 →
    next + count ≤ addresses_needed t.layout.nindir t.blocks →
    Goes t (first_block t.layout.nindir next) (steps_of_addresses t bytes addresses next count)
addresses_go t bytes addresses next zero le used = record { rising = tt; below = refl }
addresses_go t bytes addresses next (suc count) le used =
    let words = t.layout.nindir in
    let here = at_within t bytes (indirection_of next) (slice_index addresses next) (first_block words next)
    (first_below words t.blocks next (omega (arith, used))) in
    let rest = addresses_go t bytes addresses (next + 1) count (omega (arith, le)) (omega (arith, used)) in
    grind (arith, blocks_append, rising_join, list_all-append)

below_more : (n m : ℕ) (xs : List ℕ) → n ≤ m → list_all (λ b. nat_lt b n) xs ≡ true →
    list_all (λ b. nat_lt b m) xs ≡ true
below_more n m [] le h = refl
below_more n m (x ∷ xs) le h = let more = below_more n m xs le in grind (arith, nat_tests)

pub all_blocks_rise : AllBlocksRise
unfolding steps_of
all_blocks_rise v i image =
    let nb = if is_walked v i then logical_blocks_of v i else 0 in
    let few = used_most v.nindir nb in
    let t : FileBlocks = record { layout = v; blocks = nb; last_length = last_length_of v i } in
    let steps = addresses_go t image i.addresses 0 (addresses_needed v.nindir nb) (omega arith) (omega arith) in
    record { rising = steps.rising; below = below_more nb (logical_blocks_of v i) _ (grind arith) steps.below }
