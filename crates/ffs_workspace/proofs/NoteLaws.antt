-- What a note says of an inode.
use Rattle.std.proofs.Common.{◌≡◌, ℕ, ◌+◌, ◌<◌, Bool, true, false, List, arith, refl, ap, sym, ◌∙◌}
use Rattle.std.{specs.Prelude.{slice_index, nat_lt, ◌==◌, if◌then◌else◌}, proofs.lemmas.Bool.Decides.nat_tests}
use Rattle.ffs_volume.specs.declared.{Layout.Layout, Inode.Inode, Class.{Class, TheVariants.Dir}}
use Rattle.ffs_volume.specs.{Laws.Geometry.IsAcceptedLayout, Blocks.{Inodes.inode_of, Steps.steps_of, Owners.owner_of}}
use Rattle.ffs_volume.specs.Blocks.{Claims.{at_next_inode, after_steps}, KeptSteps.claims_before}
use Rattle.ffs_volume.specs.{Directories.Volumes.class_at, Encodings.Replay.{cut_at}}
use Rattle.ffs_volume.proofs.{Potentials.{owner_moves, kept_bound}, CutLaws.{before_length, cut_is}}
use Rattle.ffs_volume.specs.Encodings.Notes.{first_noted, note_of, note_at, cut_in}

-- an inode keeps fewer offers than the first note of an address
kept_few : (v : Layout) (image : List ℕ) (x : ℕ) → IsAcceptedLayout v
    → (after_steps v (at_next_inode (claims_before v image x)) (steps_of v (inode_of v image x) image)).kept < first_noted
unfolding owner_of
kept_few v image x g =
    let s = at_next_inode (claims_before v image x) in
    let e = after_steps v s (steps_of v (inode_of v image x) image) in
    let h = before_length v image x g in
    let m = owner_moves v image (claims_before v image x) x g h in
    omega (arith, kept_bound s e v.size (m.used_length ∙ h) (omega arith) (omega arith) refl m, g.numbers.size_below)

cut_few : (v : Layout) (image : List ℕ) (x : ℕ) → IsAcceptedLayout v → cut_at v image x < first_noted
cut_few v image x g = grind (arith, cut_is, kept_few)

not_below : (a : ℕ) → nat_lt (first_noted + a) first_noted ≡ false
not_below a = grind (arith, nat_tests)

zero_of : (n : ℕ) → (n == 0) ≡ true → n ≡ 0
zero_of n h = grind (arith, nat_tests)

cut_noted : (class : Class) (i : Inode) (cut : ℕ) → cut < first_noted → cut_in (note_of class i cut) ≡ cut
cut_noted class i cut few = grind (arith, not_below, zero_of, nat_tests)

-- the cut of an inode is what its note says
pub cut_is_noted : (v : Layout) (image : List ℕ) (x : ℕ) → IsAcceptedLayout v → cut_in (note_at v image x) ≡ cut_at v image x
unfolding note_at
cut_is_noted v image x g = cut_noted (class_at v image x) (inode_of v image x) (cut_at v image x) (cut_few v image x g)

-- a directory of one chunk, at this address
pub record IsOneChunkAt (class : Class) (i : Inode) (address : ℕ) : Type 0 where
  pub is_dir : class ≡ Dir
  pub size : i.size ≡ 512
  pub address_is : slice_index i.addresses 0 ≡ address

address_noted : (class : Class) (i : Inode) (cut a : ℕ) → cut < first_noted → note_of class i cut ≡ first_noted + a →
    IsOneChunkAt class i a
address_noted class i cut a few h = grind (arith, nat_tests)

-- a note of an address is that of a directory of one chunk
pub address_is_noted : (v : Layout) (image : List ℕ) (x a : ℕ) → IsAcceptedLayout v → note_at v image x ≡ first_noted + a
    → IsOneChunkAt (class_at v image x) (inode_of v image x) a
unfolding note_at
address_is_noted v image x a g = address_noted (class_at v image x) (inode_of v image x) (cut_at v image x) a (cut_few v image x g)

-- and it isn't cut
pub address_is_whole : (v : Layout) (image : List ℕ) (x a : ℕ) → IsAcceptedLayout v → note_at v image x ≡ first_noted + a
    → cut_at v image x ≡ 0
address_is_whole v image x a g h = sym (cut_is_noted v image x g) ∙ (ap cut_in h
    ∙ ap (λ (b : Bool). if b then first_noted + a else 0) (not_below a))
