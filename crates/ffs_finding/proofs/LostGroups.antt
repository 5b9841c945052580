-- What the maps of groups say wrongly: of one group by what the program has of its map, and of all groups.
use Rattle.std.proofs.Common.{◌≡◌, ◌∙◌, ℕ, ◌+◌, ◌-◌, ◌<◌, ◌≤◌, Bool, true, false, List, [], ◌++◌, arith, refl, sym}
use Rattle.std.proofs.Common.{subst}
use Rattle.ffs_image.specs.{Device.Device, Known.ForBytes}
use Rattle.ffs_volume.specs.{declared.Layout.Layout, Disk.Areas.cgbase, Groups.Records.{bit_at, fragment_map_place}}
use Rattle.ffs_volume.{specs.Groups.Records.{group_block, group_size, has_bits, same_bit}, proofs.Below.all_below-at}
use Rattle.ffs_volume.specs.{Find.Lost.{has_map, lost_lines, stretch_lines}, Blocks.Claims.all_claims}
use Rattle.ffs_groups.specs.Free.{free_in}
use Rattle.ffs_maps.specs.Bits.{bits_of}
use Rattle.ffs_workspace.specs.declared.workspace.Workspace.{Workspace}
use Rattle.ffs_finding.specs.{Claims.WithBlocks, LostMaps.{from_group, is_wrong_by, lines_of_group, lines_of_groups, word_of}}
use Rattle.ffs_finding.{specs.declared.lost.Wrong.{Wrong, TheVariants.{Lost, MarkedFree}}, proofs.Ranges.{next, none}}

pub with_map : (how : Wrong) (v : Layout) (used : List Bool) (size base end place c : ℕ) (block : List ℕ) →
    has_map v block ≡ true → place ≡ fragment_map_place v block → size ≡ v.size → base ≡ cgbase v c →
    end ≡ base + group_size v c →
    lines_of_group how v (free_in used v.size) c block
    ≡ stretch_lines (word_of how) (λ f. is_wrong_by how (free_in used size f)
    (bit_at block place (f - base))) base end
with_map Lost v used size base end place c block some at is from to = rw (some, at, is, to, from) refl
with_map MarkedFree v used size base end place c block some at is from to = rw (some, at, is, to, from) refl

-- a map that is right says nothing wrongly
wrong_none : (how : Wrong) (free marked : Bool) → same_bit marked free ≡ true → is_wrong_by how free marked ≡ false
wrong_none Lost free marked same = grind arith
wrong_none MarkedFree free marked same = grind arith

no_stretch : (word : List ℕ) (p : ℕ → Bool) (base n : ℕ) → ((f : ℕ) → base ≤ f → f < base + n → p f ≡ false) →
    stretch_lines word p base (base + n) ≡ []
unfolding stretch_lines
no_stretch word p base n fail = grind (arith, none)

pub right_map : (how : Wrong) (v : Layout) (used : List Bool) (size place c : ℕ) (block : List ℕ) →
    has_map v block ≡ true →
    place ≡ fragment_map_place v block → size ≡ v.size →
    has_bits block place (group_size v c) (λ k. free_in used v.size (cgbase v c + k)) ≡ true →
    lines_of_group how v (free_in used v.size) c block ≡ []
right_map how v used size place c block some at is right =
    let free = free_in used v.size in
    let base = cgbase v c in
    with_map how v used v.size base (base + group_size v c) place c block some at refl refl refl
    ∙ no_stretch (word_of how) (λ f. is_wrong_by how (free f) (bit_at block place (f - base))) base (group_size v c)
    (λ f low high.
    let back : base + (f - base) ≡ f = omega (arith, low) in
    let same = all_below-at (group_size v c) (f - base) (λ k. same_bit (bit_at block place k) (free (base + k))) right
    (omega (arith, low, high)) in
    wrong_none how (free f) (bit_at block place (f - base))
    (subst (λ (k : ℕ). same_bit (bit_at block place (f - base)) (free k) ≡ true) back same))

module _ (how : Wrong) (v : Layout) (free : ℕ → Bool) where
  pub groups_begin : (image : List ℕ) → from_group how v free 0 image ≡ lines_of_groups how v free image
  groups_begin image = let all : v.ncg - 0 ≡ v.ncg = omega arith in rw all refl

  -- the lines of one group, and of those after it
  pub groups_next : (image block : List ℕ) (c : ℕ) → c < v.ncg → block ≡ group_block v image c →
      from_group how v free c image ≡ lines_of_group how v free c block ++ from_group how v free (c + 1) image
  groups_next image block c low is =
      let left : v.ncg - c - 1 ≡ v.ncg - (c + 1) = omega arith in
      rw (is, sym left)
      (next (λ g. lines_of_group how v free g (group_block v image g)) c (v.ncg - c) (omega (arith, low)))

  pub groups_end : (image : List ℕ) (c : ℕ) → v.ncg ≤ c → from_group how v free c image ≡ []
  groups_end image c past = let none : v.ncg - c ≡ 0 = omega arith in rw none refl

-- the lines of an image are those of lost fragments, and then those of fragments that are marked as free
pub both : (v : Layout) (d : Device) (w : Workspace) → ForBytes (WithBlocks v d w)
    (λ b. lost_lines v b ≡ lines_of_groups Lost v (free_in (bits_of w.used) v.size) b
    ++ lines_of_groups MarkedFree v (free_in (bits_of w.used) v.size) b)
unfolding lost_lines all_claims
both v d w b k = rw (k.1.used) refl
