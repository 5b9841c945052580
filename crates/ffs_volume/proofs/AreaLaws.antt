-- Laws of the areas of an accepted layout.
use Rattle.std.proofs.Common.{zero, suc, ◌≡◌, ℕ, ◌+◌, ◌-◌, ◌*◌, ◌/◌, ◌<◌, ◌≤◌, Bool, true, false, arith}
use Rattle.std.proofs.{Common.{mul-le-mul_right, nat_lt, nat_le, ◌&&◌}, lemmas.Bool.Decides.nat_tests}
use Rattle.std.{proofs.lemmas.{Grind.div_ceil_times, Nat.{div_below, mul-le}}, specs.Int.div_ceil}
use Rattle.ffs_volume.specs.Disk.Areas.{cgbase, cgstart, cgsblock, cgdmin, group_place, is_group_metadata}
use Rattle.ffs_volume.{proofs.SearchLaws.some_below-suc, specs.Disk.{Outcome.copy_place, Search.first_below}}
use Rattle.ffs_volume.specs.{Disk.Search.some_below, Laws.Geometry.IsAcceptedLayout, declared.Layout.Layout}

-- a test that at most one number passes
some_below-only : (n i : ℕ) (test : ℕ → Bool) → ((c : ℕ) → c < n → test c ≡ true → c ≡ i) →
    some_below test n ≡ (nat_lt i n && test i)
unfolding first_below
some_below-only zero i test only = grind (arith, nat_tests)
some_below-only (suc n) i test only = grind (arith, nat_tests, some_below-suc, some_below-only n i test)

-- the group of a fragment between a group's base and its end
pub group_is : (v : Layout) (c f : ℕ) → cgbase v c ≤ f → f < cgbase v (c + 1) → f / v.fpg ≡ c
unfolding cgbase
group_is v c f low high = grind arith

-- whether f is in the metadata of group c
abbrev pub is_in_metadata_of : Layout → ℕ → ℕ → Bool
is_in_metadata_of v c f = nat_le (cgsblock v c) f && nat_lt f (cgdmin v c)

-- a fragment can be metadata of its own group alone
pub is_metadata_of_group : (v : Layout) (f : ℕ) → IsAcceptedLayout v →
    is_group_metadata v f ≡ (nat_lt (f / v.fpg) v.ncg && is_in_metadata_of v (f / v.fpg) f)
unfolding is_group_metadata cgstart
is_metadata_of_group v f g =
    some_below-only v.ncg (f / v.fpg) (λ c. is_in_metadata_of v c f)
    (λ c h e. grind (arith, nat_tests, group_is, g.groups c h))

-- a fragment below size is of a group
pub group_below : (v : Layout) (f : ℕ) → IsAcceptedLayout v → f < v.size → f / v.fpg < v.ncg
group_below v f g h = div_below f v.fpg v.ncg (omega arith) (omega arith)

pub inode_group : (v : Layout) (x : ℕ) → IsAcceptedLayout v → x < v.ncg * v.ipg → x / v.ipg < v.ncg
inode_group v x g h = div_below x v.ipg v.ncg (omega arith) h

-- the last copy of the superblock is in the volume
pub copy_inside : (v : Layout) → IsAcceptedLayout v → copy_place v + 1376 ≤ v.size * v.fsize
copy_inside v g =
    let group = g.groups (v.ncg - 1) (omega arith) in
    let ends : cgsblock v (v.ncg - 1) + div_ceil v.sbsize v.fsize ≤ v.size = omega arith in
    grind (arith, div_ceil_times, mul-le-mul_right v.fsize ends)

-- no fragment from size on is a group's metadata
pub no_metadata_past_size : (v : Layout) (f : ℕ) → IsAcceptedLayout v → v.size ≤ f → is_group_metadata v f ≡ false
no_metadata_past_size v f g h = grind (arith, is_metadata_of_group)

group_ends : (start block inodes parts size fsize cgsize fragments : ℕ) → cgsize ≤ fragments * fsize →
    block + fragments ≤ inodes → inodes ≤ parts → start + parts ≤ size →
    (start + block) * fsize + cgsize ≤ size * fsize
group_ends start block inodes parts size fsize cgsize fragments a b d e =
    omega (arith, a, mul-le (start + block + fragments) fsize size fsize (omega arith) (omega arith))

-- the block of a group lies within the volume
pub group_block_inside : (v : Layout) (c : ℕ) → IsAcceptedLayout v → c < v.ncg →
    group_place v c + v.cgsize ≤ v.size * v.fsize
group_block_inside v c g h =
    group_ends (cgstart v c) v.cblkno v.iblkno v.dblkno v.size v.fsize v.cgsize (div_ceil v.cgsize v.fsize)
    (div_ceil_times v.cgsize v.fsize (omega (arith, g.sizes.fsize_low))).0
    g.parts.block_fits (omega (arith, g.parts.inodes_fit)) (g.groups c h).within_size
