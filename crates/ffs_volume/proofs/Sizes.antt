-- What follows from sizes: there is an inode 2, and where an inode's size is 0 there are no steps.
use Rattle.std.{proofs.{Common.{◌≡◌, ℕ, ◌*◌, ◌<◌, List, [], arith}, Math.Nat.{zero-div, zero-mod}}}
use Rattle.ffs_volume.specs.{Blocks.Steps.steps_of, Laws.Geometry.IsAcceptedLayout, declared.Inode.Inode}
use Rattle.ffs_volume.specs.declared.Layout.{Layout}

-- there is an inode 2
pub some_inodes : (v : Layout) → IsAcceptedLayout v → 2 < v.ncg * v.ipg
some_inodes v g = grind arith

-- no steps where the size is 0
pub no_steps : (v : Layout) (image : List ℕ) (i : Inode) → 0 < v.bsize → i.size ≡ 0 → steps_of v i image ≡ []
unfolding steps_of
no_steps v image i h e = grind (arith, zero-div, zero-mod)
