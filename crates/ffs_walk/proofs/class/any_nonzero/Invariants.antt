use Rattle.std.proofs.Common.{◌≡◌, ◌==◌, take, not}
use Rattle.ffs_volume.specs.Blocks.Inodes.{any_nonzero}
use Rattle.ffs_walk.proofs.class.any_nonzero.Given as goal

-- some bit is set where an address so far isn't zero
abbrev pub invariant-loop-index : goal.invariant-loop-index
invariant-loop-index l = any_nonzero (take l.index l.addresses) ≡ not (l.bits == 0)
