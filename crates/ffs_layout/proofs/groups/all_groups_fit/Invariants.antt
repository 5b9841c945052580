use Rattle.std.proofs.Common.{◌≡◌, true}
use Rattle.ffs_volume.specs.Disk.{Outcome.has_valid_group, Numbers.all_below}
use Rattle.ffs_layout.proofs.groups.all_groups_fit.Given as goal

abbrev pub invariant-loop-group : goal.invariant-loop-group
invariant-loop-group l = all_below l.group (has_valid_group l.v) ≡ true
