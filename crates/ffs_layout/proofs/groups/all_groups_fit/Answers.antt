use Rattle.std.proofs.Common.{sym, rules, arith, refl, ◌≡◌, false}
use Rattle.ffs_volume.{specs.Disk.{Outcome.has_valid_group, Numbers.all_below}, proofs.Below.all_below-more}
use Rattle.ffs_volume.proofs.Below.{all_below-fails}
use Rattle.ffs_layout.proofs.groups.all_groups_fit.Goals as goal

pub loop-group-init : goal.loop-group-init
unfolding all_below
loop-group-init c = refl

pub returns-then-not-group_fits : goal.returns-then-not-group_fits
returns-then-not-group_fits c =
    let fails : has_valid_group c.args.v.now c.loop-group.group ≡ false = search rules in
    sym (all_below-fails c.args.v.now.ncg c.loop-group.group (has_valid_group c.args.v.now) (omega arith) fails)

pub loop-group-preserved : goal.loop-group-preserved
loop-group-preserved c = grind (arith, all_below-more)
