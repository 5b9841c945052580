use Rattle.std.proofs.Common.{rules, arith, ◌∙◌, sym, ◌/◌}
use Rattle.ffs_volume.{specs.Disk.Outcome.has_valid_group, proofs.Below.all_below-fails}
use Rattle.ffs_layout.proofs.MovedGroups.{last_speaks}
use Rattle.ffs_layout.proofs.groups.groups_fit.Goals as goal

pub returns-then-group_fits : goal.returns-then-group_fits
returns-then-group_fits c =
    last_speaks c.args.v.now c.most_moved-most.result c.if-most-v.true c.most_moved-most.ensures
    (sym c.group_fits.ensures ∙ c.if-group_fits.true) _ c.group_fits-then-group_fits.ensures

pub returns-else-group_fits : goal.returns-else-group_fits
returns-else-group_fits c = c.if-group_fits.false ∙ sym (all_below-fails c.args.v.now.ncg c.most_moved-most.result
    (has_valid_group c.args.v.now) c.if-most-v.true (sym c.group_fits.ensures ∙ c.if-group_fits.false))

pub returns-then-not-group_fits : goal.returns-then-not-group_fits
returns-then-not-group_fits c = sym (all_below-fails c.args.v.now.ncg (c.power_above-power.result / 2)
    (has_valid_group c.args.v.now) (omega arith) (search rules))
