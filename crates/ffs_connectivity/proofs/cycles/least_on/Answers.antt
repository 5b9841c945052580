use Rattle.std.proofs.Common.{◌≡◌, ◌⊎◌, inl, inr, suc, ◌<◌, ◌≤◌, length, arith, ap, sym, ◌∙◌, Some}
use Rattle.ffs_volume.proofs.ClimbLaws.{cycle-along}
use Rattle.ffs_connectivity.{specs.Cycles.parent_in, proofs.Walks.{parent_on_cycle, round_start, round_step, round_end, steps_back-less}}
use Rattle.ffs_connectivity.proofs.cycles.least_on.Goals.{then-at-least, else-at-least}
use Rattle.ffs_connectivity.proofs.cycles.least_on.Goals as goal

pub round-init : goal.round-init
round-init c =
    let up = parent_on_cycle c.args.parents.now.items c.args.found c.requires.cycle in
    record {
      bound = omega (arith, c.number_of-at.ensures, up.1);
      low = c.requires.low;
      rounding = (1, round_start (up.0 ∙ ap Some (sym c.number_of-at.ensures)));
    }

pub round-preserved : goal.round-preserved
round-preserved c =
    let f = parent_in c.args.parents.now.items in
    let steps = c.round.invariant.rounding.0 in
    let r = c.round.invariant.rounding.1 in
    let up = parent_on_cycle c.args.parents.now.items c.round.at
    (cycle-along f steps c.args.found c.round.at c.requires.cycle r.at_is) in
    let low = c.round.invariant.low in
    let bound = c.round.invariant.bound in
    let facts : (c.if-at-least.least < length c.args.parents.now.items) × (c.if-at-least.least ≤ c.round.least)
    × (c.if-at-least.least ≤ c.round.at)
    × ((c.if-at-least.least ≡ c.round.least) ⊎ (c.if-at-least.least ≡ c.round.at)) =
    elim c.if-at-least.branch [
      | then-at-least w ↦ (omega arith, omega arith, omega arith, inr w.least-is)
      | else-at-least w ↦ (omega arith, omega arith, omega arith, inl w.least-is)
    ] in
    let at = c.number_of-at-in-round.ensures in
    record {
      bound = omega (arith, at, up.1);
      low = facts.0;
      rounding = (suc steps, round_step r c.round-test.true (up.0 ∙ ap Some (sym at)) facts.1 facts.2 facts.3);
    }

pub returns : goal.returns
returns c = search (arith, round_end)

pub round-smaller : goal.round-smaller
round-smaller c =
    let steps = c.round.invariant.rounding.0 in
    let r = c.round.invariant.rounding.1 in
    let up = parent_on_cycle c.args.parents.now.items c.round.at
    (cycle-along (parent_in c.args.parents.now.items) steps c.args.found c.round.at c.requires.cycle r.at_is) in
    steps_back-less c.requires.cycle c.requires.short r c.round-test.true
    (up.0 ∙ ap Some (sym c.number_of-at-in-round.ensures))
