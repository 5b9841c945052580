use Rattle.std.proofs.{Common.{arith, rules}, lemmas.Grind.common_steps}
use Rattle.ffs_walk.{specs.Rests.most_at, proofs.GapSteps.{fewer, gaps_at_top}}
use Rattle.ffs_walk.proofs.walk.Walk.skip_zero_addresses.Goals as goal

pub returns : goal.returns
returns c = λ top blocks.
    let w = c.args.self.now in
    let end = c.zero_addresses_end-end.result in
    let ends = c.zero_addresses_end-end.ensures in
    record {
      steps = λ contents holds bytes e. gaps_at_top w bytes end top ends;
      falls = omega (arith, fewer w.used w.next end (most_at w.geometry.layout.nindir 3) ends.within.0);
      passed = grind (arith, common_steps);
      same = search rules;
      counted = grind arith;
    }
