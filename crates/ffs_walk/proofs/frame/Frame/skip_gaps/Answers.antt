use Rattle.std.proofs.Common.{arith, rules, ◌≡◌, ◌∙◌, ◌-◌, Some}
use Rattle.ffs_walk.{specs.Windows.held_address, proofs.GapSteps.{fewer, gaps_passed}}
use Rattle.ffs_walk.proofs.frame.Frame.skip_gaps.Goals as goal

pub returns : goal.returns
returns c = record {
  steps = λ reported holds bytes e child span gap.
      let here : held_address c.args.level c.args.blocks.now ≡ Some c.args.self.now.address = search rules in
      gaps_passed c.args.geometry.now.layout bytes child span (c.zeros_end-next.result - c.args.self.now.next)
      c.zeros_end-next.result c.args.self.now c.bytes.result.now gap
      c.if-self.false (omega (arith, c.zeros_end-next.ensures.within.0)) c.zeros_end-next.ensures.within.1
      (c.bytes.ensures.bytes ∙ holds.block c.args.level c.requires.ready.is_level c.args.self.now.address here bytes e)
      c.zeros_end-next.ensures.zeros;
  falls = λ most. grind (arith, fewer);
  next = search rules;
  passed = search rules;
  same = search rules;
}
