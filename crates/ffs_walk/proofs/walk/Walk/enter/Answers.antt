use Rattle.std.proofs.Common.{arith, rules, refl, sym, ◌≡◌, ◌-◌, ◌∙◌}
use Rattle.ffs_volume.specs.Blocks.Steps.{indirect_addresses_needed}
use Rattle.ffs_walk.proofs.FrameSteps.{is_set}
use Rattle.ffs_walk.proofs.walk.Walk.enter.Goals as goal

pub returns : goal.returns
returns c =
    let w = c.args.self.now in
    let used : c.min-used.result
    ≡ indirect_addresses_needed w.geometry.layout.nindir w.logical_blocks c.args.first c.args.span =
    c.min-used.ensures ∙ rw (c.from.ensures, c.div_ceil.ensures) refl in
    let all : c.min-used.result - 0 ≡ c.min-used.result = omega arith in
    record {
      steps = λ bytes child.
          rw (is_set c.args.address c.if-address-eq0.false, sym c.if-not-in_range.ensures, all, used) refl;
      step = search rules;
      left = λ most. grind arith;
      fits = record {
        words = omega (arith, used);
        in_range_there = λ h. sym c.if-not-in_range.ensures;
        indirect = λ h. c.requires.indirect.0;
      };
      counted = record { unread = omega arith; held = λ level blocks read left. absurd (cc) };
    }
