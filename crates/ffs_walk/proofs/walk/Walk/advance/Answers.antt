use Rattle.ffs_walk.{proofs.WalkSteps.{gives_one, spent_rest}, specs.Rests.{most_at, file_blocks_of}}
use Rattle.ffs_walk.proofs.{FrameSteps.can_take, GapSteps.{in_first, in_second, in_third}, Counted.double_reads}
use Rattle.ffs_walk.proofs.Counted.{triple_reads}
use Rattle.std.proofs.{Common.{arith, refl, rules, ◌∙◌, ◌≡◌, false, nat_lt}, lemmas.Bool.Decides.nat_tests}
use Rattle.ffs_volume.{specs.Blocks.Steps.steps_at, proofs.Results.fails_with}
use Rattle.ffs_walk.proofs.walk.Walk.advance.Goals as goal

pub invariant_of-self-then-is_left-2 : goal.invariant_of-self-then-is_left-2
invariant_of-self-then-is_left-2 g c = grind arith

pub invariant_of-self-then-is_left-3 : goal.invariant_of-self-then-is_left-3
invariant_of-self-then-is_left-3 g c = grind arith

pub take-requires-then-is_left-2 : goal.take-requires-then-is_left-2
take-requires-then-is_left-2 g c = grind (arith, can_take)

pub take-requires-then-is_left-3 : goal.take-requires-then-is_left-3
take-requires-then-is_left-3 g c = grind (arith, can_take)

pub returns-then-is_left : goal.returns-then-is_left
returns-then-is_left g c = grind (arith, in_first)

pub returns-then-is_left-2 : goal.returns-then-is_left-2
returns-then-is_left-2 g c =
    let w = c.args.self.now in
    let took = c.in_ok-item-2.ensures.item in
    let steps = rw c.from-words.ensures at took.item.steps in
    let first = c.step_in_double.ensures in
    record {
      gives = gives_one _ _ _ _ (λ h. omega (arith, h.double.0, c.is_left-2.ensures.left.0 c.if-is_left-2.true))
          (λ bytes t.
          let child = steps_at (file_blocks_of w) bytes in
          in_second _ _ _ _ _
          (spent_rest w.geometry.layout bytes (child 0) 1 w.single (c.is_left.ensures.spent c.if-is_left.false))
          (steps bytes t (child 1)) ∙ first.steps bytes)
          first.fits (omega (arith, first.left, took.item.falls (most_at w.geometry.layout.nindir 1)))
          (record { geometry = first.same.geometry; blocks = first.same.blocks });
      leaves = record { kept = c.in_ok-item-2.ensures.leaves.kept; read = c.in_ok-item-2.ensures.leaves.read };
      counted = λ h. double_reads _ _ _ _ _ _ _ h c.in_ok-item-2.ensures.block took.read refl refl first.counted;
      any = c.in_ok-item-2.ensures.block.any;
      at_inode = λ h. absurd (omega (arith, h.double.0, c.is_left-2.ensures.left.0 c.if-is_left-2.true));
      sector = tt;
    }

pub returns-then-is_left-3 : goal.returns-then-is_left-3
returns-then-is_left-3 g c =
    let w = c.args.self.now in
    let took = c.in_ok-item-3.ensures.item in
    let steps = rw c.from-words.ensures at took.item.steps in
    let first = c.step_in_triple.ensures in
    record {
      gives = gives_one _ _ _ _ (λ h. omega (arith, h.triple.0, c.is_left-3.ensures.left.0 c.if-is_left-3.true))
          (λ bytes t.
          let child = steps_at (file_blocks_of w) bytes in
          in_third _ _ _ _ _ _
          (spent_rest w.geometry.layout bytes (child 0) 1 w.single (c.is_left.ensures.spent c.if-is_left.false))
          (spent_rest w.geometry.layout bytes (child 1) w.geometry.layout.nindir w.double
          (c.is_left-2.ensures.spent c.if-is_left-2.false)) (steps bytes t (child 2)) ∙ first.steps bytes)
          first.fits (omega (arith, first.left, took.item.falls (most_at w.geometry.layout.nindir 2)))
          (record { geometry = first.same.geometry; blocks = first.same.blocks });
      leaves = record { kept = c.in_ok-item-3.ensures.leaves.kept; read = c.in_ok-item-3.ensures.leaves.read };
      counted = λ h. triple_reads _ _ _ _ _ _ _ h c.in_ok-item-3.ensures.block took.read refl refl first.counted;
      any = c.in_ok-item-3.ensures.block.any;
      at_inode = λ h. absurd (omega (arith, h.triple.0, c.is_left-3.ensures.left.0 c.if-is_left-3.true));
      sector = tt;
    }

pub returns : goal.returns
returns g c = record {
  gives = c.step_at_top.ensures.gives _;
  leaves = search rules;
  counted = grind arith;
  any = omega arith;
  at_inode = λ h. (refl, refl);
  sector = tt;
}

pub returns-in_err-item-3 : goal.returns-in_err-item-3
returns-in_err-item-3 g c =
    let none : nat_lt c.args.self.now.single.next c.args.self.now.single.used ≡ false = grind (arith, nat_tests) in
    let none-2 : nat_lt c.args.self.now.double.next c.args.self.now.double.used ≡ false = grind (arith, nat_tests) in
    rw (fails_with _ c.from_residual-in_err-item-3.ensures.1) (record {
      gives = grind arith;
      leaves = grind arith;
      counted = grind arith;
      any = grind arith;
      at_inode = λ h. absurd (omega (arith, h.triple.0, c.is_left-3.ensures.left.0 c.if-is_left-3.true));
      sector = rw (none, none-2) c.in_err-item-3.ensures.item.sector;
    })
