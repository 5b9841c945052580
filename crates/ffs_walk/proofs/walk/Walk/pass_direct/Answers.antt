use Rattle.ffs_volume.specs.Blocks.Steps.{first_block, steps_at}
use Rattle.std.proofs.{lemmas.Bool.Decides.nat_tests, Common.{◌≡◌, ◌∙◌, [], refl, arith}}
use Rattle.ffs_walk.proofs.{WalkSteps.{no_rests, top_next, most_below, top_falls}, Counted.enters_none}
use Rattle.ffs_walk.proofs.walk.Walk.pass_direct.Goals as goal

pub returns : goal.returns
unfolding steps_at
returns c =
    let w = c.args.self.now in
    let top = c.requires.top in
    let some = c.requires.some in
    let first : first_block w.geometry.layout.nindir w.next ≡ w.next = grind (arith, nat_tests) in
    record {
      steps = λ bytes. let none = no_rests bytes w top in
          top_next bytes w 0 w.next _ [] some.used top (omega (arith, some.direct)) first refl
          ∙ rw (none.0, none.1, none.2) refl;
      top = record { single = top.single; double = top.double; triple = top.triple };
      falls = top_falls _ _ _ _ _ _ _ _ _ some.used (omega (arith, most_below _ w.geometry.sound));
      same = record { geometry = refl; blocks = refl };
      counted = enters_none _ _ _ refl refl refl;
    }
