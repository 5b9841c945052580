use Rattle.ffs_volume.specs.Blocks.Steps.{first_block, steps_at}
use Rattle.std.proofs.{lemmas.Bool.Decides.nat_tests, Common.{◌≡◌, ◌∙◌, [], refl, arith, rules}}
use Rattle.ffs_walk.{proofs.WalkSteps.{no_rests, top_gives, top_next, top_ends, most_below, top_falls}, specs.Rests.most_at}
use Rattle.ffs_walk.{specs.Rests.file_blocks_of, proofs.Counted.{enters_none, enters_single, enters_double}}
use Rattle.ffs_walk.proofs.walk.Walk.step_at_top.Goals as goal

pub returns-then-self : goal.returns-then-self
returns-then-self c = grind (arith, top_ends)

pub returns-then-block-lt-NDADDR : goal.returns-then-block-lt-NDADDR
unfolding steps_at
returns-then-block-lt-NDADDR c =
    let w = c.args.self.now in
    let step = rw c.from-block.ensures at c.data.ensures.step in
    let first : first_block w.geometry.layout.nindir w.next ≡ w.next = grind (arith, nat_tests) in
    top_gives _ _ _ (omega arith) (λ bytes.
    let none = no_rests bytes w c.requires in
    top_next bytes w 0 w.next c.data.result [] (omega arith) c.requires (omega arith) first
    (rw step refl) ∙ rw (none.0, none.1, none.2) refl) (search rules)
    (top_falls _ _ _ _ _ _ _ _ _ (omega arith) (omega (arith, most_below _ w.geometry.sound)))
    (record { geometry = refl; blocks = refl }) (enters_none _ _ _ refl refl refl)

pub returns-in-12 : goal.returns-in-12
unfolding steps_at
returns-in-12 c =
    let w = c.args.self.now in
    let enters = c.enter-step.ensures in
    top_gives _ _ _ (omega arith) (λ bytes.
    let none = no_rests bytes w c.requires in
    top_next bytes w 1 12 _ _ (omega arith) c.requires (omega arith) (rw c.in-12.is refl)
    (enters.steps bytes (steps_at (file_blocks_of w) bytes 0)) ∙ rw (none.1, none.2) refl) (search rules)
    (top_falls _ _ _ _ _ _ _ _ _ (omega arith) (omega (arith, most_below _ w.geometry.sound, enters.left 1)))
    (record { geometry = refl; blocks = refl }) (enters_single _ _ _ _ enters.counted refl refl refl)

pub returns-in-13 : goal.returns-in-13
unfolding steps_at
returns-in-13 c =
    let w = c.args.self.now in
    let enters = c.enter-step-in-13.ensures in
    top_gives _ _ _ (omega arith) (λ bytes.
    let none = no_rests bytes w c.requires in
    let made = rw c.from-words.ensures at (enters.steps bytes (steps_at (file_blocks_of w) bytes 1)) in
    top_next bytes w 2 _ _ _ (omega arith) c.requires (omega arith) (rw c.in-13.is refl) made
    ∙ rw (none.0, none.2) refl) (search rules) (top_falls _ _ _ _ _ _ _ _ _ (omega arith)
    (omega (arith, most_below _ w.geometry.sound, enters.left (most_at w.geometry.layout.nindir 1))))
    (record { geometry = refl; blocks = refl }) (enters_double _ _ _ _ enters.counted refl refl refl)

pub returns-in_default : goal.returns-in_default
unfolding steps_at
returns-in_default c =
    let w = c.args.self.now in
    let enters = c.enter-step-in_default.ensures in
    let is : w.next ≡ 14 = omega (arith, w.in_array) in
    top_gives _ _ _ (omega arith) (λ bytes.
    let none = no_rests bytes w c.requires in
    let made = rw c.from-words.ensures at (enters.steps bytes (steps_at (file_blocks_of w) bytes 2)) in
    top_next bytes w 3 _ _ _ (omega arith) c.requires (omega arith) (rw is refl) made
    ∙ rw (none.0, none.1) refl) (search rules) (top_falls _ _ _ _ _ _ _ _ _ (omega arith)
    (omega (arith, most_below _ w.geometry.sound, enters.left (most_at w.geometry.layout.nindir 2))))
    (record { geometry = refl; blocks = refl }) (grind arith)
