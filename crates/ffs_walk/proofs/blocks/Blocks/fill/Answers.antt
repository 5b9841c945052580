use Rattle.std.proofs.Common.{rules, arith, ◌≡◌, ◌∙◌, ◌<◌, ap, refl, length, Some, None, slice_set}
use Rattle.std.{specs.Prelude.get_or, proofs.lemmas.{Grind.common_steps, List.{get_or-set_same, length-set}}}
use Rattle.ffs_image.specs.Device.{Device}
use Rattle.ffs_walk.proofs.Splices.{held_without, held_with}
use Rattle.ffs_walk.proofs.blocks.Blocks.fill.Goals as goal

pub returns-in_err-read_at-clause-fills : goal.returns-in_err-read_at-clause-fills
returns-in_err-read_at-clause-fills g c = grind (arith, common_steps, held_without)

pub returns-clause-fills : goal.returns-clause-fills
returns-clause-fills g c =
    let v = c.args.geometry.now.layout in
    let held = c.args.self.now.held in
    let level = c.args.level in
    let within : level < length held = search rules in
    let here : get_or (slice_set (slice_set held level None) level (Some c.args.address)) level None
    ≡ Some c.args.address =
    get_or-set_same (slice_set held level None) level (Some c.args.address) None
    (rw (length-set held level None) within) in
    let same = ap (λ (d : Device). d.contents) c.in_ok-read_at.ensures.bytes.ok in
    let holds = held_with v _ _ c.args.self.now level c.args.address _ _ c.read_at.new.buf c.requires.ready.holds
    same (search rules) (omega arith) (search rules) c.requires.ready.room.blocks_fit c.requires.is_level within
    (λ b tells.
    let size : length c.read_at.new.buf ≡ v.bsize = omega arith in
    c.in_ok-read_at.ensures.bytes.bytes b tells ∙ rw (size, c.from.ensures, c.from-2.ensures) refl) in
    record {
      held = record {
        is_held = here;
        bytes = λ b tells. holds.block level c.requires.is_level c.args.address here b (same ∙ tells);
      };
      leaves = record { kept = record { size = search rules; holds = holds }; read = search rules };
      others = grind (arith, common_steps);
      counted = search rules;
      again = grind (arith, common_steps);
      sector = tt;
    }
