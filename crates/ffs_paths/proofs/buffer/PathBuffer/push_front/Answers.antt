use Rattle.std.proofs.Common.{◌++◌, ◌∷◌, ◌∙◌, ap, refl, arith}
use Rattle.ffs_paths.proofs.Held.{first_cut, first_full, has_parts, no_room, room_holds}
use Rattle.ffs_paths.proofs.buffer.PathBuffer.push_front.Goals as goal

pub returns-then-not-has_room : goal.returns-then-not-has_room
returns-then-not-has_room c = λ names h. first_cut _ c.args.self.now c.args.name.now names h refl
    (no_room c.args.self.now names c.args.name.now h c.if-not-has_room.ensures) refl

pub returns-then-start-gt0 : goal.returns-then-start-gt0
returns-then-start-gt0 c = λ names h.
    let room = has_parts c.args.self.now.cut _ _ c.if-not-has_room.ensures in
    room_holds _ (c.args.name.now ∷ names) room.0
    (c.put_before-start.ensures.bytes ∙ ap (λ b. 47 ∷ c.args.name.now ++ b) (h.whole room.0)) refl
    c.if-start-gt0.true

pub returns-else-start-gt0 : goal.returns-else-start-gt0
returns-else-start-gt0 c = λ names h.
    let room = has_parts c.args.self.now.cut _ _ c.if-not-has_room.ensures in
    first_full _ c.args.self.now c.args.name.now names h room.0
    (c.put_before-start.ensures.bytes ∙ ap (λ b. 47 ∷ c.args.name.now ++ b) (h.whole room.0))
    (omega (arith, c.if-start-gt0.false))
    (c.put_before-start.ensures.following c.args.self.now.short c.args.self.now.ordered)
