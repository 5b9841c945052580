use Rattle.std.proofs.Common.{◌∙◌, drop, ap, arith}
use Rattle.ffs_paths.{specs.Slashes.from_slash, proofs.Held.{has_parts, last_cut, last_fits, no_room}}
use Rattle.ffs_paths.proofs.buffer.PathBuffer.with_last.Goals as goal

pub returns-then-has_room : goal.returns-then-has_room
returns-then-has_room c = λ names h single.
    last_fits c.longer.result c.args.self.now names c.args.name.now c.longer.ensures
    (h.whole (has_parts c.args.self.now.cut _ _ c.if-has_room.ensures).0) single

pub returns : goal.returns
returns c = λ names h single.
    let s = c.args.self.now in
    last_cut c.longer-2.result s names c.args.name.now c.slash_from-from.result c.longer-2.ensures h single
    (omega (arith, c.requires)) (omega (arith, c.requires, c.slash_from-from.ensures.from, c.max.ensures))
    (no_room s names c.args.name.now h c.if-has_room.ensures)
    (c.slash_from-from.ensures.first ∙ ap (λ i. from_slash (drop i s.bytes)) c.max.ensures)
