use Rattle.std.proofs.Common.{rules, arith, refl}
use Rattle.ffs_names.proofs.Continuing.{can_read}
use Rattle.ffs_tests.proofs.names.chunks_of.Goals as goal

pub chunks-init : goal.chunks-init
chunks-init g c = record {
  geometry = c.requires.geometry;
  device = refl;
  ready = record {
    walk = record {
      volume = search (rules, arith);
      room = search rules;
      holds = c.over-blocks.ensures.holds c.args.geometry.now.layout (g.I.Image.device c.args.image.now).contents;
    };
    room = search rules;
    holds = c.over-window.ensures.holds (g.I.Image.device c.args.image.now).contents;
  };
}

pub next-requires : goal.next-requires
next-requires g c = can_read _ _ _ _ _ c.chunks.invariant.ready c.chunks.invariant.geometry
