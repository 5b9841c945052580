use Rattle.std.{proofs.Common.{sym, subst}, specs.Prelude.{◌*◌, ◌≤◌}}
use Rattle.ffs_image.specs.Device.{Device}
use Rattle.ffs_layout.specs.declared.geometry.Geometry.{Geometry}
use Rattle.ffs_walk.specs.Windows.{BlocksHold, CanWalk}
use Rattle.ffs_base_tests.proofs.walk.steps.Goals as goal

pub next-requires : goal.next-requires
next-requires g c =
    let v = c.args.geometry.now.layout in
    let now = c.loop-found in
    let here = g.I.Image.device now.image in
    let known = now.invariant in
    subst (λ (w : Geometry). CanWalk w.layout here now.blocks) (sym known.geometry) (record {
      volume = subst (λ (d : Device). v.size * v.fsize ≤ d.size) (sym known.device) c.requires;
      room = known.room;
      holds = subst (λ (d : Device). BlocksHold v d.contents now.blocks) (sym known.device) known.holds;
    })
