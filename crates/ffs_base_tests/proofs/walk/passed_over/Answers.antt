use Rattle.std.{proofs.Common.{◌∙◌, sym, subst, arith}, specs.Prelude.{◌*◌, ◌≤◌}}
use Rattle.ffs_image.specs.Device.{Device}
use Rattle.ffs_layout.specs.declared.geometry.Geometry.{Geometry}
use Rattle.ffs_walk.specs.Windows.{BlocksHold, CanWalk}
use Rattle.ffs_base_tests.proofs.walk.passed_over.Goals as goal

pub next-requires-2 : goal.next-requires-2
next-requires-2 g c =
    let v = c.args.geometry.now.layout in
    let after = g.I.Image.device c.next.new.image in
    let blocks = c.next.new.blocks in
    let leaves = c.in_ok-first.ensures.leaves in
    let started = c.start-walk.ensures.geometry in
    let same = c.skip_gaps-gaps.ensures.same.geometry ∙ c.next.ensures.same.geometry ∙ started in
    subst (λ (w : Geometry). CanWalk w.layout after blocks) (sym same) (record {
      volume = subst (λ (d : Device). v.size * v.fsize ≤ d.size) (sym leaves.read) c.requires.volume;
      room = record { blocks_fit = omega (arith, c.requires.room.blocks_fit, leaves.kept.size) };
      holds = subst (λ (w : Geometry). BlocksHold w.layout after.contents blocks) started leaves.kept.holds;
    })
