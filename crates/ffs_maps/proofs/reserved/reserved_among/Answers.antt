use Rattle.std.proofs.Common.{◌-◌, ◌≤◌, arith, refl, sym}
use Rattle.ffs_volume.specs.Disk.Areas.{is_reserved}
use Rattle.ffs_maps.proofs.{Runs.{stretch_counts, counted_to_end}, Counting.{count_join_at}}
use Rattle.ffs_maps.proofs.reserved.reserved_among.Goals as goal

pub loop-fragment-preserved-then-stretch : goal.loop-fragment-preserved-then-stretch
loop-fragment-preserved-then-stretch c =
    let v = c.args.geometry.now.layout in
    let inv = c.loop-fragment.invariant in
    let next = c.min-next.result in
    let s = c.stretch_from-stretch in
    let on : c.loop-fragment.fragment ≤ next = omega (arith, c.min-next.ensures, s.ensures.some, c.loop-fragment-test.true) in
    record {
      counted = count_join_at (is_reserved v) c.args.start c.loop-fragment.fragment next (next - c.loop-fragment.fragment)
          _ _ inv.from (omega (arith, on)) inv.counted
          (stretch_counts v c.loop-fragment.fragment next _ s.result _ s.ensures on (omega (arith, c.min-next.ensures))
          (sym c.if-stretch.true) refl);
      from = omega (arith, on, inv.from);
      within = omega (arith, c.min-next.ensures);
    }

pub loop-fragment-preserved : goal.loop-fragment-preserved
loop-fragment-preserved c =
    let v = c.args.geometry.now.layout in
    let inv = c.loop-fragment.invariant in
    let next = c.min-next.result in
    let s = c.stretch_from-stretch in
    let on : c.loop-fragment.fragment ≤ next = omega (arith, c.min-next.ensures, s.ensures.some, c.loop-fragment-test.true) in
    record {
      counted = omega (
        arith,
        count_join_at (is_reserved v) c.args.start c.loop-fragment.fragment next (next - c.loop-fragment.fragment)
            c.loop-fragment.count 0 inv.from (omega (arith, on)) inv.counted
            (stretch_counts v c.loop-fragment.fragment next 0 s.result _ s.ensures on (omega (arith, c.min-next.ensures))
            (sym c.if-stretch.false) refl),
      );
      from = omega (arith, on, inv.from);
      within = omega (arith, c.min-next.ensures);
    }

pub returns : goal.returns
returns c =
    let g = c.args.geometry.now in
    let inv = c.loop-fragment.invariant in
    counted_to_end g.layout c.args.start c.loop-fragment.fragment c.args.end c.loop-fragment.count g.sound inv.from
    (omega (arith, inv.within, c.min-limit.ensures)) (omega (arith, c.loop-fragment-test.false, c.min-limit.ensures))
    c.requires inv.counted
