use Rattle.std.proofs.Common.{◌≡◌, ◌+◌, ◌∙◌, suc, refl, arith}
use Rattle.ffs_volume.specs.declared.Role.TheVariants.{Empty}
use Rattle.ffs_layout.specs.Entry.{entry_value}
use Rattle.ffs_names.{specs.{Entering.to_come, Readings.rest}, proofs.{Entered.take_reported, Shaped.fills_next, Skipped.{empty_role, skips_more}}}
use Rattle.ffs_names.proofs.entries.Entries.skip_empty.Goals as goal

pub entries-preserved : goal.entries-preserved
entries-preserved c =
    let inv = c.entries.invariant in
    let s = c.args.self.now in
    let place = c.entries.place in
    let skipped = c.entries.skipped in
    let e = entry_value c.in-Some.entry in
    let here = rw c.in-Some.is at c.entry_at.ensures in
    let long = c.from-place.ensures in
    let index : s.index + (skipped + 1) ≡ s.index + skipped + 1 = omega arith in
    let more : skipped + 1 ≡ suc skipped = omega arith in
    record {
      inside = omega (arith, long, here.room.1);
      room = omega (arith, long, here.room.0, inv.room);
      skips = λ b.
          let shown = take_reported s.at_start (s.index + skipped) s.order s.chunk place e Empty (rest b s.chunks) here.some
          (empty_role s.at_start (s.index + skipped) e c.if-entry-ne0.false) here.name.0 in
          rw (index, more, long) (skips_more skipped (to_come b s) shown (inv.skips b) refl);
      fills = rw long (fills_next s.order s.chunk place e here.some ∙ inv.fills);
    }
