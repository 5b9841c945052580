use Rattle.std.proofs.Common.{arith, ap, rules, sym, ◌∙◌, ◌*◌}
use Rattle.ffs_workspace.specs.declared.table.Table.{Table}
use Rattle.ffs_counts.{specs.Records.{first_read, records_read}, proofs.RecordPlaces.{record_there, records_inside}}
use Rattle.ffs_counts.proofs.groups.read_summaries.Goals as goal

pub fill-requires : goal.fill-requires
fill-requires g c =
    let v = c.args.geometry.now.layout in
    let first = first_read c.args.group in
    let inside = records_inside v first (records_read v first) c.args.geometry.now.sound (omega (arith, c.requires.group)) in
    record {
      room = search rules;
      inside = omega (arith, c.summary_place-place.ensures, c.min-count.ensures, inside, c.requires.ready.volume);
      holds = search rules;
    }

pub returns : goal.returns
returns g c = record {
  read = record {
    there = record_there c.args.geometry.now.layout (g.I.Image.device c.args.image.now).contents c.fill.new.self
        c.args.group c.requires.group (c.in_ok-fill.ensures.fills.place.0 ∙ c.summary_place-place.ensures)
        (c.in_ok-fill.ensures.fills.place.1 ∙ ap (λ n. 16 * n) c.min-count.ensures) (search rules);
    leaves = search rules;
    sector = tt;
  };
  reads = record {
    counted = omega arith;
    again = λ at. c.in_ok-fill.ensures.fills.again
        (ap (λ (t : Table). t.window.place) c.forget.ensures ∙ at.starts ∙ sym c.summary_place-place.ensures)
        (ap (λ (t : Table). t.window.length) c.forget.ensures ∙ at.length ∙ ap (λ n. 16 * n) (sym c.min-count.ensures));
  };
  asks = rw (c.summary_place-place.ensures, c.min-count.ensures) at c.fill.ensures.asks;
}
