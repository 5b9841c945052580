use Rattle.std.proofs.Common.{arith, refl, sym, ◌∙◌}
use Rattle.ffs_layout.specs.Entry.{entry_value}
use Rattle.ffs_names.{specs.Readings.rest, proofs.{Entered.take_reported, Shaped.fills_next, Skipped.empty_role}}
use Rattle.ffs_names.proofs.entries.Entries.take.Goals as goal

pub invariant_of-head : goal.invariant_of-head
invariant_of-head c =
    let s = c.args.self.now in
    record { unnumbered = λ none. c.role_of-role.ensures ∙ sym (empty_role s.at_start s.index (entry_value c.in-Some.entry) none) }

pub returns : goal.returns
returns c =
    let s = c.args.self.now in
    let low = c.in-Some.ensures.room.0 in
    let high = c.in-Some.ensures.room.1 in
    let entry = entry_value c.in-Some.entry in
    record {
      taken = record {
        entries = λ b. take_reported s.at_start s.index s.order s.chunk s.place entry c.role_of-role.result
            (rest b s.chunks) c.in-Some.ensures.some c.role_of-role.ensures c.in-Some.ensures.name.0;
        left = omega arith;
        place = omega arith;
      };
      same = record {
        chunks = refl;
        chunk = refl;
        right_so_far = refl;
        fills = fills_next s.order s.chunk s.place entry c.in-Some.ensures.some;
      };
    }
