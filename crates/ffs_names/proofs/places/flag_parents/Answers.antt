use Rattle.std.proofs.Common.{◌≡◌, ◌<◌, ◌≤◌, ◌∙◌, arith, length, rules, slice_index, sym, true}
use Rattle.std.proofs.lemmas.Grind.{common_steps, get_or_default_zero}
use Rattle.ffs_volume.specs.Encodings.Lists.{bool_at}
use Rattle.ffs_names.proofs.{PlacesNoted.only_more, places.flag_parents.Goals.{then-index+then-contains, else-index}}
use Rattle.ffs_names.proofs.places.flag_parents.Goals as goal

pub loop-number-preserved : goal.loop-number-preserved
loop-number-preserved c =
    let inv = c.loop-number.invariant in
    elim c.if-index.branch [
      | then-index+then-contains w ↦ rw w.words-is (record {
        count = search rules;
        long = search rules;
        none = grind (arith, common_steps);
        low = grind (arith, common_steps);
        only =
            let parents = c.args.parents.now.items in
            let number = c.loop-number.number in
            let inside : number < length parents = grind (arith, common_steps) in
            let up : slice_index parents number ≡ c.index.result.now =
            sym (c.index.ensures ∙ get_or_default_zero parents number c.index.result.now inside) in
            let low : 2 ≤ c.index.result.now = grind (arith, common_steps) in
            let reached : bool_at c.args.reached.now.items number ≡ true = grind (arith, common_steps) in
            rw w.set.ensures.items (only_more c.args.reached.now.items parents c.loop-number.words.items number c.index.result.now w.with_due.result
            (omega arith) reached up low inv.only);
        to_read = grind (arith, common_steps);
      })
      | else-index w ↦ rw w.words-is (record {
        count = search rules;
        long = search rules;
        none = inv.none;
        low = inv.low;
        only = inv.only;
        to_read = grind (arith, common_steps);
      })
    ]
