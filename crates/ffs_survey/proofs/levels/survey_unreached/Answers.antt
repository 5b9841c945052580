use Rattle.std.proofs.Common.{◌≡◌, arith, sym, ◌∙◌, ◌+◌, length, true, rules}
use Rattle.ffs_survey.proofs.{Costs.{cost_take, costs_rise}, Lending.{leaves_by, same_kinds}}
use Rattle.ffs_survey.specs.Discover.{is_unreached_dir}
use Rattle.ffs_survey.proofs.levels.survey_unreached.Goals as goal

pub returns-in_err-read_unreached-clause-leaves : goal.returns-in_err-read_unreached-clause-leaves
returns-in_err-read_unreached-clause-leaves g c =
    let inv = c.loop-number.invariant in
    let read = rw inv.lent.base at c.in_err-read_unreached.ensures.leaves.lent.reader.counted in
    let old = c.args.lists.now in
    let unreached : is_unreached_dir old.kinds.now old.reached.now.items c.loop-number.number ≡ true =
    rw (same_kinds inv.lent.same, inv.kept.reached) at (sym c.is_unreached_dir.ensures
    ∙ c.if-not-is_unreached_dir.false) in
    record {
      lent = leaves_by g.D.Directories (search rules) (search rules) (search rules) (search rules) (λ b k.
          let cost = g.D.Directories.cost (g.D.Directories.base c.args.directories.now) b in
          let one = cost_take (is_unreached_dir old.kinds.now old.reached.now.items) cost c.loop-number.number unreached in
          let rise = costs_rise (is_unreached_dir old.kinds.now old.reached.now.items) cost (c.loop-number.number + 1)
          (length old.kinds.now) (omega arith) in
          omega (arith, read b k, inv.reads b k, one, rise));
      kept = search rules;
    }
