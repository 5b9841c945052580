use Rattle.std.proofs.Common.{◌∙◌, ◌++◌, List, ℕ, ap, decimal}
use Rattle.ffs_volume.specs.declared.texts.TheConstants as texts
use Rattle.ffs_report.proofs.dup_line.DupLine.new.Goals as goal

pub invariant_of-result-clause-ends : goal.invariant_of-result-clause-ends
invariant_of-result-clause-ends c =
    c.put_before-tail.ensures.written ∙ ap (λ (xs : List ℕ). texts.DUP.now ++ xs)
    (c.write_digits-number.ensures.written ∙ ap (λ (xs : List ℕ). decimal c.args.inode ++ xs)
    c.put_before-number_end.ensures.written)
