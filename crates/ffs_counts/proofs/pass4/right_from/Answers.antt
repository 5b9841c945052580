use Rattle.std.proofs.Common.{◌≡◌, ◌≤◌, ◌+◌, ◌∙◌, arith, false, length, sym}
use Rattle.ffs_survey.specs.Survey.{suspect_at}
use Rattle.ffs_counts.proofs.Holding.{met_in, right_met}
use Rattle.ffs_counts.proofs.pass4.right_from.Goals as goal

pub returns : goal.returns
returns c =
    let w = c.args.workspace.now in
    let counts = c.touched-counts.result.now in
    let long : c.args.first + 64 ≤ length counts =
    omega (arith, c.if-saturating_sub-lt-RIGHT_AT_ONCE.false, c.saturating_sub.ensures) in
    record {
      within = omega (arith, long, c.touched-counts.ensures.len, c.requires.references);
      right = λ x low high.
          let met = met_in counts c.args.first x long low high (c.any_unmet.ensures c.if-any_unmet.false) in
          let alive : suspect_at w.kinds.items w.marked.items x ≡ false =
          rw (sym c.deref.ensures.value)
          (c.any_free_or_suspect.ensures c.if-any_free_or_suspect.false x low high) in
          right_met w x (c.touched-counts.ensures.items 0 x (omega (arith, long, high)) ∙ met) alive;
    }
