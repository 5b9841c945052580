use Rattle.std.proofs.{Common.{◌∷◌, [], if◌then◌else◌}, lemmas.Result.err_from_is_err_and}
use Rattle.ffs_volume.specs.{Messages.Kinds.of_blocks, declared.BlockMessage.TheVariants.{Bad, ManyBad}}
use Rattle.ffs_report.proofs.Reports.{stopped_more, says_then}
use Rattle.ffs_claims.specs.Lines.{of_lines}
use Rattle.ffs_claims.proofs.lines.say_bad.Goals as goal

pub returns-in_err-say : goal.returns-in_err-say
returns-in_err-say g c =
    let p = err_from_is_err_and c.from_residual.result c.from_residual.ensures.1 in
    rw (p.1) (stopped_more _ _ (of_blocks (Bad c.args.fragment c.args.number) ∷ [])
    (of_lines (if c.args.is_eleventh then ManyBad c.args.number ∷ [] else [])) c.in_err-say.ensures.said)

pub returns-then-is_eleventh : goal.returns-then-is_eleventh
returns-then-is_eleventh g c =
    rw c.if-is_eleventh.true (says_then _ _ _ (of_blocks (Bad c.args.fragment c.args.number) ∷ [])
    (of_blocks (ManyBad c.args.number) ∷ []) _ c.in_ok-say.ensures.said c.say-then-is_eleventh.ensures.said)
