use Rattle.std.proofs.Common.{arith}
use Rattle.ffs_finding.proofs.WrongFields.{any_next, broke_at, took_next}
use Rattle.ffs_finding.proofs.fields.print_wrong_fields.Goals as goal

pub returns-in_err-found : goal.returns-in_err-found
returns-in_err-found g c = grind (arith, broke_at)

pub loop-field-preserved : goal.loop-field-preserved
loop-field-preserved g c = grind (arith, took_next, any_next)
