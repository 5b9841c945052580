use Rattle.std.proofs.Common.{arith}
use Rattle.clap.proofs.WalkLemmas.{first_value-rows, one_text-rows}
use Rattle.ffs_check.proofs.MatchLaws.{sector_read, text_or}
use Rattle.ffs_check.proofs.parse_args.parse_args.Goals as goal

pub returns : goal.returns
returns c = grind (arith, text_or, first_value-rows, sector_read, one_text-rows)
