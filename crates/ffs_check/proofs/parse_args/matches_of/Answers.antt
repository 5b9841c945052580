use Rattle.ffs_check.proofs.MatchLaws.{answered, free, simple}
use Rattle.ffs_check.proofs.parse_args.matches_of.Goals as goal

pub returns : goal.returns
returns c = answered _ _ _ _ c.in_ok-command.ensures simple free c.try_get_matches_from.ensures.kinds
    c.try_get_matches_from.ensures.matches
