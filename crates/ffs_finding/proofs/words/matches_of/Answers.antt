use Rattle.ffs_check.proofs.MatchLaws.{answered}
use Rattle.ffs_finding.proofs.ProgramWords.{free, simple}
use Rattle.ffs_finding.proofs.words.matches_of.Goals as goal

pub returns : goal.returns
returns c = answered _ _ _ _ c.in_ok-app.ensures simple free c.try_get_matches_from.ensures.kinds
    c.try_get_matches_from.ensures.matches
