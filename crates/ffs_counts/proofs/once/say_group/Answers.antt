use Rattle.std.proofs.{Common.{arith, ◌∷◌, ◌++◌, [], map}, lemmas.Result.err_from_is_err_and}
use Rattle.ffs_volume.specs.declared.BlockMessage.TheVariants.{FreeCounts, GroupMagic, GroupSums, MapsWrong}
use Rattle.ffs_volume.specs.{Messages.Kinds.of_blocks, Groups.GroupCheck.{unless, reported_once}}
use Rattle.ffs_volume.proofs.Results.{fails_with}
use Rattle.ffs_report.proofs.Reports.{says_then, stopped_more}
use Rattle.ffs_counts.{specs.Once.reported_of, proofs.GroupText.{stops_within, stops_next, says_next}}
use Rattle.ffs_counts.proofs.once.say_group.Goals as goal

pub returns-in_err-say-clause-said : goal.returns-in_err-say-clause-said
returns-in_err-say-clause-said g c = rw (fails_with _ c.from_residual.ensures.1, c.if-not-found.true)
    (stopped_more _ _ (of_blocks (GroupMagic c.args.group) ∷ [])
    (map of_blocks (reported_once (reported_of c.args.once.now) (unless c.args.found.now.counts_right FreeCounts)))
    c.in_err-say.ensures.said)

pub returns-then-not-found-clause-said : goal.returns-then-not-found-clause-said
returns-then-not-found-clause-said g c =
    rw c.if-not-found.true (says_then _ _ _ (of_blocks (GroupMagic c.args.group) ∷ [])
    (map of_blocks (reported_once (reported_of c.args.once.now) (unless c.args.found.now.counts_right FreeCounts)))
    c.say_unless.result
    c.in_ok-say.ensures.said c.say_unless.ensures.said)

pub returns-in_err-say_unless-clause-said : goal.returns-in_err-say_unless-clause-said
returns-in_err-say_unless-clause-said g c = grind (arith, err_from_is_err_and, stops_within)

pub returns-in_err-say_unless-2-clause-said : goal.returns-in_err-say_unless-2-clause-said
returns-in_err-say_unless-2-clause-said g c =
    let f = c.args.found.now in
    rw (fails_with _ c.from_residual-in_err-say_unless-2.ensures.1, c.if-not-found.false)
    (stops_next (reported_of c.args.once.now) (reported_of c.say_unless-2.new.once) (unless f.counts_right FreeCounts)
    (unless f.maps_right MapsWrong ++ unless f.sums_right GroupSums) _ _ _
    c.in_ok-say_unless.ensures.said c.say_unless-2.ensures.reported
    (stops_within (reported_of c.say_unless-2.new.once) (unless f.maps_right MapsWrong)
    (unless f.sums_right GroupSums) _ _ c.in_err-say_unless-2.ensures.said))

pub returns-clause-said : goal.returns-clause-said
returns-clause-said g c =
    let f = c.args.found.now in
    let second = reported_of c.say_unless-2.new.once in
    rw c.if-not-found.false
    (says_next _ _ (reported_of c.args.once.now) second (unless f.counts_right FreeCounts)
    (unless f.maps_right MapsWrong ++ unless f.sums_right GroupSums) _ _ _ c.say_unless-4.result
    c.in_ok-say_unless.ensures.said c.say_unless-2.ensures.reported
    (says_next _ _ second (reported_of c.say_unless-3.new.once) (unless f.maps_right MapsWrong)
    (unless f.sums_right GroupSums) _ _ _ c.say_unless-4.result
    c.in_ok-say_unless-2.ensures.said c.say_unless-3.ensures.reported c.say_unless-4.ensures.said))
