use Rattle.std.proofs.Common.{arith, ap, length, rules, ◌∙◌}
use Rattle.ffs_survey.proofs.{CalmLaws.{calm_unreached, read_stays, Stays}, Costs.costs_both, Frontiers.sane_of}
use Rattle.ffs_survey.proofs.{Lending.{finds_same, kinds_long, same_kinds}, UnreachedLaws.survey_whole}
use Rattle.ffs_survey.{proofs.ReadOnce.{flagged_by_parents, read_once_stays}, specs.Lent.all_found}
use Rattle.ffs_survey.proofs.levels.survey_directories.Goals as goal

pub returns-clause-found : goal.returns-clause-found
returns-clause-found g c =
    let inodes = c.args.inodes.now in
    let found = c.survey_reached.new.lists in
    let new = c.survey_unreached.new.lists in
    let first = c.in_ok-survey_reached.ensures in
    let second = c.in_ok-survey_unreached.ensures in
    let kinds = same_kinds first.leaves.lists in
    let reached_long = found.long.reached_long ∙ ap length kinds in
    let adds = rw (first.leaves.reader.same, kinds) at second.adds in
    λ b k.
    let entries = g.D.Directories.entries (g.D.Directories.base c.args.directories.now) b in
    let part = first.found.part b k in
    let more = adds b k (grind arith) in
    finds_same {found = all_found new} (search rules) (search rules) (search rules) (search rules) (search rules)
    (record {
      survey = rw second.leaves.kept.reached (survey_whole inodes.kinds.now entries
          (sane_of inodes.kinds.now entries c.requires.lists.some) reached_long
          (new.long.parents_long ∙ kinds_long second.leaves.lent.lists ∙ ap length kinds) c.limit.ensures.items.items
          part more);
      calm = rw (second.leaves.kept.reached, second.leaves.kept.calm) (calm_unreached found.calm.now.items
          (read_stays more reached_long) (first.found.calm b k));
      flagged = rw (second.leaves.kept.reached, second.leaves.kept.calm) (λ d dir reached calm.
          let stays : Stays found.reached.now.items found.parents.now.items found.reached.now.items new.parents.now.items =
          record { reached = λ x h. h; parents = read_stays more reached_long } in
          flagged_by_parents (read_once_stays stays (λ x h. h) (first.found.read b k d dir reached)) calm);
    })

pub returns-clause-leaves : goal.returns-clause-leaves
returns-clause-leaves g c =
    let first = c.in_ok-survey_reached.ensures in
    let second = rw (first.leaves.reader.same, same_kinds first.leaves.lists)
    at c.in_ok-survey_unreached.ensures.leaves.lent.reader.counted in
    record {
      is_ready = search rules;
      same = search rules;
      read = search rules;
      counted = λ b k. costs_both c.args.inodes.now.kinds.now c.survey_reached.new.lists.reached.now.items _ _ _
          (first.found.once b k) (second b k);
    }

pub returns-in_err-survey_unreached-clause-leaves : goal.returns-in_err-survey_unreached-clause-leaves
returns-in_err-survey_unreached-clause-leaves g c =
    let first = c.in_ok-survey_reached.ensures in
    let second = rw (first.leaves.reader.same, same_kinds first.leaves.lists)
    at c.in_err-survey_unreached.ensures.leaves.lent.reader.counted in
    record {
      is_ready = search rules;
      same = search rules;
      read = search rules;
      counted = λ b k. costs_both c.args.inodes.now.kinds.now c.survey_reached.new.lists.reached.now.items _ _ _
          (first.found.once b k) (second b k);
    }
