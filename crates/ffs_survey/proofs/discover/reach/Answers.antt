use Rattle.std.proofs.{Common.{arith, rules, ◌∙◌, sym, []}, lemmas.Grind.common_steps}
use Rattle.ffs_survey.{specs.Reading.roled_of, proofs.Discovered.{reach_hit, unset-set, new_entry}}
use Rattle.ffs_survey.{proofs.Remaining.discovered_whole}
use Rattle.ffs_survey.proofs.discover.reach.Goals as goal

pub set-requires-3 : goal.set-requires-3
set-requires-3 c =
    let lists = c.args.lists.now in
    let n = new_entry lists.kinds.now lists.reached.now.items (roled_of c.args.entry [])
    (sym c.is_new.ensures ∙ c.if-not-is_new.false) in
    omega (arith, unset-set lists.reached.now.items c.args.entry.number (omega (arith, n.below)) n.unmarked)

pub returns : goal.returns
returns c =
    let lists = c.args.lists.now in
    let n = new_entry lists.kinds.now lists.reached.now.items (roled_of c.args.entry [])
    (sym c.is_new.ensures ∙ c.if-not-is_new.false) in
    let b = n.below in
    let u = unset-set lists.reached.now.items c.args.entry.number (omega (arith, b)) n.unmarked in
    record {
      ends = rw c.set.ensures.items (omega (arith, u));
      discovered = discovered_whole _ _ (rw (c.set.ensures.items, c.set-2.ensures.items, c.set-3.ensures.items) (reach_hit
          lists.queue.now.items c.args.current.now.dir c.args.top n (omega (arith, b)) (omega (arith, b)) (omega (arith, u))));
      extends = grind (arith, common_steps);
      counts = search rules;
    }

pub returns-then-not-is_new : goal.returns-then-not-is_new
returns-then-not-is_new c = grind (arith, rules)
