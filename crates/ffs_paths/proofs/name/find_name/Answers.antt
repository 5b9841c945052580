use Rattle.std.proofs.{Common.{arith}, lemmas.{Bool.both_ways, Result.on_ok_weaker}}
use Rattle.ffs_workspace.proofs.Leaving.{claims_held}
use Rattle.ffs_paths.{specs.{Climbing.IsNameIn, NameTexts.name_bytes}, proofs.Keeping.{reads_as, reads_then, tree_on}}
use Rattle.ffs_paths.proofs.name.find_name.Goals as goal

-- it isn't found in the chunk that is noted
pub returns-clause-finds : goal.returns-clause-finds
returns-clause-finds g c = on_ok_weaker c.search_name.result (λ found. record {
  name = tree_on (λ g. IsNameIn g c.args.dir c.args.parent (name_bytes c.search_name.new.name))
      c.in_ok-find_by_place.ensures.leaves.reads found;
  some = λ b t noted. absurd (both_ways _ c.if-branch.false (c.in_ok-find_by_place.ensures.finds.found b t noted));
}) c.search_name.ensures.name

pub returns-clause-leaves : goal.returns-clause-leaves
returns-clause-leaves g c = record {
  reads = reads_then c.in_ok-find_by_place.ensures.leaves.reads c.search_name.ensures.reads;
  counted = λ b t noted. absurd (both_ways _ c.if-branch.false (c.in_ok-find_by_place.ensures.finds.found b t noted));
}

-- it is found there
pub returns-then-branch-clause-leaves : goal.returns-then-branch-clause-leaves
returns-then-branch-clause-leaves g c =
    let place = c.in_ok-find_by_place.ensures.leaves in
    record {
      reads = reads_as place.reads;
      counted = λ b t noted. record { few = place.counted; again = place.again; held = place.held b t noted };
    }

-- the part of the place was read, and then the parent
pub returns-clause-counted : goal.returns-clause-counted
returns-clause-counted g c = grind (arith, claims_held)
