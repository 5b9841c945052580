use Rattle.std.proofs.Common.{arith, subst}
use Rattle.ffs_volume.specs.Directories.{Naming.graph_of, Volumes.volume_of}
use Rattle.ffs_paths.specs.DirectoryPaths.{IsPathOf}
use Rattle.ffs_paths.proofs.{Keeping.{kept_before, kept_still}, Sparing.{costs_as, costs_none, no_parent}, WaysUp.child_made}
use Rattle.ffs_paths.proofs.kept_parent.KeptParent.path_to.Goals as goal

pub returns-clause-path : goal.returns-clause-path
returns-clause-path g c = λ b t claims survey.
    let of = (c.reached_parent.ensures c.in-Some.parent).0 c.in-Some.is in
    let kept = c.in_ok-keep_child.ensures.costs in
    let child = (kept.keeps.parent c.in-Some.parent of).1 in
    let s = c.keep_child.new.self in
    let G = graph_of (volume_of c.args.geometry.now.layout b) in
    let holds = kept_before kept.leaves.reads kept.leaves.kept_parent b t claims survey in
    subst (λ d. IsPathOf G d c.child.result) child
    (child_made G s _ holds (omega (arith, of.below, child)) (rw c.as_slice.ensures.value at c.child.ensures.names))

pub returns-clause-costs : goal.returns-clause-costs
returns-clause-costs g c = costs_as c.in_ok-keep_child.ensures.costs

-- a directory without a parent
pub returns-in_default-clause-costs : goal.returns-in_default-clause-costs
returns-in_default-clause-costs g c = search (arith, costs_none, no_parent)

pub keep_child-requires : goal.keep_child-requires
keep_child-requires g c = record {
  ready = c.requires;
  parent = (c.reached_parent.ensures c.in-Some.parent).0 c.in-Some.is;
}

pub returns-in_default-clause-still : goal.returns-in_default-clause-still
returns-in_default-clause-still g c = grind (arith, kept_still)
