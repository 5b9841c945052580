use Rattle.std.proofs.{Common.{◌≡◌, subst, arith}, lemmas.Result.err_from_is_err_and}
use Rattle.ffs_volume.specs.Directories.{Naming.graph_of, Paths.dir_path, Volumes.volume_of}
use Rattle.ffs_paths.proofs.{Keeping.{kept_before, kept_parent_held}, Sparing.{costs_as, costs_fault, costs_none, no_parent}, WaysUp.child_put}
use Rattle.ffs_paths.proofs.kept_parent.KeptParent.put_path.Goals as goal

pub returns-clause-path : goal.returns-clause-path
returns-clause-path g c = λ b t claims survey.
    let of = (c.reached_parent.ensures c.in-Some.parent).0 c.in-Some.is in
    let kept = c.in_ok-keep_child.ensures.costs in
    let child = (kept.keeps.parent c.in-Some.parent of).1 in
    let s = c.keep_child.new.self in
    let G = graph_of (volume_of c.args.geometry.now.layout b) in
    let holds = kept_before kept.leaves.reads kept.leaves.kept_parent b t claims survey in
    subst (λ d. c.put_entry.new.text.items ≡ dir_path G d) child
    (child_put G s _ holds (omega (arith, of.below, child)) (rw c.as_slice.ensures.value at c.put_entry.ensures))

-- a directory without a parent
pub returns-in_default-clause-costs : goal.returns-in_default-clause-costs
returns-in_default-clause-costs g c = costs_as (costs_none c.args.self.now
    (no_parent c.in_default.is c.reached_parent.ensures) c.requires.kept_parent c.in_ok-directory_path.ensures.leaves)

pub returns-in_err-directory_path-clause-costs : goal.returns-in_err-directory_path-clause-costs
returns-in_err-directory_path-clause-costs g c =
    let p = err_from_is_err_and c.from_residual.result c.from_residual.ensures.1 in
    rw (p.1, p.2) (costs_fault (costs_none c.args.self.now (no_parent c.in_default.is c.reached_parent.ensures)
    c.requires.kept_parent c.in_err-directory_path.ensures.leaves))

pub keep_child-requires : goal.keep_child-requires
keep_child-requires g c = record {
  ready = c.requires;
  parent = (c.reached_parent.ensures c.in-Some.parent).0 c.in-Some.is;
}

pub returns-in_err-directory_path-clause-still : goal.returns-in_err-directory_path-clause-still
returns-in_err-directory_path-clause-still g c = grind (arith, kept_parent_held)
