use Rattle.std.proofs.Common.{ap, arith, refl, sym, subst}
use Rattle.ffs_volume.{specs.Directories.{Naming.graph_of, Volumes.volume_of}, proofs.Results.fails_with}
use Rattle.ffs_paths.specs.{Climbing.{IsNameIn, IsParentOf}, Reads.ForTree, KeptParents.IsKeptParent, NameTexts.name_bytes}
use Rattle.ffs_paths.{specs.declared.kept_parent.KeptParent.KeptParent, proofs.WaysUp.kept_parent_is}
use Rattle.ffs_paths.proofs.Sparing.{costs_name, keeps_child, spares_name}
use Rattle.ffs_paths.proofs.{Climbed.few_more, Keeping.{kept_on, kept_parent_held, reads_then, tree_on}}
use Rattle.ffs_paths.proofs.kept_parent.KeptParent.keep_child.Goals as goal

pub returns-clause-costs : goal.returns-clause-costs
returns-clause-costs g c =
    let v = c.args.geometry.now.layout in
    let w = c.args.workspace.now in
    let first = c.keep_path_of.new.self in
    let s : KeptParent = record {
      parent = first.parent;
      path = first.path;
      child = c.args.dir;
      name = c.find_name.new.name;
    } in
    let kept = c.in_ok-keep_path_of.ensures.keeps in
    let same = c.in_ok-keep_path_of.ensures.same in
    let reads = kept.reads.reads in
    let of : IsParentOf w c.args.dir first.parent = subst (IsParentOf w c.args.dir) (sym kept.parent) c.requires.parent in
    let holds : ForTree v (g.I.Image.device c.args.image.now) w (λ g. IsKeptParent g s) = λ b t claims survey.
    let above = tree_on (λ g. IsKeptParent g first) reads kept.kept_parent.right b t claims survey in
    kept_parent_is v b w s survey of (above.path of.some)
    (subst (λ p. IsNameIn (graph_of (volume_of v b)) c.args.dir p (name_bytes s.name)) (sym kept.parent)
    (tree_on (λ g. IsNameIn g c.args.dir c.args.parent (name_bytes s.name)) reads c.in_ok-find_name.ensures.finds.name b t
    claims survey)) in
    costs_name c.requires.parent kept (λ has. let e = same has in (ap g.I.Image.reads e.0, e.1))
    c.in_ok-find_name.ensures.leaves
    (kept_on s (reads_then reads c.in_ok-find_name.ensures.leaves.reads) (record { right = holds }))
    (keeps_child c.requires.parent (kept.parent, refl))

-- a read of the child's name failed
pub returns-in_err-find_name-clause-costs : goal.returns-in_err-find_name-clause-costs
returns-in_err-find_name-clause-costs g c =
    let kept = c.in_ok-keep_path_of.ensures in
    rw (fails_with _ c.from_residual-in_err-find_name.ensures.1) (costs_name c.requires.parent kept.keeps
    (λ has. let e = kept.same has in (ap g.I.Image.reads e.0, e.1)) c.in_err-find_name.ensures.leaves tt tt)

-- a read for the path of the parent failed
pub returns-in_err-keep_path_of-clause-costs : goal.returns-in_err-keep_path_of-clause-costs
returns-in_err-keep_path_of-clause-costs g c =
    let kept = c.in_err-keep_path_of.ensures.keeps in
    let same = c.in_err-keep_path_of.ensures.same in
    rw (fails_with _ c.from_residual.ensures.1) (record {
      leaves = record {
        reads = kept.reads.reads;
        counted = λ b knows. few_more (kept.reads.counted b knows) (omega arith);
        kept_parent = tt;
      };
      spares = spares_name c.requires.parent kept.reads.names (λ has. let e = same has in (ap g.I.Image.reads e.0, e.1))
          (λ b knows. omega arith) (λ b knows held. omega arith);
      keeps = tt;
      held = tt;
    })

-- what is kept then
pub returns-in_err-find_name-clause-still : goal.returns-in_err-find_name-clause-still
returns-in_err-find_name-clause-still g c =
    let kept = c.in_ok-keep_path_of.ensures.keeps.kept_parent in
    let read = c.in_err-find_name.ensures.leaves.reads in
    rw (fails_with _ c.from_residual-in_err-find_name.ensures.1)
    (kept_parent_held _ _ _ _ _ _ read.read.contents read.lists (record {
      right = λ b t claims survey. record {
        path = (kept.right b t claims survey).path;
        parent = λ some. absurd (omega arith);
        child = λ some. absurd (omega arith);
      };
    }))
