use Rattle.std.proofs.Common.{arith, refl, subst}
use Rattle.ffs_volume.specs.Directories.{Naming.graph_of, Volumes.volume_of}
use Rattle.ffs_paths.specs.DirectoryPaths.{IsPathOf}
use Rattle.ffs_paths.proofs.{WaysUp.child_made, Keeping.{kept_on, names_none}}
use Rattle.ffs_paths.proofs.kept_parent.KeptParent.keep_path_of.Goals as goal
use Rattle.ffs_paths.proofs.kept_parent.KeptParent.keep_path_of.Goals.{then-self-dir-2, else-self-dir-2+in_ok-put_directory}

pub returns-clause-keeps : goal.returns-clause-keeps
returns-clause-keeps g c =
    let s = c.args.self.now in
    elim c.if-self-dir-2.branch [
      | then-self-dir-2 w ↦
          rw (w.self-is, w.image-is, w.workspace-is) (record {
            parent = refl;
            kept_parent = record {
              right = λ b t claims survey.
                  let G = graph_of (volume_of c.args.geometry.now.layout b) in
                  let kept = c.requires.kept_parent.right b t claims survey in
                  let same = w.if-self-dir-2.true in
                  record {
                    path = λ some. subst (λ d. IsPathOf G d w.child-self.result) same
                        (child_made G s w.child-self.result kept (omega (arith, same, some))
                        (rw w.as_slice.ensures.value at w.child-self.ensures.names));
                    parent = λ some. absurd (omega arith);
                    child = λ some. absurd (omega arith);
                  };
            };
            reads = names_none c.requires.ready;
          })
      | else-self-dir-2+in_ok-put_directory w ↦
          let made = w.in_ok-put_directory.ensures in
          rw (w.self-is, w.image-is, w.workspace-is) (record {
            parent = refl;
            kept_parent = kept_on _ made.leaves.reads (record {
              right = λ b t claims survey. record {
                path = λ some. made.path b t claims survey;
                parent = λ some. absurd (omega arith);
                child = λ some. absurd (omega arith);
              };
            });
            reads = made.leaves;
          })
    ]
