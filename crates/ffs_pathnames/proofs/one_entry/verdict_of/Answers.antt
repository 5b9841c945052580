use Rattle.std.proofs.Common.{arith, refl, ◌∙◌}
use Rattle.ffs_volume.specs.Directories.Volumes.{volume_of}
use Rattle.ffs_pathnames.{proofs.SeesLaws.sees}
use Rattle.ffs_pathnames.proofs.one_entry.verdict_of.Goals as goal

pub returns : goal.returns
returns c =
    let w = c.args.workspace.now in
    record {
      below = λ q. omega (arith, c.verdict_at_reading.ensures.below q, c.as_slice.ensures.len);
      verdict = λ v b made h r.
          let shows = sees v b w _ (record {
            kinds = c.as_slice.ensures.value;
            marked = refl;
            parents = refl;
            count = c.as_slice.ensures.len ∙ made.kinds;
          }) h r in
          c.verdict_at_reading.ensures.is (volume_of v b) shows;
    }
