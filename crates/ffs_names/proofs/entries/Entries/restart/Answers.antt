use Rattle.std.proofs.Common.{arith, refl, rules}
use Rattle.ffs_names.proofs.Shaped.{begins_directory}
use Rattle.ffs_names.proofs.entries.Entries.restart.Goals as goal

pub returns : goal.returns
returns c =
    let reads = c.restart.ensures.reads in
    record {
      begins = λ known.
          let begins = c.restart.ensures.begins known in
          begins_directory refl (search rules) begins.chunks begins.gap begins.gap_left
          (λ b. omega (arith, reads.to_read b, begins.runs_left b)) reads.held begins.runs begins.runs_left;
      geometry = reads.geometry;
    }
