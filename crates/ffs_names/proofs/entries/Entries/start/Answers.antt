use Rattle.std.proofs.Common.{arith, refl, rules}
use Rattle.ffs_names.proofs.Shaped.{begins_directory}
use Rattle.ffs_names.proofs.entries.Entries.start.Goals as goal

pub returns : goal.returns
returns c =
    let begins = c.start-chunks.ensures.begins in
    let reads = c.start-chunks.ensures.reads in
    record {
      begins = begins_directory refl (search rules) begins.chunks begins.gap begins.gap_left
          (λ b. omega (arith, reads.to_read b, begins.runs_left b)) reads.held begins.runs begins.runs_left;
      geometry = reads.geometry;
    }
