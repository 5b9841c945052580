use Rattle.std.specs.List.{flat_map, range_with_len}
use Rattle.ffs_report.specs.Sink.{Took}
use Rattle.ffs_volume.specs.Find.InodeText.{address_text}
use Rattle.ffs_finding.proofs.inode.print_addresses.Given as goal

abbrev pub invariant-loop-index : goal.invariant-loop-index
invariant-loop-index g l =
    let sink = g.W.Output.sink in
    record {
      took : Took (sink l.fn.out) (sink l.out)
          (flat_map (address_text l.geometry.layout l.inode.addresses) (range_with_len 0 l.index));
    }
