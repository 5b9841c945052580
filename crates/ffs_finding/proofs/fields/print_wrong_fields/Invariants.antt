use Rattle.std.{proofs.Common.{◌≡◌, take}, specs.List.concat}
use Rattle.ffs_report.specs.Sink.{Took}
use Rattle.ffs_finding.specs.{Outcome.any_line, Fields.wrong_lines}
use Rattle.ffs_finding.proofs.fields.print_wrong_fields.Given as goal

abbrev pub invariant-loop-field : goal.invariant-loop-field
invariant-loop-field g l =
    let before = wrong_lines l.start (take l.field-index l.fields) in
    record {
      took : Took (g.W.Output.sink l.fn.out) (g.W.Output.sink l.out) (concat before);
      is : l.any ≡ any_line before;
    }
