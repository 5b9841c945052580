use Rattle.std.{proofs.Common.{◌≡◌, take}, specs.List.list_any}
use Rattle.ffs_report.specs.Piece.{is_control}
use Rattle.ffs_report.proofs.print.any_control.Given as goal

abbrev pub invariant-loop-byte : goal.invariant-loop-byte
invariant-loop-byte l = l.any_control ≡ list_any is_control (take l.byte-index l.bytes)
