use Rattle.std.proofs.Common.{◌≡◌, length, take, map}
use Rattle.ffs_report.specs.Piece.{shown}
use Rattle.ffs_report.proofs.print.mask.Given as goal

abbrev pub invariant-loop-index : goal.invariant-loop-index
invariant-loop-index l = record {
  long : length l.masked ≡ length l.bytes;
  shown : take l.index l.masked ≡ map shown (take l.index l.bytes);
}
