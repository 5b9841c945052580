use Rattle.std.proofs.Common.{◌-◌, length, arith}
use Rattle.ffs_report.{specs.Piece.is_control, proofs.Shows.any_overlap}
use Rattle.ffs_report.proofs.print.has_control.Goals as goal

-- the first and the last eight bytes of at most sixteen
pub returns-then-len : goal.returns-then-len
returns-then-len c =
    let bytes = c.args.bytes.now in
    rw (c.any_control-then-len.ensures, c.any_control-then-len-2.ensures)
    (any_overlap is_control bytes 8 (length bytes - 8) (omega arith) (omega arith))

pub returns : goal.returns
returns c = grind (arith, any_overlap)
