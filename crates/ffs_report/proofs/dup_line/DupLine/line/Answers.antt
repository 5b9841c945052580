use Rattle.std.proofs.Common.{arith, ◌∙◌, drop, decimal}
use Rattle.ffs_report.proofs.{DupLines.put_leaves, Sinks.rest_at, dup_line.DupLine.line.Goals.then-inode-self}
use Rattle.ffs_report.proofs.dup_line.DupLine.line.Goals.{else-inode-self}
use Rattle.ffs_report.proofs.dup_line.DupLine.line.Goals as goal

pub invariant_of-self-clause-ends : goal.invariant_of-self-clause-ends
invariant_of-self-clause-ends c =
    let bytes = c.if-inode-self.self.bytes in
    let tail = c.if-inode-self.self.tail in
    put_leaves c.write_digits-start.new.buf (decimal c.args.fragment) (drop tail bytes)
    c.write_digits-start.result tail c.write_digits-start.ensures.start
    c.write_digits-start.ensures.written ∙ c.if-inode-self.self.ends

pub returns : goal.returns
returns c = grind (arith, rest_at)
