use Rattle.std.proofs.Common.{rules, arith}
use Rattle.ffs_check.proofs.Mounts.{one_byte_more, stops, no_stop}
use Rattle.ffs_check.proofs.opening.before_nul.Goals as goal

pub returns-then-byte-eq0 : goal.returns-then-byte-eq0
returns-then-byte-eq0 c = stops c.args.bytes.now c.loop-at.at c.loop-at.invariant (search rules)

pub loop-at-preserved : goal.loop-at-preserved
loop-at-preserved c = one_byte_more c.args.bytes.now c.loop-at.at c.loop-at.invariant (omega arith) (search rules)

pub returns : goal.returns
returns c = no_stop c.args.bytes.now (search rules)
