use Rattle.std.proofs.Common.{arith}
use Rattle.ffs_layout.proofs.Answering.{taken}
use Rattle.ffs_layout.proofs.superblock.read_superblock_bytes.Goals as goal

pub returns-in-Ok-clause-copied : goal.returns-in-Ok-clause-copied
returns-in-Ok-clause-copied g c = record {
  same = c.in-Ok.ensures.bytes.ok;
  inside = omega arith;
  bytes = λ b e. taken _ 1376 b _ (omega arith) (c.in-Ok.ensures.bytes.bytes b e);
}
