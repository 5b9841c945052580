use Rattle.std.proofs.{Common.{arith}}
use Rattle.ffs_paths.proofs.ChunkNames.{in_chunk, past_chunk}
use Rattle.ffs_paths.proofs.name.find_in_chunks.Goals as goal

pub loop-chunk-preserved : goal.loop-chunk-preserved
loop-chunk-preserved c = grind (arith, past_chunk)

pub returns-then-find_in_chunk : goal.returns-then-find_in_chunk
returns-then-find_in_chunk c = grind (arith, in_chunk)

pub returns : goal.returns
returns c = grind arith
