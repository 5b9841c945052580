use Rattle.std.proofs.Common.{arith}
use Rattle.ffs_names.proofs.{Continuing.counts_here, RunChunks.none_taken, RunChunks.some_taken}
use Rattle.ffs_names.proofs.chunks.Chunks.next.Goals as goal

pub returns-in-Ok-Some-clause-chunk : goal.returns-in-Ok-Some-clause-chunk
returns-in-Ok-Some-clause-chunk g c = grind (arith, some_taken)

pub returns-then-self-eq0-clause-chunk : goal.returns-then-self-eq0-clause-chunk
returns-then-self-eq0-clause-chunk g c = grind (arith, counts_here)

pub returns-in-Ok-None-clause-chunk : goal.returns-in-Ok-None-clause-chunk
returns-in-Ok-None-clause-chunk g c = grind (arith, none_taken)

pub returns-in-Ok-Some-clause-reads : goal.returns-in-Ok-Some-clause-reads
returns-in-Ok-Some-clause-reads g c = λ held b t.
    let took = c.in-Ok-Some.ensures.reads held b t in
    record { most = took.most; paid = took.paid; held = record { frames = took.held.frames; run = took.held.run } }

pub returns-in-Err-clause-reads : goal.returns-in-Err-clause-reads
returns-in-Err-clause-reads g c = grind arith

pub returns-in-Err-clause-leaves : goal.returns-in-Err-clause-leaves
returns-in-Err-clause-leaves g c = grind arith
