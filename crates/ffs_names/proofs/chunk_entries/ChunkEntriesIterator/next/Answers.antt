use Rattle.std.proofs.Common.{ap, length, rules}
use Rattle.ffs_volume.proofs.Reading.{entries_next}
use Rattle.ffs_layout.specs.Entry.{entry_value}
use Rattle.ffs_names.proofs.chunk_entries.ChunkEntriesIterator.next.Goals as goal

pub returns-clause-goes : goal.returns-clause-goes
returns-clause-goes c =
    let s = c.args.self.now in
    let next = entries_next s.order s.chunk.now s.place (entry_value c.in_ok-entry.entry) c.in_ok-entry.ensures.some in
    let shorter = ap length next in
    search rules
