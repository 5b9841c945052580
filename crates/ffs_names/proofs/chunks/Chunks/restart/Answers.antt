use Rattle.std.proofs.Common.{ap, refl}
use Rattle.ffs_names.proofs.{Begins.begins_at, ReadCounts.begins_reads}
use Rattle.ffs_names.proofs.chunks.Chunks.restart.Goals as goal

pub returns : goal.returns
returns c = record {
  begins = λ known. begins_at c.args.self.now.walk.geometry.sound (ap (λ x. x.layout) c.restart.ensures.geometry)
      (c.restart.ensures.walk known).steps c.start-self.ensures.cut c.start-self.ensures.fresh
      (c.empty-self.ensures.none c.restart.new.self.geometry.layout) c.bytes_read-bytes_to_read.ensures.value refl refl
      refl;
  reads = begins_reads c.restart.ensures.geometry c.restart.ensures.top c.empty-self.ensures.next
      c.empty-self.ensures.first;
}
