use Rattle.std.proofs.Common.{ap, refl, arith}
use Rattle.ffs_names.proofs.{Begins.begins_at, ReadCounts.begins_reads}
use Rattle.ffs_names.proofs.chunks.Chunks.of_class.Goals as goal

pub invariant_of-result : goal.invariant_of-result
invariant_of-result c = grind arith

pub returns : goal.returns
returns c = record {
  begins = λ known. begins_at c.args.geometry.now.sound (ap (λ x. x.layout) c.of_class.ensures.geometry)
      (c.of_class.ensures.walk known).steps c.start.ensures.cut c.start.ensures.fresh
      (c.empty.ensures.none c.of_class.result.geometry.layout) c.bytes_read-bytes_to_read.ensures.value refl refl refl;
  reads = begins_reads c.of_class.ensures.geometry c.of_class.ensures.top c.empty.ensures.next
      c.empty.ensures.first;
}
