use Rattle.std.{proofs.Common.{arith, ap, refl}, specs.Vec.with_item}
use Rattle.ffs_memory.proofs.fixed_list.FixedListIndexMutUsize.index_mut.Goals as goal

pub returns : goal.returns
returns g c = ((refl, λ w. ap (λ list. with_item list c.args.index w) c.self.view_is), grind arith)
