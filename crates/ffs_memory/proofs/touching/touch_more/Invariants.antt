use Rattle.std.{proofs.Common.{◌≡◌, ◌+◌, ◌-◌, ◌≤◌, ◌++◌, replicate, vec_len, max}, specs.Prelude.vec_capacity}
use Rattle.std.specs.Vec.{vec_ptr}
use Rattle.ffs_memory.proofs.touching.touch_more.Given as goal

abbrev pub invariant-loop-len : goal.invariant-loop-len
invariant-loop-len g l = record {
  len : l.len ≡ vec_len l.list;
  within : vec_len l.fn.touched ≤ vec_len l.list;
  past : vec_len l.list ≤ max (vec_len l.fn.touched) (l.index + 1);
  items : l.list.items ≡ l.fn.touched.items ++ replicate (vec_len l.list - vec_len l.fn.touched) l.value;
  address : vec_ptr l.list ≡ vec_ptr l.fn.touched;
  room : vec_capacity l.list ≡ vec_capacity l.fn.touched;
}

abbrev pub decreases-loop-len : goal.decreases-loop-len
decreases-loop-len g l = l.index + 1 - l.len
