use Rattle.std.{proofs.Common.{◌≡◌, ◌-◌, ◌≤◌, ◌++◌, replicate, vec_len}, specs.{Prelude.vec_capacity, Vec.vec_ptr}}
use Rattle.ffs_memory.proofs.word_room.WordRoom.push_zeros.Given as goal

abbrev pub invariant-loop-len : goal.invariant-loop-len
invariant-loop-len l = record {
  len : l.len ≡ vec_len l.list;
  within : vec_len l.fn.self ≤ vec_len l.list;
  past : vec_len l.list ≤ l.end;
  items : l.list.items ≡ l.fn.self.items ++ replicate (vec_len l.list - vec_len l.fn.self) 0;
  address : vec_ptr l.list ≡ vec_ptr l.fn.self;
  room : vec_capacity l.list ≡ vec_capacity l.fn.self;
}

abbrev pub decreases-loop-len : goal.decreases-loop-len
decreases-loop-len l = l.end - l.len
