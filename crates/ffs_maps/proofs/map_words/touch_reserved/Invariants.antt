use Rattle.std.{proofs.Common.{◌≡◌, ◌-◌, ◌≤◌, ◌++◌, vec_len}, specs.{Prelude.{vec_capacity, Some}, Vec.vec_ptr}}
use Rattle.ffs_maps.specs.Words.{reserved_words}
use Rattle.ffs_maps.proofs.map_words.touch_reserved.Given as goal

abbrev pub invariant-loop-len : goal.invariant-loop-len
invariant-loop-len l = record {
  len : l.len ≡ vec_len l.touched;
  within : vec_len l.fn.touched ≤ l.len;
  past : l.len ≤ l.end;
  items : l.touched.items
      ≡ l.fn.touched.items ++ reserved_words (Some l.geometry) (vec_len l.fn.touched) (l.len - vec_len l.fn.touched);
  address : vec_ptr l.touched ≡ vec_ptr l.fn.touched;
  room : vec_capacity l.touched ≡ vec_capacity l.fn.touched;
}

abbrev pub decreases-loop-len : goal.decreases-loop-len
decreases-loop-len l = l.end - l.len
