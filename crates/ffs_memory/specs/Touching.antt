-- The elements of a list that are written.
use Rattle.std.specs.Prelude.{◌≡◌, ◌++◌, ◌+◌, ◌-◌, ℕ, List, max, replicate, vec_capacity, vec_len}
use Rattle.std.specs.{Vec.vec_ptr, declared.{vec.Vec.Vec, alloc.Global.Global}}

-- the elements up to an index are touched: each that wasn't before is x, and the memory is the same
pub record Touches {A : Type 0} (old new : Vec A Global) (index : ℕ) (x : A) : Type 0 where
  pub len : vec_len new ≡ max (vec_len old) (index + 1)
  pub items : new.items ≡ old.items ++ replicate (index + 1 - vec_len old) x
  pub address : vec_ptr new ≡ vec_ptr old
  pub room : vec_capacity new ≡ vec_capacity old

-- these words are written besides, and the memory is the same
pub record TouchesTo (old new : Vec ℕ Global) (more : List ℕ) : Type 0 where
  pub items : new.items ≡ old.items ++ more
  pub address : vec_ptr new ≡ vec_ptr old
  pub room : vec_capacity new ≡ vec_capacity old
