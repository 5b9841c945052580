-- The parts of a map that are compared at a time: words of 64 bits, and what is left.
use Rattle.std.specs.{Prelude.{◌≡◌, ◌≢◌, ◌+◌, ◌*◌, ◌^◌, ◌<◌, ◌≤◌, ℕ, Bool, nat_eq}, Int.bit_at}

-- `many` elements from index `first` on lie in a list of `size`, and are at most `most`
pub record AreFewIn (most size first many : ℕ) : Type 0 where
  pub few : many ≤ most
  pub inside : first + many ≤ size

-- so many words of a map from a place on lie in a block of so many bytes, and their fragments, from
-- `base` on, lie in the map of the volume
pub record HasMapWords (mapped size base place words : ℕ) : Type 0 where
  pub inside : place + 8 * words ≤ size
  pub below : base + 64 * words ≤ mapped
  pub fits : base + 64 * words < 2 ^ 32

-- a bit of a word of 64 bits is clear
pub record IsClearAt (word index : ℕ) : Type 0 where
  pub within : index < 64
  pub clear : bit_at word index ≡ 0

-- the bit at an index has this value now, and the others are as they were
pub record SetsBit (old new index : ℕ) (right : Bool) : Type 0 where
  pub bit : nat_eq (bit_at new index) 1 ≡ right
  pub other : (k : ℕ) → k ≢ index → bit_at new k ≡ bit_at old k
