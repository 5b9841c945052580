-- The bits of a map of fragments, and what a call leaves of them.
use Rattle.std.specs.Prelude.{◌≡◌, ℕ, zero, suc, ◌+◌, ◌*◌, ◌%◌, ◌<◌, ◌≤◌, Bool, IsTrue, true, false, not, ◌&&◌, List}
use Rattle.std.specs.{Prelude.{nat_lt, slice_set, replicate, Result, IfOk}, List.slice_index_or, Int.div_ceil}
use Rattle.ffs_memory.specs.Account.{Account, Asks}
use Rattle.ffs_maps.specs.{WordBits.bits_of_words, declared.FragmentMap.FragmentMap}

-- a map's bits, one for each fragment
abbrev pub bits_of : FragmentMap → List Bool
bits_of m = bits_of_words m.words.list m.size

-- the map is of n fragments, and has these bits
pub record HasBits (m : FragmentMap) (n : ℕ) (set : List Bool) : Type 0 where
  pub size : m.size ≡ n
  pub bits : bits_of m ≡ set

-- a map of n fragments is asked for: it is made with no bit set, or the memory was refused
pub record MakesMap {E : Type 0} (old new : Account) (n : ℕ) (result : Result FragmentMap E) : Type 0 where
  pub made : IfOk result (λ m. HasBits m n (replicate n false))
  pub asks : Asks old new (8 * div_ceil n 64) result

-- the bits with `len` of them set, from an index on
abbrev pub set_run : List Bool → (start len : ℕ) → List Bool
set_run bits start zero = bits
set_run bits start (suc len) = set_run (slice_set bits start true) (start + 1) len

-- `len` bits from an index on are clear
abbrev pub AreClear : List Bool → (start len : ℕ) → Type 0
AreClear bits start len = (k : ℕ) → k < len → slice_index_or bits (start + k) false ≡ false

-- a run lies in one word, and in a map of n fragments
pub record IsInWord (start len n : ℕ) : Type 0 where
  pub one_word : start % 64 + len ≤ 64
  pub below : start + len ≤ n

-- a run isn't empty, and lies in one word and in a map of n fragments
pub record IsSomeInWord (start len n : ℕ) : Type 0 where
  pub some : 0 < len
  pub run : IsInWord start len n

-- a run isn't empty, and lies in a map of n fragments
pub record IsSomeRun (start len n : ℕ) : Type 0 where
  pub some : 0 < len
  pub below : start + len ≤ n

-- the fragments from `start` on and below `end` are a part of a map of n fragments
pub record IsPart (start end n : ℕ) : Type 0 where
  pub order : start ≤ end
  pub below : end ≤ n

-- a run is claimed only where none of its bits was set, and its bits are set then: else nothing is
-- changed. One that lies in one word is always claimed where none of its bits was set
pub record ClaimsRun (old new : FragmentMap) (start len : ℕ) (claimed_now : Bool) : Type 0 where
  pub size : new.size ≡ old.size
  pub clear : IsTrue claimed_now → AreClear (bits_of old) start len
  pub claimed : IsTrue claimed_now → bits_of new ≡ set_run (bits_of old) start len
  pub unchanged : claimed_now ≡ false → new ≡ old
  pub one_word : start % 64 + len ≤ 64 → AreClear (bits_of old) start len → IsTrue claimed_now

-- a fragment is of the map, and its bit is clear
abbrev pub is_clear : List Bool → (size f : ℕ) → Bool
is_clear bits size f = nat_lt f size && not (slice_index_or bits f false)
