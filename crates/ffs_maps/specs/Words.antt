-- Words of 64 bits, of which those that aren't touched yet have the bits of the reserved fragments.
use Rattle.std.specs.Prelude.{◌≡◌, ◌↔◌, ◌-◌, ◌*◌, ◌<◌, ◌≤◌, ℕ, List, Bool, false, IsTrue, Option, None, Some}
use Rattle.std.specs.Prelude.{bit_and, bit_or, length, map, replicate, slice_set, vec_len}
use Rattle.std.specs.{List.{slice_index_or, range_with_len}, Int.div_ceil, Ptr.Ptr, Simd.Lanes.mask_l}
use Rattle.std.specs.declared.{vec.Vec.Vec, alloc.Global.Global}
use Rattle.ffs_volume.specs.Disk.Areas.{is_reserved}
use Rattle.ffs_memory.specs.Touching.{TouchesTo}
use Rattle.ffs_layout.specs.declared.geometry.Geometry.{Geometry}
use Rattle.ffs_maps.specs.declared.map_words.Stored.{Stored}

-- a list of words, the address of its memory, and for how many words that has room
pub record Words : Type 0 where
  pub list : List ℕ
  pub address : Ptr
  pub room : ℕ

-- the bit of a fragment in a word that isn't touched is set: the geometry is known, and the fragment
-- is reserved
abbrev pub reserved_bit : Option Geometry → ℕ → Bool
reserved_bit None f = false
reserved_bit (Some g) f = is_reserved g.layout f

-- the word at an index that isn't touched
unfoldable pub reserved_bits : Option Geometry → ℕ → ℕ
reserved_bits reserved index = mask_l (map (reserved_bit reserved) (range_with_len (64 * index) 64))

-- n words from an index on that aren't touched
abbrev pub reserved_words : Option Geometry → (from n : ℕ) → List ℕ
reserved_words reserved from n = map (reserved_bits reserved) (range_with_len from n)

-- so many words are those of the volume whose geometry is known, if one is
abbrev pub HasWordsFor : Option Geometry → ℕ → Type 0
HasWordsFor None count = Unit {0}
HasWordsFor (Some g) count = count ≡ div_ceil g.layout.size 64

-- the word at an index is one of them
abbrev pub IsWordFor : Option Geometry → ℕ → Type 0
IsWordFor None index = Unit {0}
IsWordFor (Some g) index = 64 * index < g.layout.size

-- the words with the bits of a mask set in the one at an index
abbrev pub with_bits : Words → (index mask : ℕ) → Words
with_bits words index mask = record words {
  list = slice_set words.list index (bit_or (slice_index_or words.list index 0) mask);
}

-- the bits of a mask are claimed in the word at an index just where none of them was set, and they
-- are set then: else nothing is changed
pub record ClaimsBits (old new : Words) (index mask : ℕ) (claimed_now : Bool) : Type 0 where
  pub clear : IsTrue claimed_now ↔ (bit_and (slice_index_or old.list index 0) mask ≡ 0)
  pub claimed : IsTrue claimed_now → new ≡ with_bits old index mask
  pub unchanged : claimed_now ≡ false → new ≡ old

-- words are touched up to an index and maybe further, but no more than `count`, with the bits that
-- they had
pub record TouchesWords (old new : Vec ℕ Global) (reserved : Option Geometry) (count index : ℕ) : Type 0 where
  pub past : index < vec_len new
  pub more : vec_len old ≤ vec_len new
  pub within : vec_len new ≤ count
  pub touches : TouchesTo old new (reserved_words reserved (vec_len old) (vec_len new - vec_len old))

-- the same of a map's words as they are stored
pub record TouchesStored (old new : Stored) (index : ℕ) : Type 0 where
  pub words : TouchesWords old.touched new.touched old.reserved old.count index
  pub count : new.count ≡ old.count
  pub reserved : new.reserved ≡ old.reserved

-- the reserved fragments become known where no bit is set and no word is touched: their bits are set
-- then. Else nothing is changed
pub record LaysReserved (old new : Words) (g : Geometry) (laid : Bool) : Type 0 where
  pub zeros : IsTrue laid → old.list ≡ replicate (length old.list) 0
  pub bits : IsTrue laid → new ≡ record old { list = reserved_words (Some g) 0 (length old.list) }
  pub unchanged : laid ≡ false → new ≡ old
