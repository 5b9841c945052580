-- The bits of a map with the reserved fragments.
use Rattle.std.proofs.Common.{◌≡◌, ℕ, ◌*◌, ◌<◌, ◌≤◌, Bool, false, List, length, ◌&&◌, ◌||◌, nat_lt, count_by, get_or}
use Rattle.std.proofs.{Common.{replicate, arith, ap, ◌∙◌, sym}, lemmas.List.{same_lists, get_or_default}}
use Rattle.std.proofs.lemmas.List.{get_or-replicate, FromFn.{get_or-map-range_with_len, length-map-range_with_len}}
use Rattle.std.specs.{List.{range_with_len, slice_index_or}, Prelude.Some}
use Rattle.ffs_volume.specs.{declared.Layout.Layout, Disk.Areas.is_reserved}
use Rattle.ffs_layout.specs.declared.geometry.Geometry.{Geometry}
use Rattle.ffs_maps.specs.{Reserved.with_reserved, WordBits.{bits_of_words, set_among}, Words.reserved_words}
use Rattle.ffs_maps.proofs.{Bits.{bits_are, get_bits, is_bit, zero_bits}, Counting.sum_same, Words.reserved_bits_at}

pub length_with : (v : Layout) (bits : List Bool) → length (with_reserved v bits) ≡ v.size
unfolding with_reserved
length_with v bits = length-map-range_with_len (λ f. is_reserved v f || slice_index_or bits f false) 0 v.size

pub get_with : (v : Layout) (bits : List Bool) (f : ℕ) (d : Bool) → f < v.size →
    get_or (with_reserved v bits) f d ≡ (is_reserved v f || slice_index_or bits f false)
unfolding with_reserved
get_with v bits f d low = grind (arith, get_or-map-range_with_len)

-- ---- run after run
abbrev so_far : Layout → List Bool → ℕ → ℕ → Bool
so_far v bits end f = (nat_lt f end && is_reserved v f) || get_or bits f false

-- all of them
pub all_set : (v : Layout) (old bits : List Bool) (end : ℕ) → v.size ≤ end → length bits ≡ v.size →
    ((f : ℕ) → f < v.size → get_or bits f false ≡ so_far v old end f) → bits ≡ with_reserved v old
all_set v old bits end past long at = grind (arith, same_lists, length_with, get_or_default, get_with)

-- ---- in words that aren't touched
pub reserved_in : (g : Geometry) (n size f : ℕ) → size ≤ 64 * n → f < size →
    is_bit (reserved_words (Some g) 0 n) f ≡ is_reserved g.layout f
reserved_in g n size f enough low = grind (arith, get_or-map-range_with_len, reserved_bits_at)

-- the bits of a map where none was set
pub reserved_all : (g : Geometry) (words : List ℕ) (n size : ℕ) → size ≡ g.layout.size → size ≤ 64 * n →
    words ≡ replicate n 0 → bits_of_words (reserved_words (Some g) 0 n) size ≡ with_reserved g.layout (bits_of_words words size)
reserved_all g words n size is enough zeros =
    bits_are (reserved_words (Some g) 0 n) size (with_reserved g.layout (bits_of_words words size))
    (length_with g.layout (bits_of_words words size) ∙ sym is)
    (λ f d low. reserved_in g n size f enough low
    ∙ alone (is_reserved g.layout f) (get_or (bits_of_words words size) f false)
    (ap (λ ws. get_or (bits_of_words ws size) f false) zeros ∙ ap (λ bits. get_or bits f false) (zero_bits n size)
    ∙ get_or-replicate size f false false low)
    ∙ sym (get_with g.layout (bits_of_words words size) f d (omega (arith, low, is))))
  where
    alone : (a b : Bool) → b ≡ false → a ≡ (a || b)
    alone a b e = grind arith

-- how many they are
pub reserved_ones : (g : Geometry) (n size x : ℕ) → size ≡ g.layout.size → size ≤ 64 * n →
    x ≡ count_by (is_reserved g.layout) (range_with_len 0 g.layout.size) →
    x ≡ set_among (bits_of_words (reserved_words (Some g) 0 n) size) 0 size
reserved_ones g n size x is enough counted = grind (arith, sum_same, get_bits, reserved_in)
