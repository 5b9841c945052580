-- Numbers in the bytes of an image.
use Rattle.std.specs.{Prelude.{ℕ, zero, suc, ◌==◌, Bool, true, false, ◌&&◌, List, drop, take, ℤ, pos, negsuc}, Int.w16}
use Rattle.std.specs.Int.{w32, cast_signed}
use Rattle.byteorder.specs.Endian.{little_number, big_number}
use Rattle.ffs_volume.specs.declared.Order.{Order, TheVariants.{Little, Big}}

-- the unsigned number in the first n bytes
unfoldable pub number : Order → (n : ℕ) (bytes : List ℕ) → ℕ
number Little n bytes = little_number n bytes
number Big n bytes = big_number n bytes

-- the number of two, four or eight bytes at a place, an offset in bytes: unsigned (u), or in two's
-- complement (i)
unfoldable pub u16_at : (order : Order) (place : ℕ) (bytes : List ℕ) → ℕ
u16_at order place bytes = number order 2 (drop place bytes)

unfoldable pub u32_at : (order : Order) (place : ℕ) (bytes : List ℕ) → ℕ
u32_at order place bytes = number order 4 (drop place bytes)

unfoldable pub u64_at : (order : Order) (place : ℕ) (bytes : List ℕ) → ℕ
u64_at order place bytes = number order 8 (drop place bytes)

unfoldable pub i16_at : (order : Order) (place : ℕ) (bytes : List ℕ) → ℤ
i16_at order place bytes = cast_signed w16 (u16_at order place bytes)

unfoldable pub i32_at : (order : Order) (place : ℕ) (bytes : List ℕ) → ℤ
i32_at order place bytes = cast_signed w32 (u32_at order place bytes)

-- n bytes from a place on; fewer where the list ends before
abbrev pub piece : (place n : ℕ) (bytes : List ℕ) → List ℕ
piece place n bytes = take n (drop place bytes)

-- the number, or 0 where it is negative
abbrev pub zero_if_negative : ℤ → ℕ
zero_if_negative (pos n) = n
zero_if_negative (negsuc n) = 0

-- the number isn't negative
abbrev pub is_nonnegative : ℤ → Bool
is_nonnegative (pos n) = true
is_nonnegative (negsuc n) = false

-- the signed number of four bytes at a place, read as 0 where it is negative
unfoldable pub count_at : (order : Order) (place : ℕ) (bytes : List ℕ) → ℕ
count_at order place bytes = zero_if_negative (i32_at order place bytes)

-- each number below n passes
unfoldable pub all_below : ℕ → (ℕ → Bool) → Bool
all_below zero test = true
all_below (suc n) test = test n && all_below n test

-- the signed number is n
abbrev pub equals_natural : ℤ → ℕ → Bool
equals_natural (pos k) n = k == n
equals_natural (negsuc k) n = false
