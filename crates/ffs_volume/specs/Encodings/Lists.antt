-- Reading a list that has one value for each inode, also past its end. `bool_at` is another name of
-- `is_set`, for lists of flags.
use Rattle.std.specs.Prelude.{ℕ, List, slice_index}
pub use Rattle.ffs_volume.specs.Blocks.Claims.{is_set as bool_at}

-- the number at an index of a list, 0 past its end
abbrev pub number_at : (numbers : List ℕ) (x : ℕ) → ℕ
number_at numbers x = slice_index numbers x
