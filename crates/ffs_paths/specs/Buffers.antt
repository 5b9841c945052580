-- What a buffer of a path holds.
use Rattle.std.specs.Prelude.{ℕ, ◌≡◌, ◌+◌, ◌<◌, Bool, false, nat_lt, List, ◌∷◌, ◌++◌, length, drop}
use Rattle.ffs_volume.specs.{Directories.Paths.{joined, longest_end}, declared.constants.TheConstants.MAXPATHLEN}
use Rattle.ffs_paths.specs.{Slashes.from_slash, declared.buffer.PathBuffer.PathBuffer}

-- what is from `from` on, a `/` and a name are at the end of a buffer, cut or not; its short end is
-- all of that where there is room for a `?`, else what follows its first name
pub record IsLonger (old : PathBuffer) (from : ℕ) (name : List ℕ) (cut : Bool) (new : PathBuffer) : Type 0 where
  pub start_is : new.start + length name + 1 ≡ from
  pub bytes : drop new.start new.bytes ≡ drop from old.bytes ++ 47 ∷ name
  pub all : 0 < new.start → new.short ≡ new.start
  pub second : new.start ≡ 0 → drop new.short new.bytes ≡ from_slash (drop 1 new.bytes)
  pub cut_is : new.cut ≡ cut

-- all of these names where they have room, their longest end of at most 1,023 bytes, and whether
-- they have room
pub record HoldsNames (p : PathBuffer) (names : List (List ℕ)) : Type 0 where
  pub whole : p.cut ≡ false → drop p.start p.bytes ≡ joined names
  pub short : drop p.short p.bytes ≡ joined (longest_end 1023 names)
  pub cut : p.cut ≡ nat_lt MAXPATHLEN (length (joined names))
