-- What an image gives, and what a read does to it.
use Rattle.std.specs.Borrow.{GName}
use Rattle.std.specs.Prelude.{◌≡◌, ℕ, ◌+◌, ◌-◌, ◌^◌, min, List, length, drop, take, Option, Some, IfSome}

-- an image as it was lent to another one, which lies over it: the reference to it, how often that
-- one reads it at most, how many reads it had counted, how many had failed, and the sector of the
-- last one that did. So a contract can say that a call over a `LimitedImage` leaves the same image
-- below it
pub record LentImage : Type 0 where
  pub image : GName
  pub limit : ℕ
  pub reads : ℕ
  pub failures : ℕ
  pub failed_sector : ℕ

-- what contracts know of any image, one in memory too: its bytes, where it gives them, its size in
-- bytes, how many reads have failed, the sector of the last one that did, and the images that it
-- was lent, the next one below it first
pub record Device : Type 0 where
  pub contents : Option (List ℕ)
  pub size : ℕ
  pub failures : ℕ
  pub failed_sector : ℕ
  pub lent : List LentImage

-- P holds of the bytes of an image that gives them; of another image this asks nothing
abbrev pub ForContents : Option (List ℕ) → (List ℕ → Type 0) → Type 0
ForContents contents P = (bytes : List ℕ) → contents ≡ Some bytes → P bytes

-- a count rose by one, or stays at `u64::MAX`
abbrev pub Rose : ℕ → ℕ → Type 0
Rose old new = new ≡ min (old + 1) (2 ^ 64 - 1)

-- a read that fails at a sector leaves the image as it was, but for the two numbers about failed reads
pub record Faulted (old new : Device) (sector : ℕ) : Type 0 where
  pub contents : new.contents ≡ old.contents
  pub size : new.size ≡ old.size
  pub lent : new.lent ≡ old.lent
  pub failed_sector : new.failed_sector ≡ sector
  pub rose : Rose old.failures new.failures

-- the bytes that an image gives are as many as its size
abbrev pub IsSized : Device → Type 0
IsSized d = IfSome d.contents (λ b. length b ≡ d.size)

-- these are the image's bytes from a place on, where it gives its bytes
abbrev pub IsAt : Device → ℕ → List ℕ → Type 0
IsAt d at xs = ForContents d.contents (λ b. xs ≡ take (length xs) (drop at b))
