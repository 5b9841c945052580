-- How far the mask of a layout moves the parts of its groups.
use Rattle.std.specs.Prelude.{◌≡◌, ◌⊎◌, ◌-◌, ◌^◌, ◌<◌, ◌≤◌, ℕ, pos, bit_and}
use Rattle.ffs_volume.specs.declared.Layout.{Layout}

-- a power of 2 that isn't below a number of 32 bits
pub record IsPowerAbove (n power : ℕ) : Type 0 where
  pub exponent : ℕ
  pub power_is : power ≡ 2 ^ exponent
  pub high : n ≤ power
  pub low : power ≤ 2 ^ 32

-- how often the parts of group c are moved by `cgoffset`: by what the mask leaves of its number
abbrev pub moves : Layout → (c : ℕ) → ℕ
moves v c = bit_and c (4294967295 - v.cgmask)

-- where the volume has the group `most`, the parts of no group are moved further
abbrev pub IsMovedMost : Layout → (most : ℕ) → Type 0
IsMovedMost v most = most < v.ncg → (c : ℕ) → c < v.ncg → (v.cgoffset ≡ pos 0) ⊎ (moves v c ≤ moves v most)
