-- What a group is counted from: a map of used fragments, and the kinds of the inodes.
use Rattle.std.specs.{Prelude.{◌≡◌, ◌+◌, ◌*◌, ◌<◌, ◌≤◌, ℕ, List, length}, Int.div_ceil}
use Rattle.ffs_volume.specs.{declared.Layout.Layout, Groups.Records.group_size}

-- a map is of as many fragments as the volume has, and c is a group of it
pub record HasFragments (v : Layout) (mapped c : ℕ) : Type 0 where
  pub group : c < v.ncg
  pub size : mapped ≡ v.size

-- there is a kind for each inode of the volume, and c is a group of it
pub record HasInodes (v : Layout) (listed : List ℕ) (c : ℕ) : Type 0 where
  pub group : c < v.ncg
  pub kinds : length listed ≡ v.ncg * v.ipg

-- both hold: a map of the fragments and a list of the kinds, to count group c from
pub record HasMaps (v : Layout) (mapped : ℕ) (listed : List ℕ) (c : ℕ) : Type 0 where
  pub fragments : HasFragments v mapped c
  pub inodes : HasInodes v listed c

-- a map of the volume's fragments can be compared with that of group c, which lies in a group block of
-- `size` bytes from a place on
pub record HasFragmentMap (v : Layout) (mapped c size place : ℕ) : Type 0 where
  pub fragments : HasFragments v mapped c
  pub inside : place + div_ceil v.fpg 8 ≤ size

-- the kinds of the inodes can be compared with the map of inodes of group c, which lies so too
pub record HasInodeMap (v : Layout) (listed : List ℕ) (c size place : ℕ) : Type 0 where
  pub inodes : HasInodes v listed c
  pub inside : place + div_ceil v.ipg 8 ≤ size

-- group c has n fragments, at most as many as a group may have
pub record IsGroupSize (v : Layout) (c n : ℕ) : Type 0 where
  pub value : n ≡ group_size v c
  pub within : n ≤ v.fpg
