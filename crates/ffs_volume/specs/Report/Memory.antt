-- The memory that a check may hold, and the Runs that it may see.
use Rattle.std.specs.{Prelude.{ℕ, ◌+◌, ◌*◌}, Int.div_ceil}
use Rattle.ffs_volume.specs.declared.Layout.{Layout}

-- how many bytes the lists and buffers of a check take: two maps of the fragments, 25 bytes an inode,
-- six blocks
abbrev pub held_of : Layout → ℕ
held_of v = 2 * (8 * div_ceil v.size 64) + 25 * (v.ncg * v.ipg) + 6 * v.bsize

-- a bound on these bytes on which callers may rely: it leaves room for a map, two blocks and 4,096 bytes
-- more than are held
abbrev pub held_limit : Layout → ℕ
held_limit v = 3 * (8 * div_ceil v.size 64) + 25 * (v.ncg * v.ipg) + 8 * v.bsize + 4096

-- how many Runs of an inode may claim no fragment: eleven bad ones, and eleven with dup offers. It is
-- rounded up: the first eleventh of either cuts the inode, so there are 21 at most. It is the sum of the
-- two bounds, for which neither count asks for the other
abbrev pub runs_without_claim : ℕ
runs_without_claim = 22

-- the most Runs that are seen: one for each fragment, and for each inode those that claim none
abbrev pub runs_limit : Layout → ℕ
runs_limit v = v.size + runs_without_claim * (v.ncg * v.ipg)
