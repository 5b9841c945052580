-- How long the file of an inode is, and what holds of each of its steps, whatever the image holds.
use Rattle.std.specs.Prelude.{ℕ, ◌≡◌, ◌<◌, ◌≤◌, ◌^◌, IfSome, if◌then◌else◌}
use Rattle.ffs_volume.specs.{declared.Step.{Step, TheVariants.{Run, Tail, Gap}}, Laws.RunLengths.HasLength}
use Rattle.ffs_volume.specs.declared.{Class.Class, Inode.Inode, Layout.Layout}
use Rattle.ffs_volume.specs.Blocks.{Inodes.{class_of, logical_blocks_of}, Steps.{is_walked, last_length_of}}

-- the last logical block of an inode has so many fragments, where it is direct: some, and no more
-- than a block
pub record IsLastLength (v : Layout) (inode : Inode) (len : ℕ) : Type 0 where
  pub value : len ≡ last_length_of v inode
  pub within : (0 < len) × (len ≤ v.frag)

-- a walk over an inode goes over so many logical blocks, if this is the inode's class. In any case they are few
-- enough that the number of each fits a u64: a size is below 2^64, and a block has 2^12 bytes or more
pub record AreWalkedBlocks (v : Layout) (inode : Inode) (class : Class) (blocks : ℕ) : Type 0 where
  pub value : class ≡ class_of v inode → blocks ≡ (if is_walked v inode then logical_blocks_of v inode else 0)
  pub small : blocks < 2 ^ 53

-- a Run of data is that of a logical block of the inode
abbrev pub IsWithin : ℕ → Step → Type 0
IsWithin blocks (Run start len block) = IfSome block (λ b. b < blocks)
IsWithin blocks Tail = Unit {0}
IsWithin blocks Gap = Unit {0}

-- the step is one of an inode with so many logical blocks: a Run has a fragment, and at most those
-- of a block
pub record IsStepOf (frag blocks : ℕ) (step : Step) : Type 0 where
  pub length : HasLength frag step
  pub within : IsWithin blocks step
