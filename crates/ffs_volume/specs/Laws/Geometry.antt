-- The conditions of `Outcome` once more, as facts of an accepted layout: `AcceptedFit` of
-- `Laws/Accepted` says that it has them. They are no further conditions. Four constants are written
-- out here, as proofs by arithmetic need them: 16 is CSUM_SIZE, 128 DINODE_SIZE, 168 CG_HEADER, and
-- 8192 SBSIZE.
use Rattle.std.{proofs.Common.{◌≡◌, ℕ, ◌+◌, ◌-◌, ◌*◌, ◌/◌, ◌%◌, ◌^◌, ◌<◌, ◌≤◌, true, pos}, specs.Int.div_ceil}
use Rattle.ffs_volume.specs.declared.{constants.TheConstants.SUPERBLOCK_BYTES, Layout.Layout}
use Rattle.ffs_volume.specs.Disk.{Numbers.zero_if_negative, Areas.{cgoffset_of, cgbase, cgdmin}}
use Rattle.ffs_volume.specs.Disk.Outcome.{is_valid_layout}

-- what `has_valid_sizes` gives
pub record HasSizes (v : Layout) : Type 0 where
  pub bsize_low : 4096 ≤ v.bsize
  pub bsize_high : v.bsize ≤ 65536
  pub fsize_low : 512 ≤ v.fsize
  pub fsize_high : v.fsize ≤ 65536
  pub frag_low : 1 ≤ v.frag
  pub frag_high : v.frag ≤ 8
  pub block : v.bsize ≡ v.frag * v.fsize
  pub nindir : v.nindir ≡ v.bsize / 4
  pub inopb : v.inopb ≡ v.bsize / 128
  pub some_inodes : 0 < v.ipg
  pub inode_blocks : v.ipg % v.inopb ≡ 0
  pub some_fragments : 0 < v.fpg
  pub whole_blocks : v.fpg % v.frag ≡ 0

-- what `has_valid_numbers` gives
pub record HasNumbers (v : Layout) : Type 0 where
  pub some_data : 1 ≤ v.dsize
  pub short_links : v.maxsymlinklen ≤ 60
  pub sbsize_low : SUPERBLOCK_BYTES ≤ v.sbsize
  pub size_above : (v.ncg - 1) * v.fpg < v.size
  pub size_within : v.size ≤ v.ncg * v.fpg
  pub size_below : v.size < 2 ^ 31
  pub inodes_below : v.ncg * v.ipg < 2 ^ 31

-- the parts of a group, one after the other
pub record HasParts (v : Layout) : Type 0 where
  pub super_above : 0 < v.sblkno
  pub super_fits : v.sblkno + div_ceil v.sbsize v.fsize ≤ v.cblkno
  pub block_fits : v.cblkno + div_ceil v.cgsize v.fsize ≤ v.iblkno
  pub inodes_fit : v.iblkno + v.ipg * 128 / v.fsize ≤ v.dblkno
  pub cgsize_low : 168 ≤ v.cgsize
  pub cgsize_high : v.cgsize ≤ v.bsize

-- the parts of a group begin at its base or above it, since the shift isn't negative (`moved_up`),
-- and its metadata ends within the group and the volume
pub record HasGroup (v : Layout) (c : ℕ) : Type 0 where
  pub moved_up : cgoffset_of v c ≡ pos (zero_if_negative (cgoffset_of v c))
  pub within_group : cgdmin v c ≤ cgbase v (c + 1)
  pub within_size : cgdmin v c ≤ v.size

-- the summary area begins where the data of group 0 does
pub record HasSummaryArea (v : Layout) : Type 0 where
  pub csaddr : v.csaddr ≡ cgdmin v 0
  pub room : 16 * v.ncg ≤ v.cssize
  pub summary_in_group : v.csaddr + div_ceil v.cssize v.fsize ≤ cgbase v 1
  pub summary_in_size : v.csaddr + div_ceil v.cssize v.fsize ≤ v.size

-- the layout of an accepted superblock: the conditions themselves (`shaped`), and what they give
pub record IsAcceptedLayout (v : Layout) : Type 0 where
  pub shaped : is_valid_layout v ≡ true
  pub some_groups : 0 < v.ncg
  pub some_cylinders : 0 < v.cpg
  pub ncyl_within : v.ncyl ≤ v.ncg * v.cpg
  pub ncyl_above : (v.ncg - 1) * v.cpg < v.ncyl
  pub sbsize_high : v.sbsize ≤ 8192
  pub sizes : HasSizes v
  pub numbers : HasNumbers v
  pub parts : HasParts v
  pub groups : (c : ℕ) → c < v.ncg → HasGroup v c
  pub summary : HasSummaryArea v
