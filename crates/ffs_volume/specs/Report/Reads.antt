-- The most reads that a check makes of an image. A read is of one block, of a piece of the inode table, of one
-- Run or part of a directory, of records that are together, or of a superblock.
use Rattle.std.specs.{Prelude.{ℕ, ◌+◌, ◌*◌, ◌/◌, Option, Some, None}, Int.div_ceil}
use Rattle.ffs_volume.specs.{declared.{Layout.Layout, constants.TheConstants.MAXPATHLEN}, Report.Memory.runs_limit}

-- the opening reads the superblock, and its last copy where no sector is asked for
abbrev pub opening_reads : (asked_sector : Option ℕ) → ℕ
opening_reads None = 2
opening_reads (Some sector) = 1

-- how many blocks the inode tables have, of `inopb` inodes each (fs(5))
abbrev pub table_blocks : Layout → ℕ
table_blocks v = v.ncg * v.ipg / v.inopb

-- phase 1 reads each block of the inode tables once, and each Run that is seen once
abbrev pub scan_reads : Layout → ℕ
scan_reads v = table_blocks v + runs_limit v

-- a sweep over all inodes and their blocks reads each inode once, and each Run that is seen once
abbrev pub sweep_reads : Layout → ℕ
sweep_reads v = v.ncg * v.ipg + runs_limit v

-- for a path the path of its parent is made first: a part of the image is read for each name that
-- 1,024 bytes have room for, and for one that has no room any more. Then one is read for the
-- directory's own name, also where that path was cut. Each name takes two bytes at least, with its
-- slash
abbrev pub path_reads : ℕ
path_reads = MAXPATHLEN / 2 + 2

-- a message of phase 2 takes the reads for two paths, that of the directory that it is about and that
-- of the directory that an entry names, and the read of an inode
abbrev pub line_reads : ℕ
line_reads = 2 * path_reads + 1

-- phase 2 goes over all directories for the survey, for the places of parent entries, and twice for
-- the messages, and reads what each message shows
abbrev pub pathname_reads : Layout → (lines : ℕ) → ℕ
pathname_reads v lines = 4 * sweep_reads v + line_reads * lines

-- how many summary records phase 5 reads at once: as many as a block of 4,096 bytes holds
abbrev pub records_at_once : ℕ
records_at_once = 256

-- phase 5 reads the block of each group, and the summary records of all groups, so many at once
abbrev pub group_reads : Layout → ℕ
group_reads v = v.ncg + div_ceil v.ncg records_at_once

-- all phases read this often at most, where so many messages are printed in all: phase 1 goes over the
-- inode tables, phase 1b over all inodes, and phases 3 and 4 read an inode for each message. Each message is
-- counted for phase 2 too, since the limit doesn't ask of which phase it is
abbrev pub phase_reads : Layout → (lines : ℕ) → ℕ
phase_reads v lines = scan_reads v + sweep_reads v + pathname_reads v lines + lines + group_reads v

-- the whole check reads this often at most
abbrev pub reads_limit : (asked_sector : Option ℕ) → Layout → (lines : ℕ) → ℕ
reads_limit asked_sector v lines = opening_reads asked_sector + phase_reads v lines
