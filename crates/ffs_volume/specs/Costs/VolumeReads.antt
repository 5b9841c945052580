-- How often a check reads an image that gives its bytes, by what the volume holds: its inode tables and
-- indirect blocks, its directories, and each phase for its own messages.
use Rattle.std.specs.Prelude.{ℕ, ◌+◌, List, [], ◌∷◌, Some, None, if◌then◌else◌, Bool, length, ◌*◌}
use Rattle.ffs_volume.specs.{declared.{Layout.Layout, Step.{Step, TheVariants.{Run, Tail, Gap}}}, Blocks.Claims.Claims}
use Rattle.ffs_volume.specs.Blocks.{Claims.{after_owner, after_step, at_next_inode, is_open, no_claims}, Owners.Owner}
use Rattle.ffs_volume.specs.{Blocks.Owners.owners_of, Report.Reads.{table_blocks, group_reads, line_reads}}
use Rattle.ffs_volume.specs.{Blocks.BlockCheck.has_dup_lines, Costs.DirectoryReads.phase2_cost}
use Rattle.ffs_volume.specs.Directories.{Connectivity.connectivity_lines, ReferenceCheck.reference_lines}
use Rattle.ffs_volume.specs.Directories.{PathnameCheck.{continues_after_root, pathname_lines}, Volumes.volume_of}

-- 1 for an indirect block that is seen, else 0
abbrev pub seen_indirect : Claims → Step → ℕ
seen_indirect s (Run start len None) = if is_open s then 1 else 0
seen_indirect s (Run start len (Some block)) = 0
seen_indirect s Tail = 0
seen_indirect s Gap = 0

-- how many indirect blocks are seen, of steps one after the other
abbrev pub indirect_in_steps : Layout → Claims → List Step → ℕ
indirect_in_steps v s [] = 0
indirect_in_steps v s (step ∷ steps) = seen_indirect s step + indirect_in_steps v (after_step v s step) steps

-- how many are seen, of inodes one after the other
abbrev pub indirect_in_owners : Layout → Claims → List Owner → ℕ
indirect_in_owners v s [] = 0
indirect_in_owners v s (o ∷ os) =
    indirect_in_steps v (at_next_inode s) o.steps + indirect_in_owners v (after_owner v s o) os

-- how many indirect blocks phase 1 sees
unfoldable pub indirect_count : Layout → List ℕ → ℕ
indirect_count v image = indirect_in_owners v (no_claims v) (owners_of v image)

-- phase 1 reads each block of the inode tables once, and each indirect block that is seen once
abbrev pub volume_scan_reads : Layout → List ℕ → ℕ
volume_scan_reads v image = table_blocks v + indirect_count v image

-- phase 1b reads no more than phase 1 does, and only where phase 1 has a DUP line
abbrev pub rescan_reads : Layout → (bytes : List ℕ) → ℕ
rescan_reads v bytes = if has_dup_lines v (owners_of v bytes) then volume_scan_reads v bytes else 0

-- phase 2 reads directories as `phase2_cost` says, and for each of its messages `line_reads` times
abbrev pub volume_pathname_reads : Layout → (bytes : List ℕ) → ℕ
volume_pathname_reads v bytes = phase2_cost v bytes + line_reads * length (pathname_lines (volume_of v bytes))

-- where the check continues after the root, phases 3 and 4 read an inode for each of their messages, and
-- phase 5 reads the groups
abbrev pub later_reads : (continues : Bool) → Layout → (bytes : List ℕ) → ℕ
later_reads continues v bytes =
    if continues
    then length (connectivity_lines (volume_of v bytes))
    + (length (reference_lines (volume_of v bytes)) + group_reads v)
    else 0

-- all phases read an image that gives its bytes this often at most: phase 1 its inode tables and the
-- indirect blocks that are seen, phase 2 its directories, and each phase for its own messages alone
abbrev pub volume_phase_reads : Layout → (bytes : List ℕ) → ℕ
volume_phase_reads v bytes = volume_scan_reads v bytes + (rescan_reads v bytes + (volume_pathname_reads v bytes
    + later_reads (continues_after_root (volume_of v bytes)) v bytes))
