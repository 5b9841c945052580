-- The whole report of an image: its text as a list of messages, how the check ends, and its status.
use Rattle.std.specs.Prelude.{ℕ, ◌*ℤ◌, ◌+ℤ◌, int_div, Bool, true, false, not, ◌&&◌, if◌then◌else◌, List, [], ◌∷◌, ◌++◌}
use Rattle.std.specs.{Prelude.{map, count_by, ℤ, pos, Option, Result, Ok, Err, ◌≡◌}, List.range_with_len}
use Rattle.std.specs.List.{slice_index_or}
use Rattle.ffs_volume.specs.declared.{Layout.Layout, SuperFault.SuperFault, End.{End, TheVariants.Consistent}}
use Rattle.ffs_volume.specs.declared.End.TheVariants.{Defects, Refused, RootStop, ReadFault, WriteFault, NoMemory}
use Rattle.ffs_volume.specs.Disk.{Areas.is_reserved, Superblock.Superblock, Outcome.outcome}
use Rattle.ffs_volume.specs.Blocks.{Inodes.is_file_or_dir, Owners.{owners_of, inode_numbers}, Claims.all_claims}
use Rattle.ffs_volume.specs.Blocks.{Claims.is_set, BlockCheck.{phase1_lines, phase1b_lines, has_dup_lines}}
use Rattle.ffs_volume.specs.{Groups.GroupCheck.{phase5_lines, is_free_of_kept}, Messages.Kinds.{Message, phase1}}
use Rattle.ffs_volume.specs.Messages.Kinds.{phase1b, phase2, phase3, phase4, phase5, of_blocks, of_tree, summary}
use Rattle.ffs_volume.specs.{Messages.Kinds.{has_defect, stops_at_last}, Report.Opening.{super_lines, head_lines}}
use Rattle.ffs_volume.specs.{Report.Opening.{opening_lines, fault_line}, Directories.PathnameCheck.pathname_lines}
use Rattle.ffs_volume.specs.Directories.{PathnameCheck.continues_after_root, Connectivity.connectivity_lines}
use Rattle.ffs_volume.specs.Directories.{ReferenceCheck.reference_lines, Volumes.{class_at, volume_of}}

-- how many files and directories there are
unfoldable pub file_count : Layout → List ℕ → ℕ
file_count v image = count_by (λ x. is_file_or_dir (class_at v image x)) (inode_numbers v)

-- how many Runs are seen
unfoldable pub run_count : Layout → List ℕ → ℕ
run_count v image = (all_claims v image).runs

-- how many fragments are claimed; reserved ones don't count
unfoldable pub claimed_count : Layout → List ℕ → ℕ
claimed_count v image =
    count_by (λ f. is_set (all_claims v image).used f && not (is_reserved v f)) (range_with_len 0 v.size)

-- the superblock's own count of loose fragments
abbrev pub loose_fragments : Superblock → ℤ
loose_fragments s = slice_index_or s.cstotal 3 (pos 0)

-- the superblock's own count of free blocks
abbrev pub free_blocks : Superblock → ℤ
free_blocks s = slice_index_or s.cstotal 1 (pos 0)

-- the summary, the last message of a report, with the superblock's own counts: all free fragments,
-- loose fragments and free blocks. Its last number is the fragmentation: the loose fragments as a
-- share of the volume's data fragments (dsize), in tenths of a percent, rounded toward zero
abbrev pub summary_of : (s : Superblock) (files used : ℕ) → Message
summary_of s files used =
    summary files used (loose_fragments s +ℤ pos s.layout.frag *ℤ free_blocks s) (loose_fragments s) (free_blocks s)
    (int_div (loose_fragments s *ℤ pos 1000) (pos s.layout.dsize))

-- what each phase reports, with its heading
abbrev pub phase1_messages : Layout → (image : List ℕ) → List Message
phase1_messages v image = phase1 ∷ map of_blocks (phase1_lines v (owners_of v image))

abbrev pub phase1b_messages : Layout → (image : List ℕ) → List Message
phase1b_messages v image = phase1b ∷ map of_blocks (phase1b_lines v (owners_of v image))

abbrev pub phase2_messages : Layout → (image : List ℕ) → List Message
phase2_messages v image = phase2 ∷ map of_tree (pathname_lines (volume_of v image))

abbrev pub phase3_messages : Layout → (image : List ℕ) → List Message
phase3_messages v image = phase3 ∷ map of_tree (connectivity_lines (volume_of v image))

abbrev pub phase4_messages : Layout → (image : List ℕ) → List Message
phase4_messages v image = phase4 ∷ map of_tree (reference_lines (volume_of v image))

-- in phase 5 a fragment is free where it is neither reserved nor claimed by a kept offer
abbrev pub phase5_messages : (image : List ℕ) → Superblock → List Message
phase5_messages image s = phase5 ∷ map of_blocks (phase5_lines s.layout image s.cstotal
    (is_free_of_kept s.layout (owners_of s.layout image)) (class_at s.layout image))

-- the summary of an image, in a list of its own
abbrev pub summary_messages : (image : List ℕ) → Superblock → List Message
summary_messages image s = summary_of s (file_count s.layout image) (claimed_count s.layout image) ∷ []

-- phase 1b, where it runs
abbrev pub phase1b_messages_if_dups : Layout → List ℕ → List Message
phase1b_messages_if_dups v image = if has_dup_lines v (owners_of v image) then phase1b_messages v image else []

-- phases 3 to 5 and the summary
unfoldable pub later_phase_lines : List ℕ → Superblock → List Message
later_phase_lines image s =
    phase3_messages s.layout image
    ++ (phase4_messages s.layout image ++ (phase5_messages image s ++ summary_messages image s))

-- the phases and the summary; where inode 2 isn't a directory, the check stops after the root's line
unfoldable pub phase_lines : List ℕ → Superblock → List Message
phase_lines image s =
    phase1_messages s.layout image ++ (phase1b_messages_if_dups s.layout image ++ (phase2_messages s.layout image
    ++ (if continues_after_root (volume_of s.layout image) then later_phase_lines image s else [])))

-- the report of an image with this accepted superblock, after `head_lines`
unfoldable pub report_lines : List ℕ → Superblock → List Message
report_lines image s = super_lines s ++ phase_lines image s

-- how the check ends, by whether it continues after the root and whether it has reported a defect
abbrev pub end_by : (continues defect : Bool) → End
end_by true true = Defects
end_by true false = Consistent
end_by false defect = RootStop

-- how the check of an accepted superblock ends
unfoldable pub end_of : List ℕ → Superblock → End
end_of image s = end_by (continues_after_root (volume_of s.layout image)) (has_defect (report_lines image s))

-- what is reported of an image after `head_lines`, by the outcome of its superblock
abbrev pub lines_by_outcome : List ℕ → Result Superblock SuperFault → List Message
lines_by_outcome image (Ok s) = report_lines image s
lines_by_outcome image (Err fault) = fault_line fault ∷ []

-- how the check ends, by the outcome of the superblock
abbrev pub end_by_outcome : List ℕ → Result Superblock SuperFault → End
end_by_outcome image (Ok s) = end_of image s
end_by_outcome image (Err fault) = Refused fault

-- the messages of the whole report of an image
unfoldable pub report_of : (image name : List ℕ) (sector : Option ℕ) → List Message
report_of image name sector = head_lines name sector ++ lines_by_outcome image (outcome image sector)

-- how the check of an image ends
unfoldable pub report_end : (image : List ℕ) (sector : Option ℕ) → End
report_end image sector = end_by_outcome image (outcome image sector)

-- the end of a whole report follows from the text that was printed, of any image: `Refused` has the fault
-- that the opening says. Any other is `RootStop` just where the check stops after the last message, and else
-- says whether there is a defect. No report that is whole ends as `ReadFault`, `WriteFault` or `NoMemory`
abbrev pub EndAgrees : (name : List ℕ) (sector : Option ℕ) (text : List Message) → End → Type 0
EndAgrees name sector text (Refused fault) = text ≡ opening_lines name sector (Err fault)
EndAgrees name sector text end = end ≡ end_by (not (stops_at_last text)) (has_defect text)

-- the exit status of an end
abbrev pub status_of : End → ℕ
status_of Consistent = 0
status_of Defects = 1
status_of (Refused fault) = 8
status_of RootStop = 8
status_of (ReadFault sector) = 8
status_of WriteFault = 8
status_of NoMemory = 8
