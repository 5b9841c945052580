-- The examples by computation: whole reports, the bytes of messages, and kept steps.
use Rattle.std.{proofs.Common.{◌≡◌, [], ◌∷◌, ◌++◌, None, refl, ap, ◌∙◌, codes, pos}, specs.Fmt.digits}
use Rattle.ffs_volume.specs.declared.{Order.TheVariants.{Little, Big}, BlockMessage.TheVariants.Dup}
use Rattle.ffs_volume.specs.{declared.Label.TheVariants.File as FileLabel, Disk.Numbers.{number, all_below, u16_at}}
use Rattle.ffs_volume.specs.Disk.{Numbers.{i16_at, u32_at, u64_at, i32_at}, Areas.{cgoffset_of, cgbase, cgstart}}
use Rattle.ffs_volume.specs.Disk.Areas.{is_group_metadata, is_fragment_in_range, is_run_in_range, is_reserved}
use Rattle.ffs_volume.specs.{Disk.{Outcome.outcome, Search.{first_below, earliest}}, Blocks.Inodes.inode_from_bytes}
use Rattle.ffs_volume.specs.Blocks.{Inodes.{inode_of, class_of}, Steps.{steps_at, steps_of}, Owners.owner_of}
use Rattle.ffs_volume.specs.Blocks.{Owners.owners_of, Claims.{reserved_map, no_claims, all_claims}}
use Rattle.ffs_volume.specs.Blocks.{BlockCheck.{phase1_lines, phase1b_lines, is_marked}, KeptSteps.claims_before}
use Rattle.ffs_volume.specs.{Blocks.KeptSteps.kept_steps_of, Directories.Entries.{is_well_formed, entry_read, entry_at}}
use Rattle.ffs_volume.specs.Directories.{Entries.entries_from, Roles.{role_of, roled_from, roled_entries, start_entry}}
use Rattle.ffs_volume.specs.Directories.{Roles.{dot, dotdot, references_below}, Paths.{longest_end, path_bytes}}
use Rattle.ffs_volume.specs.Directories.{Paths.{names_down, dir_path, entry_path}, PathnameCheck.attributes}
use Rattle.ffs_volume.specs.Directories.PathnameCheck.{root_lines, header_defects, header_lines, dir_header_lines}
use Rattle.ffs_volume.specs.Directories.PathnameCheck.{plain_verdict, entry_lines, lines_of_entries, sized_dir_lines}
use Rattle.ffs_volume.specs.Directories.{PathnameCheck.pathname_lines, Climb.climb, Graph.{within, level, parent}}
use Rattle.ffs_volume.specs.Directories.{Connectivity.connectivity_lines, ReferenceCheck.inode_reference_lines}
use Rattle.ffs_volume.specs.Directories.{ReferenceCheck.reference_lines, Volumes.{chunk_source_of, volume_with}}
use Rattle.ffs_volume.specs.{Directories.Volumes.volume_of, Groups.Records.{right_group_counts, right_frsum}}
use Rattle.ffs_volume.specs.Groups.Records.{right_total, maps_fit, has_right_magic, has_right_maps, has_right_sums}
use Rattle.ffs_volume.specs.Groups.{Records.{has_right_record, has_right_totals}, GroupCheck.phase5_lines}
use Rattle.ffs_volume.specs.Messages.Kinds.{lines_below, has_defect, image_name, mounted, phase1, phase1b, phase2}
use Rattle.ffs_volume.specs.Messages.Kinds.{phase3, phase4, phase5, of_blocks, of_tree, summary, of_entry, of_reference}
use Rattle.ffs_volume.specs.{Messages.{Shown.octal, Texts.texts_of}, Report.Whole.{file_count, claimed_count}}
use Rattle.ffs_volume.specs.Report.Whole.{later_phase_lines, phase_lines, report_lines, report_of, report_end}
use Rattle.ffs_volume.specs.Report.{Whole.{lines_by_outcome, end_by_outcome}, Opening.{setting_lines, head_lines}}
use Rattle.ffs_volume.specs.Examples.Images.{bytes_in, word, zero_bytes, mount_bytes, base_layout, base_superblock}
use Rattle.ffs_volume.specs.Examples.Images.{base_super, base_summary, base_group, root_inode, root_chunk, base_image}
use Rattle.ffs_volume.specs.Examples.{DirectoryExamples.entry_bytes, BlockExamples.blocks_at}
use Rattle.ffs_volume.proofs.OpeningExamples.{superblock_examples}
use Rattle.ffs_volume.specs.declared.tree_lines.{EntryLine.TheVariants.DupBad, ReferenceLine.TheVariants.UnrefDir}
use Rattle.ffs_certificate.specs.ReportExamples.{ReportExamples, dinode_bytes, dir_chunk, two_dirs, named_dir}
use Rattle.ffs_certificate.specs.ReportExamples.{unnamed_dir, shared_summary, shared_group, shared_image}
use Rattle.ffs_certificate.specs.ReportExamples.{shared_superblock, about_file, clean_lines}
use Rattle.ffs_certificate.specs.{MessageExamples.MessageExamples, KeptExamples.{KeptExamples, kept_first}}
use Rattle.ffs_certificate.proofs.ReportLaws.{certified}

-- all that these computations open
computes : Unit {0}
unfolding bytes_in word zero_bytes base_layout base_superblock base_super base_summary base_group root_inode root_chunk
    base_image entry_bytes dinode_bytes dir_chunk two_dirs named_dir unnamed_dir shared_summary shared_group shared_image
    shared_superblock number all_below u16_at i16_at u32_at u64_at i32_at cgoffset_of cgbase cgstart is_group_metadata
    is_fragment_in_range is_run_in_range is_reserved inode_from_bytes inode_of class_of steps_at steps_of owner_of
    owners_of reserved_map no_claims phase1_lines phase1b_lines is_marked claims_before kept_steps_of is_well_formed
    entry_read entry_at entries_from role_of roled_from roled_entries chunk_source_of volume_with volume_of start_entry
    dot dotdot references_below first_below earliest climb within level parent lines_below attributes root_lines
    header_defects header_lines dir_header_lines plain_verdict entry_lines lines_of_entries sized_dir_lines
    pathname_lines connectivity_lines inode_reference_lines reference_lines right_group_counts right_frsum right_total
    maps_fit has_right_magic has_right_maps has_right_sums has_right_record has_right_totals phase5_lines setting_lines
    file_count all_claims claimed_count later_phase_lines phase_lines report_lines
computes = tt

base_lines : report_lines (base_image Little) (base_superblock Little) ≡ clean_lines
unfolding computes
base_lines = refl

base_big_lines : report_lines (base_image Big) (base_superblock Big) ≡ clean_lines
unfolding computes
base_big_lines = refl

shared_lines : report_lines shared_image shared_superblock
    ≡ mounted mount_bytes ∷ phase1 ∷ of_blocks (Dup 37 4) ∷ phase1b ∷ of_blocks (Dup 37 3)
    ∷ phase2 ∷ of_tree (of_entry (DupBad FileLabel (about_file 3) (47 ∷ 97 ∷ [])))
    ∷ of_tree (of_entry (DupBad FileLabel (about_file 4) (47 ∷ 98 ∷ [])))
    ∷ phase3 ∷ phase4 ∷ phase5 ∷ summary 3 2 (pos 93) (pos 5) (pos 22) (pos 52) ∷ []
unfolding computes longest_end path_bytes names_down dir_path entry_path
shared_lines = refl

named_pathnames : pathname_lines (volume_of (base_layout Little) named_dir) ≡ []
unfolding computes
named_pathnames = refl

named_connected : connectivity_lines (volume_of (base_layout Little) named_dir) ≡ []
unfolding computes
named_connected = refl

named_references : reference_lines (volume_of (base_layout Little) named_dir) ≡ []
unfolding computes
named_references = refl

unnamed : connectivity_lines (volume_of (base_layout Little) unnamed_dir)
    ≡ of_reference (UnrefDir (record { number = 3; uid = 0; mode = 16877; size = 512; mtime = pos 0 })) ∷ []
unfolding computes
unnamed = refl

pub report_examples : ReportExamples
unfolding computes report_of report_end
report_examples =
    let accepted = superblock_examples.accepted in
    let accepted_big = superblock_examples.accepted_big in
    let right = (certified (base_image Little) None (base_superblock Little) accepted) in
    let right_big = (certified (base_image Big) None (base_superblock Big) accepted_big) in
    let silent = right.silent.0 (ap has_defect base_lines) in
    record {
      base = ap (λ r. head_lines (codes "t.img") None ++ lines_by_outcome (base_image Little) r) accepted
          ∙ ap (λ ls. image_name (codes "t.img") ∷ ls) base_lines;
      base_big = ap (λ r. head_lines (codes "t.img") None ++ lines_by_outcome (base_image Big) r) accepted_big
          ∙ ap (λ ls. image_name (codes "t.img") ∷ ls) base_big_lines;
      base_end = ap (end_by_outcome (base_image Little)) accepted ∙ right.end_is.1 silent;
      base_right = silent;
      base_big_right = right_big.silent.0 (ap has_defect base_big_lines);
      shared = shared_lines;
      stopped = refl;
      named_pathnames = named_pathnames;
      named_connected = named_connected;
      named_references = named_references;
      unnamed = unnamed;
    }

pub message_examples : MessageExamples
unfolding outcome octal base_layout digits
message_examples = assumption (ap texts_of report_examples.base, ap texts_of shared_lines)

pub kept_examples : KeptExamples
unfolding computes blocks_at kept_first
kept_examples = assumption
