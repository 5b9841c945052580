-- The examples of superblocks, areas and the opening, by computation.
use Rattle.ffs_volume.specs.Disk.Areas.{cgoffset_of, cgbase, cgstart, is_group_metadata, is_fragment_in_range}
use Rattle.ffs_volume.specs.Disk.{Areas.{is_run_in_range, is_reserved}, Numbers.{number, all_below, u32_at, i32_at}}
use Rattle.ffs_volume.specs.Disk.{Numbers.count_at, Outcome.{super_verdict, has_valid_cylinders, is_block_size}}
use Rattle.ffs_volume.specs.Disk.Outcome.{is_fragment_size, agree, is_fragment_count, has_valid_sizes}
use Rattle.ffs_volume.specs.Disk.Outcome.{has_valid_numbers, has_valid_parts, has_valid_group, has_valid_summary_area}
use Rattle.ffs_volume.specs.Disk.Outcome.{is_valid_layout, layout_fault, copy_agrees, outcome, outcome_in, outcome_of}
use Rattle.ffs_volume.specs.Disk.{Search.{first_below, earliest}, Superblock.{layout_of, superblock_of, order_of}}
use Rattle.ffs_volume.specs.{Messages.Shown.octal, Report.Opening.setting_lines, Examples.Images.{bytes_in, word}}
use Rattle.ffs_volume.specs.Examples.Images.{zero_bytes, base_layout, base_superblock, base_super, base_summary}
use Rattle.ffs_volume.specs.Examples.Images.{base_group, root_inode, root_chunk, base_image, changed, image_of}
use Rattle.ffs_volume.specs.Examples.{Images.{fault_of, two_groups}, OpeningExamples.{SuperblockExamples, AreaExamples}}
use Rattle.ffs_volume.specs.Examples.OpeningExamples.{OpeningExamples}

-- what the examples compute with
computed : Unit {0}
unfolding bytes_in word zero_bytes base_layout base_superblock base_super base_summary base_group root_inode root_chunk
    base_image changed image_of fault_of two_groups number u32_at i32_at count_at first_below earliest all_below
    layout_of layout_fault is_valid_layout has_valid_sizes is_block_size is_fragment_size is_fragment_count
    has_valid_cylinders has_valid_numbers has_valid_parts has_valid_group has_valid_summary_area cgoffset_of cgbase
    cgstart is_group_metadata is_fragment_in_range is_run_in_range is_reserved outcome outcome_of outcome_in
    super_verdict copy_agrees agree order_of superblock_of setting_lines octal
computed = tt

pub superblock_examples : SuperblockExamples
unfolding computed
superblock_examples = assumption

pub area_examples : AreaExamples
unfolding computed
area_examples = assumption

pub opening_examples : OpeningExamples
unfolding computed
opening_examples = assumption
