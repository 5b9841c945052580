-- The examples of classes, steps and claims of inodes, and of groups, by computation.
use Rattle.std.proofs.Common.{refl}
use Rattle.ffs_volume.specs.Blocks.{Claims.reserved_map, Claims.no_claims, Inodes.inode_from_bytes, Inodes.inode_of}
use Rattle.ffs_volume.specs.Blocks.{Inodes.class_of, KeptByRule.offer_verdict, Steps.steps_at, Steps.steps_of}
use Rattle.ffs_volume.specs.Disk.Areas.{cgoffset_of, cgbase, cgstart, is_group_metadata, is_fragment_in_range}
use Rattle.ffs_volume.specs.Disk.{Areas.is_run_in_range, Areas.is_reserved, Search.first_below, Search.earliest}
use Rattle.ffs_volume.specs.Examples.BlockExamples.{inode, file_inode, root, file, blocks_at, first_reported}
use Rattle.ffs_volume.specs.Examples.BlockExamples.{second_reported, base_free, two_free, base_class, groups_reported}
use Rattle.ffs_volume.specs.Examples.BlockExamples.{ClassExamples, StepExamples, ClaimExamples, GroupExamples, words_at}
use Rattle.ffs_volume.specs.Disk.Numbers.{number, all_below, u16_at, i16_at, u32_at, u64_at, i32_at}
use Rattle.ffs_volume.specs.Examples.Images.{bytes_in, word, zero_bytes, changed, base_layout, two_groups}
use Rattle.ffs_volume.specs.Examples.Images.{base_super, base_summary, base_group, root_inode, root_chunk, base_image}
use Rattle.ffs_volume.specs.{Groups.GroupCheck.phase5_lines, Blocks.Owners.owner_of, Blocks.Owners.owners_of}
use Rattle.ffs_volume.specs.Groups.Records.{right_group_counts, right_frsum, right_total, maps_fit, has_right_magic}
use Rattle.ffs_volume.specs.Groups.Records.{has_right_maps, has_right_sums, has_right_record, has_right_totals}
use Rattle.ffs_volume.specs.Blocks.BlockCheck.{phase1_lines, phase1b_lines}

-- what the examples compute with
computed : Unit {0}
unfolding bytes_in word zero_bytes changed base_layout two_groups base_super base_summary base_group root_inode root_chunk
    base_image inode file_inode root file blocks_at first_reported second_reported base_free two_free
    base_class groups_reported number u16_at i16_at u32_at u64_at i32_at first_below earliest all_below cgoffset_of
    cgbase cgstart is_group_metadata is_fragment_in_range is_run_in_range is_reserved inode_from_bytes inode_of
    class_of steps_at steps_of owner_of owners_of reserved_map no_claims phase1_lines phase1b_lines offer_verdict
    right_group_counts right_frsum right_total maps_fit has_right_magic has_right_maps has_right_sums has_right_record
    has_right_totals phase5_lines
computed = tt

pub class_examples : ClassExamples
unfolding computed
class_examples = assumption

pub step_examples : StepExamples
unfolding computed words_at
step_examples = record {
  base = refl;
  base_big = refl;
  direct = refl;
  whole = refl;
  device = refl;
  symlink = refl;
  single = refl;
  tail = refl;
  out_of_range = refl;
  double = refl;
}

pub claim_examples : ClaimExamples
unfolding computed
claim_examples = assumption

pub group_examples : GroupExamples
unfolding computed
group_examples = assumption
