use Rattle.ffs_volume.proofs.BlockExamples.{class_examples, step_examples, claim_examples, group_examples}
use Rattle.ffs_volume.proofs.DirectoryExamples.{entry_examples, pathname_examples, reference_examples}
use Rattle.ffs_volume.proofs.OpeningExamples.{superblock_examples, area_examples, opening_examples}
use Rattle.ffs_volume.proofs.laws.examples_hold.Goals as goal

pub returns : goal.returns
returns c = record {
  superblocks = superblock_examples;
  areas = area_examples;
  opening = opening_examples;
  classes = class_examples;
  steps = step_examples;
  claims = claim_examples;
  groups = group_examples;
  entries = entry_examples;
  pathnames = pathname_examples;
  references = reference_examples;
}
