-- All the worked examples together.
use Rattle.ffs_volume.specs.Examples.BlockExamples.{ClassExamples, ClaimExamples, GroupExamples, StepExamples}
use Rattle.ffs_volume.specs.Examples.DirectoryExamples.{EntryExamples, PathnameExamples, ReferenceExamples}
use Rattle.ffs_volume.specs.Examples.OpeningExamples.{AreaExamples, OpeningExamples, SuperblockExamples}

-- the definitions give what each worked example says
pub record ExamplesHold : Type 0 where
  pub superblocks : SuperblockExamples
  pub areas : AreaExamples
  pub opening : OpeningExamples
  pub classes : ClassExamples
  pub steps : StepExamples
  pub claims : ClaimExamples
  pub groups : GroupExamples
  pub entries : EntryExamples
  pub pathnames : PathnameExamples
  pub references : ReferenceExamples
