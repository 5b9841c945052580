-- All the examples: what the definitions give for kept steps, for whole reports and for messages.
use Rattle.ffs_certificate.specs.{KeptExamples.KeptExamples, MessageExamples.MessageExamples}
use Rattle.ffs_certificate.specs.ReportExamples.{ReportExamples}

pub record WorkedExamples : Type 0 where
  pub kept : KeptExamples
  pub reports : ReportExamples
  pub messages : MessageExamples
