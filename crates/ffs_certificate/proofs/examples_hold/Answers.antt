use Rattle.ffs_certificate.proofs.Examples.{kept_examples, message_examples, report_examples}
use Rattle.ffs_certificate.proofs.examples_hold.Goals as goal

pub returns : goal.returns
returns c = record { kept = kept_examples; reports = report_examples; messages = message_examples }
