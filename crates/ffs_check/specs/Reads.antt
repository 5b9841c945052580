-- How often a check reads its image at most: one that gives its bytes, and any image, also one that gives
-- other bytes each time, by the messages that went out, whole or in part.
use Rattle.std.specs.Prelude.{◌≡◌, ◌⊎◌, ◌≤◌, ◌+◌, ◌++◌, ℕ, List, length, Option, Result, Ok, Err}
use Rattle.ffs_image.specs.{Device.ForContents, Known.ForBytes}
use Rattle.ffs_volume.specs.{declared.SuperFault.SuperFault, Disk.{Outcome.outcome, Superblock.Superblock}}
use Rattle.ffs_volume.specs.{Messages.{Kinds.Message, Texts.texts_of}, Costs.VolumeReads.volume_phase_reads}
use Rattle.ffs_volume.specs.Report.{Reads.{line_reads, opening_reads, phase_reads, reads_limit}, Whole.phase_lines}
use Rattle.ffs_volume.specs.Report.Whole.{report_of}
use Rattle.ffs_report.specs.{Paid.Paid, Sink.Took, declared.fault.RunFault.RunFault}
use Rattle.ffs_check.specs.{Ends.BrokeOffAfter, Moment.{Moment, ReportMoment}}

-- the phases read the image at most as often as the layout allows, and as what the volume holds does
pub record PhasesReadWithin (s : Superblock) (bytes : List ℕ) (reads reads' : ℕ) : Type 0 where
  pub limit : reads' ≤ reads + phase_reads s.layout (length (phase_lines bytes s))
  pub volume : reads' ≤ reads + volume_phase_reads s.layout bytes

-- the whole check of an image that gives its bytes: what the opening reads where the superblock isn't
-- accepted, else within the limit, and within that by what its volume holds
pub record ReadsWithin (name : List ℕ) (asked_sector : Option ℕ) (old new : Moment) : Type 0 where
  pub refused : ForContents old.image.contents (λ bytes. (fault : SuperFault) → outcome bytes asked_sector ≡ Err fault
      → new.reads ≤ old.reads + opening_reads asked_sector)
  pub accepted : ForContents old.image.contents (λ bytes. (s : Superblock) → outcome bytes asked_sector ≡ Ok s
      → new.reads ≤ old.reads + reads_limit asked_sector s.layout (length (report_of bytes name asked_sector)))
  pub volume : ForContents old.image.contents (λ bytes. (s : Superblock) → outcome bytes asked_sector ≡ Ok s
      → new.reads ≤ old.reads + (opening_reads asked_sector + volume_phase_reads s.layout bytes))

-- messages went out, or the output failed within the last of them, and there were no more reads than the
-- limit for so many messages. It says nothing of an image that counts no reads, as a file (its `reads` is 0), nor
-- with an output that doesn't give its bytes, as standard output: there the messages are any
pub record ReadsByMessages (limit : ℕ → ℕ) (old new : Moment) : Type 0 where
  pub said : List Message
  pub last : List Message
  pub few : length last ≤ 1
  pub went_out : Took old.out new.out (texts_of (said ++ last)) ⊎ BrokeOffAfter old.out new.out said last
  pub most : new.reads ≤ old.reads + limit (length (said ++ last))

-- how often the phases read an image whose bytes are known, and any image, for the messages that
-- went out
pub record PhasesRead (knows : List ℕ → Type 0) (s : Superblock) (old new : Moment) : Type 0 where
  pub known : ForBytes knows (λ bytes. PhasesReadWithin s bytes old.reads new.reads)
  pub any : ReadsByMessages (phase_reads s.layout) old new

-- the same, by what the phases answered: of any image for the messages that were begun. A message takes
-- `line_reads` in phase 2, and one read in phases 3 and 4. Each is counted for both, since the limit
-- doesn't ask of which phase a message is
pub record PhasesPay {T : Type 0} (knows : List ℕ → Type 0) (s : Superblock) (old new : ReportMoment)
    (result : Result T RunFault) : Type 0 where
  pub known : ForBytes knows (λ bytes. PhasesReadWithin s bytes old.reads new.reads)
  pub paid : Paid (line_reads + 1) old.report new.report (old.reads + phase_reads s.layout 0) new.reads result
