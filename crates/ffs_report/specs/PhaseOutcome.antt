-- What a phase leaves of its image and of its report, by its answer. `knows` is what is known of
-- the image's bytes: that the image gives them, and what the workspace holds of them. Where nothing
-- is known, some messages were said; of these it is promised only that the phase's heading is the
-- first (`HeadingFirst`).
use Rattle.std.specs.Prelude.{◌≡◌, ℕ, List, [], ◌∷◌, ◌++◌, Result, Ok, Err}
use Rattle.ffs_image.specs.{Device.{Device, Faulted}, Known.ForBytes}
use Rattle.ffs_volume.specs.Messages.Kinds.{Message}
use Rattle.ffs_report.specs.{Progress.{Progress, Said, Stopped}, declared.fault.RunFault.{RunFault, TheVariants.Read}}
use Rattle.ffs_report.specs.declared.fault.RunFault.TheVariants.{Out}

-- a read's fault is given by the image, and no other answer touches the image
abbrev pub ImageAfter : {T : Type 0} → (old new : Device) → Result T RunFault → Type 0
ImageAfter old new (Ok x) = new ≡ old
ImageAfter old new (Err (Read fault)) = Faulted old new fault.sector
ImageAfter old new (Err (Out fault)) = new ≡ old

-- messages were said, and with `rest`, those that are to come, they are `all`
pub record SaidTo (rest all : List Message) (old new : Progress) : Type 0 where
  pub messages : List Message
  pub right : messages ++ rest ≡ all
  pub said : Said old new messages

-- the same, where the messages to come, and all of them, are those of an image's bytes
pub record SaidOf (knows : List ℕ → Type 0) (rest all : List ℕ → List Message) (old new : Progress) : Type 0 where
  pub messages : List Message
  pub right : ForBytes knows (λ bytes. messages ++ rest bytes ≡ all bytes)
  pub said : Said old new messages

-- the first ones of these messages, perhaps all of them, and what became of them: they were said, or the output failed
-- among them
pub record FirstMessages (knows : List ℕ → Type 0) (all : List ℕ → List Message) (IsOutcome : List Message → Type 0) :
    Type 0 where
  pub messages : List Message
  pub rest : List ℕ → List Message
  pub right : ForBytes knows (λ bytes. messages ++ rest bytes ≡ all bytes)
  pub outcome : IsOutcome messages

-- all messages at Ok, whole ones at a read's fault, a prefix of their bytes at a fault of the output
abbrev pub PhaseReports : {T : Type 0} → (List ℕ → Type 0) → (List ℕ → List Message) → (old new : Progress) →
    Result T RunFault → Type 0
PhaseReports knows all old new (Ok x) = SaidOf knows (λ bytes. []) all old new
PhaseReports knows all old new (Err (Read fault)) = FirstMessages knows all (Said old new)
PhaseReports knows all old new (Err (Out fault)) = FirstMessages knows all (Stopped old new)

-- the outcome of saying these messages and then reading, by an answer that may be a read's fault
abbrev pub SaysThenReads : {T : Type 0} → List Message → (old new : Progress) → Result T RunFault → Type 0
SaysThenReads messages old new (Ok x) = Said old new messages
SaysThenReads messages old new (Err (Read fault)) = Said old new messages
SaysThenReads messages old new (Err (Out fault)) = Stopped old new messages

-- of any image the heading is the first of the messages: no read failed before it was said
pub record HeadingFirst {T : Type 0} (heading : Message) (old new : Progress) (result : Result T RunFault) : Type 0
  where
    pub more : List Message
    pub says : SaysThenReads (heading ∷ more) old new result
