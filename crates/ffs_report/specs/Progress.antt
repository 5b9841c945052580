-- How far a report has come.
use Rattle.std.specs.{Bool.{MatchBool, OnTrue}, Borrow.GName, Io.KnownBytes.Appends, Prelude.{◌≡◌, ◌⊎◌, ℕ, List, []}}
use Rattle.std.specs.Prelude.{◌∷◌, ◌++◌, Bool, true, false, ◌||◌, ◌&&◌, Result, MatchResult, IsErr, OnErr, is_ok, is_err}
use Rattle.ffs_image.specs.Device.{Rose}
use Rattle.ffs_report.specs.{Sink.{GoesGathered, Sink, Took}, declared.report.Report.Report}
use Rattle.ffs_volume.specs.Messages.{Kinds.{Message, has_defect}, Texts.{text_of, texts_of}}

-- the reference to its output, what that took, whether a line has failed, and whether a defect was said
pub record Progress : Type 0 where
  pub output : GName
  pub sink : Sink
  pub failed : Bool
  pub defect : Bool

-- how far a report over an output has come
abbrev pub progress : {W : Type 0} → (W → Sink) → Report W → Progress
progress sink report = record {
  output = report.out.ghost_name;
  sink = sink report.out.now;
  failed = report.failed;
  defect = report.defect;
}

-- nothing was said yet
abbrev pub starts : GName → Sink → Progress
starts output sink = record { output = output; sink = sink; failed = false; defect = false }

-- printing a line had this outcome, which is returned and recorded, and so is whether a defect was
-- printed
pub record AfterPrinting {W T E : Type 0} (old new : Report W) (printed : Result T E) (is_defect : Bool)
    (result : Result T E) : Type 0 where
  pub answer : result ≡ printed
  pub recorded : new ≡ record old {
    failed = old.failed || is_err printed;
    defect = old.defect || (is_ok printed && is_defect);
  }

-- these messages were said, and nothing failed
pub record Said (old new : Progress) (messages : List Message) : Type 0 where
  pub output : new.output ≡ old.output
  pub took : Took old.sink new.sink (texts_of messages)
  pub failed : new.failed ≡ old.failed
  pub defect : new.defect ≡ (old.defect || has_defect messages)

-- a prefix of these messages' bytes went out, and then the output failed, or it had failed before
pub record Stopped (old new : Progress) (messages : List Message) : Type 0 where
  pub output : new.output ≡ old.output
  pub holds : new.sink.holds ≡ old.sink.holds
  pub prefix : List ℕ
  pub rest : List ℕ
  pub whole : texts_of messages ≡ prefix ++ rest
  pub taken : Appends old.sink.taken new.sink.taken prefix
  pub failed : new.failed ≡ true
  pub cause : (old.failed ≡ true) ⊎ Rose old.sink.failures new.sink.failures

-- the outcome of saying these messages
abbrev pub Says : {T E : Type 0} → (old new : Progress) → List Message → Result T E → Type 0
Says old new messages result = MatchResult result (λ _. Said old new messages) (λ _. Stopped old new messages)

-- a message goes out by one put, if its text has less than 2,048 bytes, and by no put once a
-- line has failed. `unfoldable`, since it is said of each message, and asked of few
unfoldable pub GoesInOnePut : {W E : Type 0} → (W → List ℕ → Result ℕ E → W → Type 0) → (old new : Report W) →
    Message → Type 0
GoesInOnePut was_put old new message = MatchBool old.failed (new.out.now ≡ old.out.now)
    (GoesGathered was_put old.out.now new.out.now (text_of message) 2048)

-- the outcome of a call that says one message: a fault adds no defect, and after one each further
-- call is a fault that leaves the report as it was
pub record SaysOne {W T E F : Type 0} (sink : W → Sink) (was_put : W → List ℕ → Result ℕ F → W → Type 0)
    (old new : Report W) (message : Message) (result : Result T E) : Type 0 where
  pub said : Says (progress sink old) (progress sink new) (message ∷ []) result
  pub defect : OnErr result (new.defect ≡ old.defect)
  pub over : OnTrue old.failed (IsErr result × (progress sink new ≡ progress sink old))
  pub puts : GoesInOnePut was_put old new message
