-- What a run of a program prints, and its exit status, by the words after the program's name: 2
-- where the words are refused, 8 where the image isn't opened or memory lacked, else that of what was carried out.
use Rattle.std.specs.{Io.KnownBytes.Keeps, Prelude.{◌≡◌, ◌⊎◌, ℕ, List, [], ◌∷◌, ◌++◌, Option, Result, MatchResult}}
use Rattle.std.specs.{Prelude.codes, declared.io.Error.Error}
use Rattle.ffs_image.specs.Device.{Device}
use Rattle.ffs_volume.specs.Messages.{Kinds.cannot_alloc, Texts.text_of}
use Rattle.ffs_report.specs.{Outlet.IsCaused, Sink.{BrokeOff, Sink, Took}}
use Rattle.ffs_report.specs.declared.outlet.Outlet as outlet_trait
use Rattle.ffs_image.specs.declared.image.Image as image_trait
use Rattle.ffs_check.specs.declared.opener.Opener as opener_trait
use Rattle.ffs_check.specs.{Moment.Moment, Program.Meaning, Refusals.IsWritten}

-- the line where the image can't be opened
abbrev pub unopened_text : List ℕ → List ℕ
unopened_text name = codes "Can't open " ++ (name ++ (10 ∷ []))

-- a text was printed, or a prefix of it where the output failed
abbrev pub IsPrintedOrBrokeOff : (out out' : Sink) → List ℕ → Type 0
IsPrintedOrBrokeOff out out' text = Took out out' text ⊎ BrokeOff out out' text

-- how images are opened, and what contracts see of one that was
pub record Images (O : Type 0) : Type 1 where
  pub Image : Type 0
  pub device : Image → Device
  pub reads : Image → ℕ
  pub opens : O → List ℕ → Image → O → Type 0
  pub refuses : O → List ℕ → O → Type 0

-- those of an opener. I and O are what the types give to contracts as an Image and as an Opener
abbrev pub images_of : {I O : Type 0} → image_trait.Ghosts I → opener_trait.Ghosts O I → Images O
images_of {I} {O} looked_at opened = record {
  Image = I;
  device = looked_at.device;
  reads = looked_at.reads;
  opens = opened.opens;
  refuses = opened.refuses;
}

-- a moment of an image that is opened and worked on: what opens it, and the output
pub record OpenerMoment (O : Type 0) : Type 0 where
  pub opener : O
  pub out : Sink

-- the moment at which they are these
abbrev pub opener_moment : {O : Type 0} → O → Sink → OpenerMoment O
opener_moment opener out = record { opener = opener; out = out }

-- a moment of a run: what opens its image, where it prints to, which is an output or the writer below it, and its
-- standard error
pub record RunMoment (O W E : Type 0) : Type 0 where
  pub opener : O
  pub out : W
  pub errors : E

-- the moment at which they are these
abbrev pub run_moment : {O W E : Type 0} → O → W → E → RunMoment O W E
run_moment opener out errors = record { opener = opener; out = out; errors = errors }

-- an image was opened under a name, and what is asked for was carried out on it, as `carries_out` says
pub record IsCarriedOut {O : Type 0} (images : Images O) (name : List ℕ)
    (carries_out : Moment → Moment → ℕ → Type 0) (old new : OpenerMoment O) (status : ℕ) : Type 0 where
  pub image : images.Image
  pub image' : images.Image
  pub opened : images.opens old.opener name image new.opener
  pub carried_out : carries_out (record { image = images.device image; reads = images.reads image; out = old.out })
      (record { image = images.device image'; reads = images.reads image'; out = new.out }) status

-- no image could be opened under a name, and that was printed
pub record IsOpenFailure {O : Type 0} (images : Images O) (name : List ℕ) (old new : OpenerMoment O) (status : ℕ) :
    Type 0 where
  pub refused : images.refuses old.opener name new.opener
  pub printed : IsPrintedOrBrokeOff old.out new.out (unopened_text name)
  pub status_is : status ≡ 8

-- what is asked for was carried out on the image of a name, or the image couldn't be opened
abbrev pub OpensAndCarriesOut : {O : Type 0} → Images O → (name : List ℕ) → (Moment → Moment → ℕ → Type 0) →
    (old new : OpenerMoment O) → ℕ → Type 0
OpensAndCarriesOut images name carries_out old new status =
    IsCarriedOut images name carries_out old new status ⊎ IsOpenFailure images name old new status

-- the words ask for something of the image of a name, and the program carried that out, or the image couldn't
-- be opened. Nothing is opened beside it
pub record RunsAsAsked {R O E : Type 0} (program : Meaning R) (images : Images O) (words : List (List ℕ))
    (old new : RunMoment O Sink E) (status : ℕ) : Type 0 where
  pub name : List ℕ
  pub request : R
  pub asked : program.asks words name request
  pub carried_out : OpensAndCarriesOut images name (program.carries_out name request)
      (opener_moment old.opener old.out) (opener_moment new.opener new.out) status
  pub unwritten : new.errors ≡ old.errors

-- the words are wrong, or ask for the help or the version, and the text for that was written, or a prefix of
-- it where a write failed. Nothing is printed to the output, and no image is opened
pub record IsRefused {R O E : Type 0} (program : Meaning R) (outlet : outlet_trait.Ghosts E) (words : List (List ℕ))
    (old new : RunMoment O Sink E) (status : ℕ) : Type 0 where
  pub text : List ℕ
  pub refused : program.refuses words text
  pub written : IsWritten outlet.contents outlet.was_written old.errors new.errors text
  pub unprinted : new.out ≡ old.out
  pub unopened : new.opener ≡ old.opener
  pub status_is : status ≡ 2

-- memory was refused while the words were read. No image is opened
pub record HadNoMemory {R O E : Type 0} (program : Meaning R) (words : List (List ℕ)) (old new : RunMoment O Sink E)
    (status : ℕ) : Type 0 where
  pub lacked : program.lacks_memory words
  pub printed : IsPrintedOrBrokeOff old.out new.out (text_of cannot_alloc)
  pub unopened : new.opener ≡ old.opener
  pub unwritten : new.errors ≡ old.errors
  pub status_is : status ≡ 8

-- how a run of a program ends: as asked, or without memory, and then nothing goes to standard error; or
-- refused, and the text for that goes there
abbrev pub RunsProgram : {R O E : Type 0} → Meaning R → Images O → outlet_trait.Ghosts E → List (List ℕ) →
    (old new : RunMoment O Sink E) → ℕ → Type 0
RunsProgram program images errors_outlet words old new status =
    RunsAsAsked program images words old new status
    ⊎ (HadNoMemory program words old new status ⊎ IsRefused program errors_outlet words old new status)

-- the words weren't refused, and the writer was flushed after the run: the status stays where the
-- flush succeeded, and is 8 where it failed
pub record IsFlushed {S : Type 0} (was_flushed : S → Result (Unit {0}) Error → S → Type 0)
    (contents : S → Option (List ℕ)) (old new : S) (ran_status status : ℕ) : Type 0 where
  pub unrefused : ran_status ≡ 2 → ⊥
  pub answer : Result (Unit {0}) Error
  pub flushed : was_flushed old answer new
  pub kept : Keeps (contents old) (contents new)
  pub status_is : MatchResult answer (λ _. status ≡ ran_status) (λ _. status ≡ 8)

-- nothing was printed, and nothing is flushed
pub record IsUnprinted {S : Type 0} (old new : S) (ran_status status : ℕ) : Type 0 where
  pub refused : ran_status ≡ 2
  pub untouched : new ≡ old
  pub status_is : status ≡ 2

-- what follows a run with a status: a flush of its writer, unless the words were refused
abbrev pub FlushedAfter : {S : Type 0} → (S → Result (Unit {0}) Error → S → Type 0) → (S → Option (List ℕ)) →
    (old new : S) → (ran_status status : ℕ) → Type 0
FlushedAfter was_flushed contents old new ran_status status =
    IsUnprinted old new ran_status status ⊎ IsFlushed was_flushed contents old new ran_status status

-- what a run is given: how images are opened, and what contracts see of its writer and of its standard error
pub record Surroundings (O S E : Type 0) : Type 1 where
  pub images : Images O
  pub outlet : outlet_trait.Ghosts S
  pub errors : outlet_trait.Ghosts E

abbrev pub surroundings : {O S E : Type 0} → Images O → outlet_trait.Ghosts S → outlet_trait.Ghosts E →
    Surroundings O S E
surroundings images outlet errors = record { images = images; outlet = outlet; errors = errors }

-- how a run of a program ends whose writer is flushed after it: `out` and `out'` are the writer as an output, before
-- the run and after it, and `between` is the writer before the flush. The output failed only where a write did
pub record RunsProgramFlushed {R O S E : Type 0} (program : Meaning R) (given : Surroundings O S E)
    (words : List (List ℕ)) (old new : RunMoment O S E) (status : ℕ) : Type 0 where
  pub out : Sink
  pub out' : Sink
  pub between : S
  pub before : out.taken ≡ given.outlet.contents old.out
  pub unfailed : out.failures ≡ 0
  pub after : out'.taken ≡ given.outlet.contents between
  pub caused : ∥ IsCaused given.outlet.was_written out'.failures ∥₁
  pub ran_status : ℕ
  pub ran : RunsProgram program given.images given.errors words (run_moment old.opener out old.errors)
      (run_moment new.opener out' new.errors) ran_status
  pub flushed : FlushedAfter given.outlet.was_flushed given.outlet.contents between new.out ran_status status
