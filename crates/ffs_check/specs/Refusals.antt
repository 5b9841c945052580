-- What is written to standard error where a program opens no image, by what `clap` answered of the words.
use Rattle.std.specs.{Prelude.{◌≡◌, ◌⊎◌, ◌∷◌, ◌++◌, ℕ, List, [], Option, Result, codes}, Io.KnownBytes.Appends}
use Rattle.std.specs.declared.io.Error.{Error}
use Rattle.clap.specs.{declared.error.kind.ErrorKind.ErrorKind, Words.{App, IsAmong, Text}}
use Rattle.ffs_report.specs.Outlet.{LastWriteFailed}
use Rattle.ffs_check.specs.{CommandWords.refusals, Program.Meaning, declared.program.NotAsked.NotAsked}
use Rattle.ffs_check.specs.declared.{program.NotAsked.TheVariants.{Refused, NoMemory}, refusal.Refusal.Refusal}
use Rattle.ffs_check.specs.declared.{version.TheConstants.VERSION, wrong_words.TheConstants.{HELP, USAGE}}
use Rattle.clap.specs.declared.error.kind.ErrorKind.TheVariants as kind

-- what the text of status 2 begins with: the help, the name of the program, or what is wrong with the words
abbrev pub first_text : ErrorKind → List ℕ
first_text kind.DisplayHelp = HELP.now
first_text kind.DisplayVersion = codes "fsck_ffs "
first_text kind.MissingRequiredArgument = codes "error: -n and an image are needed"
first_text kind.ValueValidation = codes "error: a sector is 1 to 4194303"
first_text kind.InvalidValue = codes "error: -b needs a sector"
first_text kind.ArgumentConflict = codes "error: -b can be given once"
first_text kind.UnknownArgument =
    codes "error: this program takes -n, -b and one image; it never repairs, so it takes no -y, -p and -f"
first_text _ = codes "error: the arguments are wrong"

-- what follows that: the version, or the usage where something is wrong
abbrev pub second_text : (usage : List ℕ) → ErrorKind → List ℕ
second_text usage kind.DisplayHelp = []
second_text usage kind.DisplayVersion = VERSION.now
second_text usage _ = usage

-- both, with the end of the last line
abbrev pub text_of_both : (first second : List ℕ) → List ℕ
text_of_both first second = (first ++ second) ++ (10 ∷ [])

-- the text of status 2
abbrev pub refusal_text : ErrorKind → List ℕ
refusal_text kind = text_of_both (first_text kind) (second_text USAGE.now kind)

-- the text of a refusal
abbrev pub text_of_refusal : Refusal → List ℕ
text_of_refusal refusal = text_of_both refusal.first.now refusal.second.now

-- why words ask a program for nothing
abbrev pub IsNotAsked : {R : Type 0} → Meaning R → List (List ℕ) → NotAsked → Type 0
IsNotAsked program words (Refused refusal) = program.refuses words (text_of_refusal refusal)
IsNotAsked program words NoMemory = program.lacks_memory words

-- a text is that for a kind of mistake that `clap` states of a program's words
pub record IsTextFor (app : App) (text_for : ErrorKind → List ℕ) (words : List Text) (text : List ℕ) : Type 0 where
  pub kind : ErrorKind
  pub answered : IsAmong kind (refusals app words)
  pub text_is : text ≡ text_for kind

-- a text was written to a writer, or a prefix of it, where a write failed, after which the writer wasn't asked again
pub record IsWritten {E : Type 0} (contents : E → Option (List ℕ))
    (was_written : E → List ℕ → Result ℕ Error → E → Type 0) (old new : E) (text : List ℕ) : Type 0 where
  pub prefix : List ℕ
  pub rest : List ℕ
  pub whole : text ≡ prefix ++ rest
  pub written : Appends (contents old) (contents new) prefix
  pub failed : (rest ≡ []) ⊎ LastWriteFailed was_written new
