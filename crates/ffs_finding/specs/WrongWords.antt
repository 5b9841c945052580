-- What is written to standard error where the words of `ffs_find` don't say what to find, by what `clap` answered
-- of them.
use Rattle.std.specs.Prelude.{ℕ, List, codes}
use Rattle.clap.specs.declared.error.kind.ErrorKind.{ErrorKind}
use Rattle.clap.specs.declared.error.kind.ErrorKind.TheVariants as kind
use Rattle.ffs_check.specs.Refusals.{second_text, text_of_both}
use Rattle.ffs_finding.specs.declared.wrong_words.TheConstants.{HELP, USAGE}

-- what is wrong with words that no command has
abbrev pub no_command : List ℕ
no_command = codes "error: no command has these words"

-- what the text begins with: the help, the name of the program, or what is wrong with the words
abbrev pub find_first_text : ErrorKind → List ℕ
find_first_text kind.DisplayHelp = HELP.now
find_first_text kind.DisplayVersion = codes "ffs_find "
find_first_text kind.MissingRequiredArgument = codes "error: a command and an image are needed"
find_first_text kind.ValueValidation = codes "error: a sector is 1 to 4194303"
find_first_text kind.InvalidValue = codes "error: -b needs a sector"
find_first_text kind.ArgumentConflict = codes "error: -b can be given once"
find_first_text _ = no_command

-- the text of status 2
abbrev pub find_refusal_text : ErrorKind → List ℕ
find_refusal_text kind = text_of_both (find_first_text kind) (second_text USAGE.now kind)

-- the text where no command has the words
abbrev pub no_command_text : List ℕ
no_command_text = text_of_both no_command USAGE.now
