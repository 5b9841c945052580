-- What `ffs_find` promises: what its words ask for, by which texts they are refused, and what is found in an
-- image.
use Rattle.std.specs.Prelude.{◌≡◌, ◌⊎◌, ℕ, List}
use Rattle.ffs_memory.specs.{System.account_of, Account.unused, declared.system.SystemMemory.SystemMemory}
use Rattle.ffs_check.specs.{CommandWords.LacksMemory, Moment.Moment, Program.Meaning, Refusals.IsTextFor}
use Rattle.ffs_finding.specs.declared.request.Command.{Command}
use Rattle.ffs_finding.specs.CommandWords.{HaveOperands, Operands, OperandsAskFor, find_program}
use Rattle.ffs_finding.specs.{Headline.FindsCommand, WrongWords.{find_refusal_text, no_command_text}}

-- the words ask for a command, of the image of a name
pub record AskForCommand (words : List (List ℕ)) (name : List ℕ) (command : Command) : Type 0 where
  pub operands : Operands
  pub have : HaveOperands words operands
  pub asked : OperandsAskFor operands command name

-- `clap` takes the words, and they ask for no command
pub record AskForNone (words : List (List ℕ)) : Type 0 where
  pub operands : Operands
  pub have : HaveOperands words operands
  pub none : (command : Command) (name : List ℕ) → OperandsAskFor operands command name → ⊥

-- a text says why the words are refused: `clap` refuses them, or they ask for no command
abbrev pub IsFindText : List (List ℕ) → (text : List ℕ) → Type 0
IsFindText words text =
    IsTextFor find_program find_refusal_text words text ⊎ (AskForNone words × (text ≡ no_command_text))

-- what a command asks for was found in an image, with memory of the system of which nothing was
-- granted before
pub record IsFoundIn (command : Command) (old new : Moment) (status : ℕ) : Type 0 where
  pub memory : SystemMemory
  pub memory' : SystemMemory
  pub begun : account_of memory ≡ unused
  pub found : FindsCommand command old new (account_of memory) (account_of memory') status

-- the program, which finds what a command asks for
abbrev pub ffs_find : Meaning Command
ffs_find = record {
  asks = AskForCommand;
  refuses = IsFindText;
  lacks_memory = LacksMemory find_program;
  carries_out = λ name. IsFoundIn;
}
