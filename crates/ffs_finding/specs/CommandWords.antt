-- What the words of `ffs_find` ask for, as `clap` reads them: `[-n] [-b sector] COMMAND [NUMBER] image`.
use Rattle.std.specs.{Prelude.{◌≡◌, ◌<◌, ◌^◌, ℕ, List, [], Option, Some, None, codes}, Str.Parse.IsNumeral}
use Rattle.std.specs.Str.Parse.{digits_value, without_leading_plus}
use Rattle.clap.specs.Words.{App, Rule, Text, first_of, matches_of, new_rule, with_rule}
use Rattle.clap.specs.declared.builder.ArgAction.TheVariants.{Set}
use Rattle.ffs_check.specs.CommandWords.{NameSector, needed_rule, no_write_rule, refusals, sector_rule, named_word}
use Rattle.ffs_check.specs.CommandWords.{wordless}
use Rattle.ffs_finding.specs.declared.request.{Target.TheVariants.{Inode, Fields, Lost, Owner}, Command.Command}
use Rattle.ffs_finding.specs.declared.request.Command.TheVariants.{Copies, InVolume}

-- one more word, which may be there
abbrev pub second_rule : Rule
second_rule = record (new_rule (codes "second")) { action = Some Set }

-- the words of `ffs_find`
abbrev pub find_program : App
find_program = with_rule (with_rule (with_rule (with_rule (with_rule (wordless (codes "ffs_find")) no_write_rule)
    sector_rule) (needed_rule (codes "command"))) (needed_rule (codes "first"))) second_rule

-- what the words that aren't options say: the command, the word after it, which is a number or the image,
-- and one more, the image, if there is one; and the sector
pub record Operands : Type 0 where
  pub command : Text
  pub first : Text
  pub second : Option Text
  pub sector : Option ℕ

-- the words have these operands
pub record HaveOperands (words : List Text) (o : Operands) : Type 0 where
  pub taken : refusals find_program words ≡ []
  pub command : o.command ≡ named_word find_program (codes "command") words
  pub first : o.first ≡ named_word find_program (codes "first") words
  pub second : o.second ≡ first_of (codes "second") (matches_of find_program words)
  pub sector : NameSector find_program words o.sector

-- a text writes a number of 32 bits
pub record IsNumber (text : Text) (n : ℕ) : Type 0 where
  pub numeral : IsNumeral 10 (without_leading_plus text)
  pub value : digits_value 10 (without_leading_plus text) ≡ n
  pub small : n < 2 ^ 32

-- a command without a number
pub record IsUnnumbered (word : Text) (o : Operands) (name : Text) : Type 0 where
  pub word_is : o.command ≡ word
  pub image : o.first ≡ name
  pub alone : o.second ≡ None

-- a command with a number
pub record IsNumbered (word : Text) (o : Operands) (n : ℕ) (name : Text) : Type 0 where
  pub word_is : o.command ≡ word
  pub number : IsNumber o.first n
  pub image : o.second ≡ Some name

-- the operands ask for this command, of the image of this name
abbrev pub OperandsAskFor : Operands → Command → (name : Text) → Type 0
OperandsAskFor o Copies name = IsUnnumbered (codes "copies") o name × (o.sector ≡ None)
OperandsAskFor o (InVolume (Inode number) sector) name =
    IsNumbered (codes "inode") o number name × (sector ≡ o.sector)
OperandsAskFor o (InVolume Fields sector) name = IsUnnumbered (codes "fields") o name × (sector ≡ o.sector)
OperandsAskFor o (InVolume Lost sector) name = IsUnnumbered (codes "lost") o name × (sector ≡ o.sector)
OperandsAskFor o (InVolume (Owner fragment) sector) name =
    IsNumbered (codes "owner") o fragment name × (sector ≡ o.sector)
