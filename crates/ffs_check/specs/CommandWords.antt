-- What the words after a program's name say, as `clap` reads them, and what those of `fsck_ffs` ask for:
-- `-n [-b sector] image`.
use Rattle.std.specs.Prelude.{◌≡◌, ◌<◌, ◌^◌, ℕ, pos, true, false, List, [], ◌∷◌, Option, Some, None, codes, unwrap_or}
use Rattle.std.specs.{Prelude.⊤, Str.Parse.{IsNumeral, digits_value, without_leading_plus}}
use Rattle.clap.specs.Words.{App, HasKind, Kinds, Rule, Text, fault_of, first_of, found_of, kind_of, matches_of}
use Rattle.clap.specs.Words.{new_app, new_rule, one_of, rows_of, rule_of, with_rule}
use Rattle.clap.specs.declared.{builder.value_parser.ValueParser.TheVariants.Signed, error.Error.Error}
use Rattle.clap.specs.declared.{error.kind.ErrorKind.TheVariants.OutOfMemory, parser.matches.ArgMatches.ArgMatches}
use Rattle.clap.specs.declared.builder.{arg.Arg.Arg, ArgAction.TheVariants.{Set, Count}}

-- `-n` or `-N` (the letters 110 and 78), each as often as one likes
abbrev pub no_write_rule : Rule
no_write_rule = record (new_rule (codes "no")) {
  short = Some 110;
  short_aliases = 78 ∷ [];
  action = Some Count;
}

-- the same, and one of them has to be there
abbrev pub read_only_rule : Rule
read_only_rule = record no_write_rule { required = true }

-- `-b sector` (the letter 98), once: a sector of 512 bytes, from 1 on and below `SECTOR_END`
abbrev pub sector_rule : Rule
sector_rule = record (new_rule (codes "sector")) {
  short = Some 98;
  value_names = 1;
  action = Some Set;
  parser = Some (Signed (pos 1) (pos 4194303));
}

-- a word that has to be there
abbrev pub needed_rule : Text → Rule
needed_rule name = record (new_rule name) { action = Some Set; required = true }

-- an argument that follows a rule, for the program's own words alone
pub record IsArgument (a : Arg) (wanted : Rule) : Type 0 where
  pub rule : rule_of a ≡ wanted
  pub local : a.global ≡ false

-- a program of a name with no words yet, which has a version and is not named by the first word
abbrev pub wordless : Text → App
wordless name = let a = new_app name in record a { top = record a.top { no_binary_name = true; has_version = true } }

-- the words of `fsck_ffs`
abbrev pub fsck_program : App
fsck_program = with_rule (with_rule (with_rule (wordless (codes "fsck_ffs")) read_only_rule) sector_rule)
    (needed_rule (codes "image"))

-- why `clap` refuses a program's words: nothing where it takes them
abbrev pub refusals : App → List Text → Kinds
refusals app words = fault_of app words

-- memory was refused while `clap` read a program's words. No definition can say when, so the body is ⊤,
-- and `unfoldable` hides it: only `matches_of` of a program, which calls `clap`, unfolds it, so no other
-- function can claim it
unfoldable pub LacksMemory : App → List Text → Type 0
LacksMemory app words = ⊤

-- a program's words are refused by an error: it has a kind that the words ask for, as they are wrong, or
-- ask for the help or the version, or memory was refused
pub record AreRefusedBy (app : App) (words : List Text) (error : Error) : Type 0 where
  pub cause : HasKind (refusals app words) error
  pub memory : kind_of error ≡ OutOfMemory → LacksMemory app words

-- a program's words are taken, and these are their matches
pub record HasMatches (app : App) (words : List Text) (matches : ArgMatches) : Type 0 where
  pub taken : refusals app words ≡ []
  pub rows : rows_of (found_of matches) ≡ matches_of app words

-- the word of a name, and an empty one where it isn't there
abbrev pub named_word : App → (id : Text) → List Text → Text
named_word app id words = unwrap_or (first_of id (matches_of app words)) []

-- the sector is the number that a text writes, and none where there is no text
abbrev pub IsSector : Option Text → Option ℕ → Type 0
IsSector None sector = sector ≡ None
IsSector (Some text) sector =
    let digits = without_leading_plus text in
    IsNumeral 10 digits → digits_value 10 digits < 2 ^ 32 → sector ≡ Some (digits_value 10 digits)

-- the words name this sector, or none
abbrev pub NameSector : App → List Text → Option ℕ → Type 0
NameSector app words = IsSector (one_of (codes "sector") (matches_of app words))

-- what the words of `fsck_ffs` ask for: this image, and this sector of its superblock
pub record AskFor (words : List Text) (name : Text) (sector : Option ℕ) : Type 0 where
  pub taken : refusals fsck_program words ≡ []
  pub image : name ≡ named_word fsck_program (codes "image") words
  pub place : NameSector fsck_program words sector
