-- What the matches of the words say of the image and of the sector.
use Rattle.std.proofs.Common.{arith, ◌≡◌, ◌∙◌, ◌++◌, ◌∷◌, [], ℕ, List, Option, Some, None, Ok, Err, Result, refl, ap}
use Rattle.std.proofs.{Common.{true, subst, sym, IfOk, MatchResult, option_map}, lemmas.List.map-append}
use Rattle.std.specs.{Prelude.unwrap_or, Borrow.Bor, Str.Parse.ParsesUnsigned}
use Rattle.clap.specs.Words.{AddsShortAliases, App, FailsBy, HasKind, HasMatchesOf, ReadsOne, Text, fault_of, is_simple}
use Rattle.clap.specs.{Words.{is_simple_and_free, matches_of, rule_of}, declared.error.Error.Error}
use Rattle.clap.specs.declared.{parser.matches.ArgMatches.ArgMatches, builder.arg.Arg.Arg}
use Rattle.clap.{specs.declared.builder.value_parser.ValueParser.ValueParser, proofs.OnLiterals.clap_on_literals}
use Rattle.ffs_check.specs.CommandWords.{AreRefusedBy, HasMatches, IsSector, LacksMemory, fsck_program}

pub simple : is_simple fsck_program ≡ true
unfolding clap_on_literals
simple = refl

pub free : is_simple_and_free fsck_program ≡ true
unfolding clap_on_literals
free = refl

-- what `clap` answers of a program whose words are simple ones
pub answered : (a app : App) (words : List Text) (r : Result ArgMatches Error) → a ≡ app → is_simple app ≡ true →
    is_simple_and_free app ≡ true → (is_simple_and_free a ≡ true → FailsBy (fault_of a words) r) →
    IfOk r (HasMatchesOf a words) → MatchResult r (HasMatches app words) (AreRefusedBy app words)
unfolding LacksMemory
answered a app words (Ok m) is plain unbound kinds matches = record {
  taken = ap (λ (x : App). fault_of x words) (sym is) ∙ kinds (ap is_simple_and_free is ∙ unbound);
  rows = (matches (ap is_simple is ∙ plain)).0 ∙ ap (λ (x : App). matches_of x words) is;
}
answered a app words (Err e) is plain unbound kinds matches = record {
  cause = subst (λ (x : App). HasKind (fault_of x words) e) is (kinds (ap is_simple_and_free is ∙ unbound));
  memory = λ asked. tt;
}

-- the text of a word that is there, and of an empty one where none is
pub text_or : (found : Option (Bor (List ℕ))) (other word : Bor (List ℕ)) → word ≡ unwrap_or found other →
    other.now ≡ []
    → word.now ≡ unwrap_or (option_map (λ s. s.now) found) []
text_or None other word is empty = ap (λ s. s.now) is ∙ empty
text_or (Some x) other word is empty = ap (λ s. s.now) is

-- a text that is read as a number of 32 bits
pub sector_read : {E : Type 0} (gives : List ℕ → Result ℕ E → Type 0) →
    ((t : List ℕ) (r : Result ℕ E) → gives t r → ParsesUnsigned 32 10 t r)
    → (text : Option (List ℕ)) (sector : Option ℕ) → (text ≡ None → sector ≡ None) →
    ((t : List ℕ) → text ≡ Some t → ReadsOne gives t sector)
    → IsSector text sector
sector_read gives parses None sector none some = none refl
sector_read gives parses (Some t) (Some n) none some = λ numeral small. ap Some (parses t (Ok n) (some t refl)).1
sector_read gives parses (Some t) None none some = grind arith

-- an argument with one more letter
pub lettered : (a b : Arg) (letter : ℕ) → AddsShortAliases a b ((letter, true) ∷ [])
    → rule_of b ≡ record (rule_of a) { short_aliases = (rule_of a).short_aliases ++ letter ∷ [] }
lettered a b letter adds = grind (arith, map-append)

-- an argument with a parser
pub parsed : (a b : Arg) (q : ValueParser) → b ≡ record a { value_parser = b.value_parser } → b.value_parser ≡ Some q
    → rule_of b ≡ record (rule_of a) { parser = Some q }
parsed a b q others is = ap rule_of others ∙ ap (λ p. record (rule_of a) { parser = p }) is
