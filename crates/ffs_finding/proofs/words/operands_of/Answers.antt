use Rattle.std.proofs.Common.{arith, ◌≡◌, ◌∙◌, ap, refl, List, [], ℕ, Option, option_map, map, codes}
use Rattle.std.specs.{Prelude.unwrap_or, Borrow.Bor, Str.Parse.{ParsesUnsigned, ExplainsUnsignedError}}
use Rattle.std.specs.Str.Parse.{HasUnsignedDigitsIfOk}
use Rattle.clap.specs.Words.{Row, Text, first_of, first_value, found_of, matches_of, one_of, one_text, rows_of}
use Rattle.clap.{specs.declared.parser.matches.ArgMatches.ArgMatches, proofs.WalkLemmas.first_value-rows}
use Rattle.clap.proofs.WalkLemmas.{one_text-rows}
use Rattle.ffs_check.proofs.MatchLaws.{sector_read}
use Rattle.ffs_finding.specs.CommandWords.{find_program}
use Rattle.ffs_finding.proofs.words.operands_of.Goals as goal

-- a word of the matches, by their rows
word_is : (m : ArgMatches) (rows : List Row) (id : Text) (found : Option (Bor (List ℕ))) (other word : Bor (List ℕ)) →
    rows_of (found_of m) ≡ rows → option_map (λ s. s.now) found ≡ first_value (found_of m) id →
    word ≡ unwrap_or found other → other.now ≡ [] → word.now ≡ unwrap_or (first_of id rows) []
word_is m rows id found other word same got is empty = grind (arith, first_value-rows)

pub returns : goal.returns
returns c =
    let m = c.in_ok-matches.matches in
    let same = c.in_ok-matches.ensures.rows in
    let e : one_text (found_of m) (codes "sector") ≡ one_of (codes "sector")
    (matches_of find_program (map (λ word. word.now) c.args.words.now)) =
    one_text-rows (found_of m) (codes "sector") ∙ ap (one_of (codes "sector")) same in
    record {
      taken = c.in_ok-matches.ensures.taken;
      command = word_is m _ (codes "command") _ _ _ same c.get_str.ensures c.unwrap_or.ensures refl;
      first = word_is m _ (codes "first") _ _ _ same c.get_str-2.ensures c.unwrap_or-2.ensures refl;
      second = c.get_str-3.ensures ∙ first_value-rows (found_of m) (codes "second")
          ∙ ap (first_of (codes "second")) same;
      sector = sector_read (λ t r. ParsesUnsigned 32 10 t r × ExplainsUnsignedError 10 t r × HasUnsignedDigitsIfOk t r)
          (λ t r given. given.0) _ _ (λ none. c.get_one.ensures.none (e ∙ none))
          (λ t some. c.get_one.ensures.value t (e ∙ some));
    }
