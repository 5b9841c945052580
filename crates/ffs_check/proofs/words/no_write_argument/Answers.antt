use Rattle.std.proofs.Common.{◌≡◌, ◌∙◌, ◌∷◌, [], ◌++◌, ap, arith, codes, Some}
use Rattle.clap.specs.{declared.builder.ArgAction.TheVariants.Count, Words.{Rule, new_rule, rule_of}}
use Rattle.ffs_check.proofs.MatchLaws.{lettered}
use Rattle.ffs_check.proofs.words.no_write_argument.Goals as goal

pub returns : goal.returns
returns c =
    let short_is : rule_of c.short.result ≡ record (new_rule (codes "no")) { short = Some 110 } =
    rw (c.short.ensures) (ap (λ (r : Rule). record r { short = Some 110 }) c.new.ensures.rule) in
    let letter_is = lettered c.short.result c.in_ok-visible_short_alias.field-0 78 c.in_ok-visible_short_alias.ensures
    ∙ ap (λ (r : Rule). record r { short_aliases = r.short_aliases ++ 78 ∷ [] }) short_is in
    record {
      rule = rw (c.action.ensures) (ap (λ (r : Rule). record r { action = Some Count }) letter_is);
      local = grind arith;
    }
