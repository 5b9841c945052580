use Rattle.std.proofs.Common.{◌∙◌, ap₂}
use Rattle.clap.specs.Words.{with_rule}
use Rattle.ffs_finding.proofs.words.app.Goals as goal

pub returns : goal.returns
returns c = c.in_ok-arg-5.ensures.shape c.second_argument.ensures.local
    ∙ ap₂ with_rule (c.in_ok-arg-4.ensures.shape c.needed_argument-2.ensures.local
    ∙ ap₂ with_rule (c.in_ok-arg-3.ensures.shape c.needed_argument.ensures.local
    ∙ ap₂ with_rule (c.in_ok-arg-2.ensures.shape c.sector_argument.ensures.local
    ∙ ap₂ with_rule (c.in_ok-arg.ensures.shape c.in_ok-no_write.ensures.local
    ∙ ap₂ with_rule c.wordless_command.ensures c.in_ok-no_write.ensures.rule) c.sector_argument.ensures.rule)
    c.needed_argument.ensures.rule) c.needed_argument-2.ensures.rule)
    c.second_argument.ensures.rule
