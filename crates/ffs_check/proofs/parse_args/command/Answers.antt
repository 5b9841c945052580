use Rattle.std.proofs.Common.{◌∙◌, ap₂}
use Rattle.clap.specs.Words.{with_rule}
use Rattle.ffs_check.proofs.parse_args.command.Goals as goal

pub returns : goal.returns
returns c = c.in_ok-arg-3.ensures.shape c.needed_argument.ensures.local
    ∙ ap₂ with_rule (c.in_ok-arg-2.ensures.shape c.sector_argument.ensures.local
    ∙ ap₂ with_rule (c.in_ok-arg.ensures.shape c.in_ok-read_only.ensures.local
    ∙ ap₂ with_rule c.wordless_command.ensures c.in_ok-read_only.ensures.rule) c.sector_argument.ensures.rule)
    c.needed_argument.ensures.rule
