use Rattle.std.proofs.Common.{ap, true}
use Rattle.clap.specs.Words.{App}
use Rattle.ffs_check.proofs.words.wordless_command.Goals as goal

pub returns : goal.returns
returns c = rw (c.version.ensures, c.no_binary_name.ensures)
    (ap (λ (a : App). record a { top = record a.top { no_binary_name = true; has_version = true } })
    c.new.ensures.app)
