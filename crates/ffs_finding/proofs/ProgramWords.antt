-- The words of the program are simple ones to `clap`.
use Rattle.std.proofs.Common.{◌≡◌, true, refl}
use Rattle.clap.{specs.Words.{is_simple, is_simple_and_free}, proofs.OnLiterals.clap_on_literals}
use Rattle.ffs_finding.specs.CommandWords.{find_program}

pub simple : is_simple find_program ≡ true
unfolding clap_on_literals
simple = refl

pub free : is_simple_and_free find_program ≡ true
unfolding clap_on_literals
free = refl
