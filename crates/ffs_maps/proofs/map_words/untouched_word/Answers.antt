use Rattle.std.proofs.Common.{ap, sym, ◌∙◌}
use Rattle.ffs_maps.{specs.Words.reserved_bits, proofs.Words.no_reserved_bits}
use Rattle.ffs_maps.proofs.map_words.untouched_word.Goals as goal

pub returns-in-None : goal.returns-in-None
returns-in-None c = sym (ap (λ r. reserved_bits r c.args.index) c.in-None.is ∙ no_reserved_bits c.args.index)
