use Rattle.std.proofs.Common.{◌*◌, ◌/◌, ◌^◌}
use Rattle.ffs_groups.specs.Free.{word_bits, Added}
use Rattle.ffs_groups.proofs.free.FreeSpace.add_word.Given as goal

abbrev pub invariant-loop-block : goal.invariant-loop-block
invariant-loop-block l = Added (λ b. word_bits (l.word / 2 ^ (b * l.frag)) 0 l.frag) 0 l.block l.initial.self l.self
