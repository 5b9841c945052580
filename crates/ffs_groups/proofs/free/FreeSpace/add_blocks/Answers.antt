use Rattle.std.proofs.Common.{arith, refl, ◌∙◌, ◌+◌, ◌*◌}
use Rattle.ffs_maps.specs.Bits.{bits_of}
use Rattle.ffs_groups.specs.Free.{bits_from, free_in}
use Rattle.ffs_groups.proofs.{FreeWords.adds_all, FreeWords.adds_none, FreeWords.added_by, Sums.in_block}
use Rattle.ffs_groups.proofs.free.FreeSpace.add_blocks.Goals as goal

pub returns-in-Some-true : goal.returns-in-Some-true
returns-in-Some-true c =
    let free = free_in (bits_of c.args.used.now) c.args.used.now.size in
    added_by (bits_from free c.args.start c.args.frag) 1 c.args.blocks c.args.self.now _
    (λ b h. adds_all free (c.args.start + b * c.args.frag) c.args.frag
    (λ k l. in_block free c.args.start c.args.frag c.args.blocks b k c.from.result c.from-2.result _
    c.from.ensures c.from-2.ensures
    (λ j m. c.in-Some-true.ensures j m ∙ c.in-Some-true.field-0-test) h l))
    (omega (arith, c.from-in-Some-true.ensures)) refl (λ j. refl)

pub returns-in-Some-false : goal.returns-in-Some-false
returns-in-Some-false c =
    let free = free_in (bits_of c.args.used.now) c.args.used.now.size in
    added_by (bits_from free c.args.start c.args.frag) 0 c.args.blocks c.args.self.now c.args.self.now
    (λ b h. adds_none free (c.args.start + b * c.args.frag) c.args.frag c.requires.some
    (λ k l. in_block free c.args.start c.args.frag c.args.blocks b k c.from.result c.from-2.result _
    c.from.ensures c.from-2.ensures
    (λ j m. c.in-Some-false.ensures j m ∙ c.in-Some-false.field-0-test) h l))
    (omega arith) refl (λ j. refl)
