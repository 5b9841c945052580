use Rattle.std.proofs.Common.{◌∙◌, ◌/◌, sym, length, arith}
use Rattle.ffs_layout.{proofs.ListParts.{nul_or_slash_from, nul_or_slash_part}}
use Rattle.ffs_layout.proofs.entries.has_nul_or_slash_in_many.Goals as goal

pub loop-part-preserved : goal.loop-part-preserved
loop-part-preserved c =
    c.loop-part.invariant
    ∙ nul_or_slash_part 8 (length c.args.bytes.now / 8) c.args.bytes.now c.as_chunks.result.0.now
    c.loop-part.part-index _ _
    c.as_chunks.ensures.front (omega (arith, c.loop-part-test.true, c.as_chunks.ensures.front_len))
    (sym c.has_nul_or_slash_in_part.ensures ∙ c.if-has_nul_or_slash_in_part.false)

pub returns-then-has_nul_or_slash_in_part : goal.returns-then-has_nul_or_slash_in_part
returns-then-has_nul_or_slash_in_part c =
    sym (c.loop-part.invariant
    ∙ nul_or_slash_part 8 (length c.args.bytes.now / 8) c.args.bytes.now c.as_chunks.result.0.now
    c.loop-part.part-index _ _
    c.as_chunks.ensures.front (omega (arith, c.loop-part-test.true, c.as_chunks.ensures.front_len))
    (sym c.has_nul_or_slash_in_part.ensures ∙ c.if-has_nul_or_slash_in_part.true))

pub returns : goal.returns
returns c = grind (arith, nul_or_slash_from)
