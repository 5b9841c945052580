use Rattle.std.proofs.Common.{arith, ◌∙◌, sym}
use Rattle.ffs_walk.proofs.WordBytes.{more_zeros}
use Rattle.ffs_walk.proofs.words.zeros_end.Goals as goal

pub loop-index-init : goal.loop-index-init
loop-index-init c =
    more_zeros _ _ _ _ _ _ c.requires.fits (sym c.are_zeros.ensures ∙ c.if-are_zeros.true)
    (record { low = omega arith; high = c.requires.order; zeros = λ k low high. absurd (omega arith) })

pub loop-index-preserved : goal.loop-index-preserved
loop-index-preserved c =
    more_zeros _ _ _ _ _ _ c.requires.fits (sym c.are_zeros-in-loop-index.ensures ∙ c.loop-index-test.true)
    c.loop-index.invariant

pub loop-index-then-are_zeros-preserved : goal.loop-index-then-are_zeros-preserved
loop-index-then-are_zeros-preserved c =
    more_zeros _ _ _ _ _ _ c.requires.fits
    (sym c.are_zeros-in-loop-index-then-are_zeros.ensures ∙ c.loop-index-then-are_zeros-test.true)
    c.loop-index-then-are_zeros.invariant
