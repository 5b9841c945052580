use Rattle.std.proofs.Common.{arith, ap, sym}
use Rattle.ffs_claims.proofs.WordClaims.{sees_for, sees_still, words_for, words_then}
use Rattle.ffs_claims.proofs.silent_addresses.claim_words_in.Goals as goal

-- where the next word isn't claimed, nothing has changed
pub returns-then-not-claim_next : goal.returns-then-not-claim_next
returns-then-not-claim_next c = grind arith

pub claim_next-requires-clause-can : goal.claim_next-requires-clause-can
claim_next-requires-clause-can c =
    let words = c.loop-order.invariant.words in
    record {
      next = sees_for (sym (ap (λ k. k.layout) words.same.geometry))
          (sees_still c.args.walk.now.geometry.sound c.requires.can words);
      held = c.loop-order.invariant.held;
      left = c.has_word.ensures.0 c.loop-order-test.true;
    }

pub loop-order-preserved : goal.loop-order-preserved
loop-order-preserved c =
    let did = c.claim_next.ensures.claimed c.if-not-claim_next.false in
    record {
      words = words_then c.loop-order.invariant.words (words_for
          (ap (λ k. k.layout) c.loop-order.invariant.words.same.geometry) did.words);
      held = did.held;
    }

pub loop-order-smaller : goal.loop-order-smaller
loop-order-smaller c = (c.claim_next.ensures.claimed c.if-not-claim_next.false).falls
