use Rattle.ffs_claims.proofs.WordClaims.{address_once, sees_still, words_then}
use Rattle.ffs_claims.proofs.silent_addresses.claim_counted_direct.Goals as goal

pub claim_address-requires-clause-can : goal.claim_address-requires-clause-can
claim_address-requires-clause-can c = record {
  layout = c.args.walk.now.geometry.layout;
  next = sees_still c.args.walk.now.geometry.sound c.requires.can c.loop-walk.invariant.words;
}

pub loop-walk-preserved : goal.loop-walk-preserved
loop-walk-preserved c =
    let words = c.loop-walk.invariant.words in
    let v = c.args.walk.now.geometry.layout in
    let sound = c.args.walk.now.geometry.sound in
    let next = c.next_direct-address.ensures in
    let passes = c.pass_direct.ensures in
    let sees = sees_still sound c.requires.can words in
    let did = c.claim_address.ensures.claimed c.if-not-claim_address.false v sees in
    record {
      words = words_then words (address_once c.loop-walk.walk.next next.within.0
          (rw words.same.geometry at next.within.1) sound.sizes.frag_high words.only.made
          (λ contents holds bytes e. rw (next.address_is, next.length) (passes.steps bytes)) did
          passes.falls passes.same passes.counted);
      top = passes.top;
    }
