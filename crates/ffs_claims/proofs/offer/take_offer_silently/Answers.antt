use Rattle.std.proofs.{Common.{◌≡◌, nat_lt, true, arith, refl, sym, ◌∙◌}, lemmas.Bool.Decides.nat_tests}
use Rattle.ffs_maps.specs.Bits.{bits_of}
use Rattle.ffs_claims.specs.Leaves.{StaySet}
use Rattle.ffs_claims.proofs.{Frames.{offers_claimed, stay_claimed, stay_one}, UnclaimedRuns.{was_set, is_set_now}}
use Rattle.ffs_claims.proofs.offer.take_offer_silently.Goals as goal

-- the fragment is claimed
pub returns-then-claim : goal.returns-then-claim
returns-then-claim c =
    let few : nat_lt c.args.workspace.now.dup_offers 11 ≡ true = grind (arith, nat_tests) in
    let ok = sym c.fragment_in_range.ensures ∙ c.if-not-fragment_in_range.false in
    let unset = rw c.if-claim.true at (was_set c.claim.ensures) in
    record {
      taken = record {
        claims = rw (few, ok, unset, is_set_now c.claim.ensures) refl;
        only = offers_claimed c.requires.made c.claim.ensures.size (stay_claimed c.claim.ensures);
      };
      dup = rw (few, ok, unset) refl;
    }

-- it was claimed before
pub returns : goal.returns
returns c =
    let few : nat_lt c.args.workspace.now.dup_offers 11 ≡ true = grind (arith, nat_tests) in
    let ok = sym c.fragment_in_range.ensures ∙ c.if-not-fragment_in_range.false in
    let set = rw c.if-claim.false at (was_set c.claim.ensures) in
    let kept = c.set.ensures.size ∙ c.requires.made.duplicates in
    let used = stay_claimed c.claim.ensures in
    let duplicates : StaySet (bits_of c.args.workspace.now.duplicates) (bits_of c.set.new.self) =
    rw c.set.ensures.bits (stay_one _ _) in
    record {
      taken = record {
        claims = rw (few, ok, set, c.claim.ensures.unchanged c.if-claim.false, c.set.ensures.bits) refl;
        only = grind arith;
      };
      dup = rw (few, ok, set) refl;
    }
