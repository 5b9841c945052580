use Rattle.std.proofs.{Common.{◌≡◌, true, nat_lt, arith, refl, sym}, lemmas.Bool.Decides.nat_tests}
use Rattle.ffs_report.proofs.Reports.{said_none}
use Rattle.ffs_workspace.specs.Holds.{claims_of}
use Rattle.ffs_claims.proofs.{Frames.{offers_claimed, stay_claimed}, UnclaimedRuns.{whole_is, run_below}}
use Rattle.ffs_claims.proofs.offer.take_run_in_range.Goals as goal

pub claim-requires : goal.claim-requires
claim-requires g c = grind (arith, run_below)

pub returns-then-claim : goal.returns-then-claim
returns-then-claim g c =
    let few : nat_lt c.args.workspace.now.dup_offers 11 ≡ true = grind (arith, nat_tests) in
    let whole = whole_is c.args.geometry.now.layout (claims_of c.args.workspace.now) c.args.run.start c.args.run.len few
    (c.requires.offer.known refl) (c.claim.ensures.clear c.if-claim.true) in
    let more : c.from.result ≡ c.args.run.len = omega arith in
    record {
      taken = record {
        said = rw (whole.silent c.args.number) (said_none _);
        claims = rw (c.claim.ensures.claimed c.if-claim.true, more) (sym whole.claims);
        only = offers_claimed c.requires.offer.made c.claim.ensures.size (stay_claimed c.claim.ensures);
      };
      seen = sym c.requires.uncut;
    }

-- one that isn't claimed at once: the map is as it was
pub returns-in_err-take_offers-clause-taken : goal.returns-in_err-take_offers-clause-taken
returns-in_err-take_offers-clause-taken g c = grind arith

pub returns-clause-taken : goal.returns-clause-taken
returns-clause-taken g c = grind arith
