use Rattle.std.proofs.{Common.{◌≡◌, nat_lt, true, arith, refl, sym}, lemmas.Bool.Decides.nat_tests}
use Rattle.ffs_report.proofs.Reports.{said_none}
use Rattle.ffs_workspace.specs.Holds.{claims_of}
use Rattle.ffs_claims.proofs.{Frames.{offers_claimed, stay}, UnclaimedRuns.only_kept}
use Rattle.ffs_claims.proofs.offer.take_bad_run.Goals as goal

pub returns-then-run-geometry : goal.returns-then-run-geometry
returns-then-run-geometry g c =
    let few : nat_lt c.args.workspace.now.dup_offers 11 ≡ true = grind (arith, nat_tests) in
    let kept = only_kept c.args.geometry.now.layout (claims_of c.args.workspace.now) c.args.run.start c.args.run.len few
    (omega arith) in
    let more : c.from.result ≡ c.args.run.len = omega arith in
    record {
      said = rw (kept.silent c.args.number) (said_none _);
      claims = rw more (sym kept.claims);
      only = offers_claimed c.requires.offer.made refl (stay _);
    }
