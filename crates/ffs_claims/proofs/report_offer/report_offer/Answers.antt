use Rattle.std.proofs.{Common.{false, arith, rules, ◌∙◌, refl, sym}, Math.{Bool.or-false, ListN.get_or-eq_default}}
use Rattle.std.proofs.lemmas.Grind.{common_steps}
use Rattle.ffs_report.proofs.Reports.{said_none}
use Rattle.ffs_maps.{proofs.Bits.bits_long, specs.Bits.bits_of}
use Rattle.ffs_claims.proofs.Frames.{offers_reported_none}
use Rattle.ffs_claims.proofs.report_offer.report_offer.Goals as goal

pub returns-then-fragment-from : goal.returns-then-fragment-from
returns-then-fragment-from g c =
    let size = bits_long c.args.workspace.now.duplicates ∙ c.requires.made.duplicates in
    let out = get_or-eq_default (bits_of c.args.workspace.now.duplicates) false {n = c.args.fragment}
    (omega (arith, size)) in
    record {
      said = rw out (said_none _);
      reported = record {
        reported = record { duplicates = sym (rw out refl); marked = λ x. rw out (sym (or-false _)) };
        only = offers_reported_none c.requires.made;
      };
      unreported = tt;
    }

pub returns-clause-reported : goal.returns-clause-reported
returns-clause-reported g c = record { reported = grind (arith, common_steps); only = search rules }
