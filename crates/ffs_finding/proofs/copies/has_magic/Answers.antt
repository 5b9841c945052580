use Rattle.std.proofs.Common.{◌∙◌, arith}
use Rattle.ffs_finding.proofs.Magics.{magic_there}
use Rattle.ffs_finding.proofs.copies.has_magic.Goals as goal

pub returns-clause-answer : goal.returns-clause-answer
returns-clause-answer g c =
    let fills = c.in_ok-fill.ensures.fills in
    record {
      answer = λ b k. c.is_magic.ensures
          ∙ magic_there b c.bytes.result.now c.args.sector _ _ _ (c.bytes.ensures ∙ fills.bytes b k) (omega arith)
          (omega arith);
      read = fills.read;
      failed = tt;
      window = record {
        at = record { place = omega (arith, fills.place.0); length = omega (arith, fills.place.1) };
        room = omega (arith, fills.room, c.requires.room);
        holds = fills.holds;
      };
    }

pub returns-clause-reads : goal.returns-clause-reads
returns-clause-reads g c = grind arith
