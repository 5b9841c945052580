use Rattle.std.proofs.{Common.{arith, refl, rules}, lemmas.Grind.common_steps}
use Rattle.ffs_workspace.{proofs.TablePlaces.held_there, specs.Tables.{FailsInPiece, TakesPiece}}
use Rattle.ffs_workspace.proofs.table.Table.load.Goals.{then-not-has+in_ok-read_piece, else-not-has}
use Rattle.ffs_workspace.proofs.table.Table.load.Goals as goal

pub returns-clause-loads : goal.returns-clause-loads
unfolding TakesPiece FailsInPiece
returns-clause-loads g c =
    let v = c.args.geometry.now.layout in
    let ready = c.requires.ready in
    record {
      there = elim c.if-not-has.branch [
        | then-not-has+in_ok-read_piece w ↦
            held_there v (g.I.Image.device c.args.image.now).contents c.args.number c.if-not-has.self
            (rw w.self-is w.in_ok-read_piece.ensures.reads.leaves.kept.made)
            (search rules) (rw w.self-is w.in_ok-read_piece.ensures.reads.has)
        | else-not-has w ↦
            held_there v (g.I.Image.device c.args.image.now).contents c.args.number c.if-not-has.self
            (rw w.self-is ready.made) (rw w.self-is ready.holds) (rw w.self-is (c.has.ensures.0 (search rules)))
      ];
      leaves = grind (arith, common_steps);
      counted = grind (arith, common_steps);
      again = grind (arith, common_steps);
      block = grind (arith, common_steps);
      fault = (λ held. refl, tt);
      begins = tt;
    }
