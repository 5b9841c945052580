use Rattle.std.proofs.{Common.{arith, refl, rules, ◌∙◌}, lemmas.Grind.common_steps}
use Rattle.ffs_workspace.proofs.TablePlaces.{inodes_there}
use Rattle.ffs_workspace.proofs.table.Table.read_piece.Goals as goal

pub returns-clause-reads : goal.returns-clause-reads
returns-clause-reads g c = record {
  has = grind (arith, common_steps);
  piece = record {
    first = refl;
    count = refl;
    place = c.in_ok-fill.ensures.fills.place.0 ∙ c.piece_place-place.ensures;
    length = c.in_ok-fill.ensures.fills.place.1;
  };
  leaves = record {
    kept = record {
      made = record {
        room = search rules;
        inodes = inodes_there c.args.geometry.now.layout c.args.count c.args.number _ c.args.geometry.now.sound
            c.requires.piece.count refl refl (c.in_ok-fill.ensures.fills.place.0 ∙ c.piece_place-place.ensures)
            c.in_ok-fill.ensures.fills.place.1;
      };
      holds = c.fill.ensures.fills.holds;
    };
    read = search rules;
  };
  counted = c.fill.ensures.fills.counted;
  sector = tt;
  begins = tt;
}
