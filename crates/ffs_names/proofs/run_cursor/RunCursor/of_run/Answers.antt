use Rattle.std.proofs.{Common.{mul-le-mul_right, ◌∙◌, arith, sym}, Math.Nat.mul-mod_left}
use Rattle.ffs_names.{specs.RunCursors.reading_by, proofs.RunChunks.{none_far, run_in_volume}}
use Rattle.ffs_names.proofs.run_cursor.RunCursor.of_run.Goals as goal

-- a Run that begins after what is read has no chunks
pub returns-then-block : goal.returns-then-block
returns-then-block c =
    let v = c.args.geometry.now.layout in
    let none = c.empty.ensures in
    record {
      chunks = λ b. none.none v b ∙ sym
          (none_far v (reading_by v b c.args.bytes_to_read) c.args.start c.args.len c.args.block c.args.geometry.now.sound
          (omega (arith, c.if-block.true)) (omega (arith, c.requires.few)));
      first = none.first;
      fits = none.fits v;
    }

pub returns-then-offset-bytes_to_read : goal.returns-then-offset-bytes_to_read
returns-then-offset-bytes_to_read c = grind arith

pub returns : goal.returns
returns c = grind (arith, run_in_volume, mul-mod_left, mul-le-mul_right)
