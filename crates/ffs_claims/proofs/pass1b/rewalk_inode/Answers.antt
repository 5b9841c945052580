use Rattle.ffs_claims.proofs.{Clearing.{clears_read, clears_none, clears_from}, Reportings.part_none}
use Rattle.ffs_claims.specs.{Lines.of_lines, Rewalking.{indirect_among, noted_runs, offers_of_runs}}
use Rattle.std.proofs.Common.{◌∙◌, ap, arith, refl}
use Rattle.ffs_report.proofs.Reporting.{reads_first, reports_knowing, reports_same}
use Rattle.ffs_workspace.specs.Tables.{TakesPiece}
use Rattle.ffs_maps.specs.Bits.{bits_of}
use Rattle.ffs_volume.{specs.Blocks.BlockCheck.first_offer_lines, proofs.Results.on_any}
use Rattle.ffs_claims.proofs.pass1b.rewalk_inode.Goals as goal

pub rewalk-requires : goal.rewalk-requires
rewalk-requires g c = grind arith

pub returns-in_err-inode-clause-walks : goal.returns-in_err-inode-clause-walks
returns-in_err-inode-clause-walks g c = grind (arith, reads_first, part_none, clears_read, clears_none)

pub returns-in_err-inode-clause-by_block : goal.returns-in_err-inode-clause-by_block
unfolding TakesPiece
returns-in_err-inode-clause-by_block g c = grind arith

pub returns-clause-walks : goal.returns-clause-walks
returns-clause-walks g c =
    let v = c.args.geometry.now.layout in
    let dup = bits_of c.args.workspace.now.duplicates in
    let gives = ap (λ d. d.contents) c.in_ok-inode.ensures.inode.reads.read in
    let did = c.rewalk.ensures.walks in
    record {
      text = reports_same (Unit {0}) _ _ _ _ _ c.rewalk.result
          (λ bytes t. ap (λ i. of_lines (first_offer_lines dup
          (offers_of_runs c.args.number (noted_runs v c.args.workspace.now c.args.number i bytes))))
          (c.in_ok-inode.ensures.inode.reads.inode bytes t))
          (reports_knowing (Unit {0}) _ _ _ _ _ c.rewalk.result (λ bytes t. gives ∙ t) did.text);
      rewalked = grind arith;
      part = grind arith;
      runs = grind arith;
      clears = clears_from did.clears refl refl;
      left = grind arith;
      counted = grind arith;
      known = grind arith;
    }

pub returns-clause-by_block : goal.returns-clause-by_block
unfolding TakesPiece
returns-clause-by_block g c =
    let v = c.args.geometry.now.layout in
    let gives = ap (λ d. d.contents) c.in_ok-inode.ensures.inode.reads.read in
    let did = c.rewalk.ensures in
    record {
      again = λ held. did.table ∙ c.in_ok-inode.ensures.inode.piece.0 held;
      known = λ held bytes t. omega (
        arith,
        c.in_ok-inode.ensures.inode.again held,
        did.walks.known bytes (gives ∙ t),
        ap (λ i. indirect_among (noted_runs v c.args.workspace.now c.args.number i bytes))
            (c.in_ok-inode.ensures.inode.reads.inode bytes t),
      );
      block = λ unheld. on_any c.rewalk.result (rw did.table (c.in_ok-inode.ensures.inode.piece.1 unheld));
    }
