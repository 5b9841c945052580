use Rattle.std.proofs.{Common.{arith, ap, ◌∙◌}, lemmas.Result.on_err_weaker}
use Rattle.ffs_volume.specs.Blocks.{Claims.at_next_inode, Owners.owner_of, Steps.steps_of}
use Rattle.ffs_volume.{specs.Costs.VolumeReads.indirect_in_steps, proofs.Results.on_any}
use Rattle.ffs_report.proofs.Reporting.{reads_first, reports_same}
use Rattle.ffs_workspace.specs.{Holds.claims_of, Tables.TakesPiece}
use Rattle.ffs_claims.proofs.{Frames.stay, Inodes.{steps_rise, used_below}}
use Rattle.ffs_claims.proofs.claim.claim_inode.Goals as goal

pub claim_read_inode-requires : goal.claim_read_inode-requires
claim_read_inode-requires g c = grind arith

pub returns-in_err-inode-clause-claims : goal.returns-in_err-inode-clause-claims
returns-in_err-inode-clause-claims g c = grind (arith, used_below, reads_first, steps_rise, stay)

pub returns-clause-claims : goal.returns-clause-claims
unfolding owner_of
returns-clause-claims g c = grind (arith, reports_same)

pub returns-in_err-inode-clause-by_block : goal.returns-in_err-inode-clause-by_block
unfolding TakesPiece
returns-in_err-inode-clause-by_block g c = grind arith

pub returns-clause-by_block : goal.returns-clause-by_block
unfolding TakesPiece owner_of
returns-clause-by_block g c =
    let v = c.args.geometry.now.layout in
    let s = claims_of c.args.workspace.now in
    let gives = ap (λ d. d.contents) c.in_ok-inode.ensures.inode.reads.read in
    let did = c.claim_read_inode.ensures in
    let counted = did.claims.left.counted in
    record {
      again = λ held.
          (did.table ∙ c.in_ok-inode.ensures.inode.piece.0 held, omega (arith, c.in_ok-inode.ensures.inode.again held, counted));
      known = λ held bytes t. omega (
        arith,
        c.in_ok-inode.ensures.inode.again held,
        did.claims.known bytes (gives ∙ t),
        ap (λ i. indirect_in_steps v (at_next_inode s) (steps_of v i bytes))
            (c.in_ok-inode.ensures.inode.reads.inode bytes t),
      );
      block = λ unheld. on_any c.claim_read_inode.result (rw did.table (c.in_ok-inode.ensures.inode.piece.1 unheld));
    }

pub returns-clause-stored : goal.returns-clause-stored
returns-clause-stored g c = grind arith

pub returns-clause-unstored : goal.returns-clause-unstored
returns-clause-unstored g c =
    on_err_weaker c.claim_read_inode.result (λ p. record { only = p.only; used = p.used; duplicates = p.duplicates }) c.claim_read_inode.ensures.unstored
