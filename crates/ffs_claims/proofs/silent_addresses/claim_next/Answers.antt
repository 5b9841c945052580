use Rattle.std.proofs.Common.{◌+◌, arith}
use Rattle.ffs_claims.{specs.SilentAddresses.with_run_counts, proofs.WordClaims.address_once}
use Rattle.ffs_claims.proofs.silent_addresses.claim_next.Goals as goal

pub claim_address-requires-clause-can : goal.claim_address-requires-clause-can
claim_address-requires-clause-can c = record { layout = c.args.walk.now.geometry.layout; next = c.requires.can.next }

pub returns-clause-claimed : goal.returns-clause-claimed
returns-clause-claimed c = λ t.
    let can = c.requires.can in
    let w = c.args.walk.now in
    let sizes = w.geometry.sound.sizes in
    let a = with_run_counts c.args.workspace.now c.args.counts.now in
    let passes = c.pass_word.ensures.word a.windows.blocks can.held in
    let did = c.claim_address.ensures.claimed c.if-not-claim_address.false w.geometry.layout can.next in
    record {
      words = address_once {a = a} (w.single.first + w.single.next) sizes.frag_low (omega arith) sizes.frag_high
          can.next.made (rw c.next_address-address.ensures passes.steps) did
          c.pass_word.ensures.falls c.pass_word.ensures.same c.pass_word.ensures.counted;
      held = rw did.only.windows passes.held;
      falls = c.pass_word.ensures.falls;
    }
