use Rattle.std.proofs.Common.{refl, arith, rules}
use Rattle.ffs_maps.specs.Bits.{bits_of}
use Rattle.ffs_claims.proofs.{Frames.{stay, stay_claimed}, UnclaimedRuns.run_below, WordClaims.run_claims}
use Rattle.ffs_claims.proofs.silent_addresses.claim_address.Goals as goal

pub claim-requires : goal.claim-requires
claim-requires c =
    let some = c.requires.some in
    let next = c.requires.can.next in
    let run = c.contains.ensures.0 c.if-not-contains.false in
    let fits = next.all_in_range.runs c.args.address c.args.len run.first run.last some in
    let within = run_below c.requires.can.layout c.args.address c.args.len some fits in
    record { some = some; below = omega (arith, within, next.made.used) }

pub returns-clause-claimed : goal.returns-clause-claimed
returns-clause-claimed c = λ t layout next.
    let run = c.contains.ensures.0 c.if-not-contains.false in
    let fits = next.all_in_range.runs c.args.address c.args.len run.first run.last c.requires.some in
    let made = next.made in
    let used = stay_claimed c.claim.ensures in
    let duplicates = stay (bits_of c.args.workspace.now.duplicates) in
    record {
      claims = λ block. run_claims c.args.address c.args.len block next.uncut c.if-address-eq0.false fits
          (c.claim.ensures.clear c.if-not-claim.false)
          (rw (c.claim.ensures.claimed c.if-not-claim.false, c.from.ensures) refl);
      uncut = search rules;
      only = grind arith;
      rises = omega arith;
    }
