use Rattle.std.proofs.Common.{◌<◌, arith, refl, ◌∙◌}
use Rattle.ffs_maps.{proofs.Bits.bits_long, specs.Bits.bits_of}
use Rattle.ffs_claims.{proofs.Frames.{stay, stay_claimed}, specs.SilentAddresses.with_run_counts}
use Rattle.ffs_claims.proofs.{SeriesClaims.series_words, UnclaimedRuns.run_below}
use Rattle.ffs_claims.proofs.silent_addresses.claim_series.Goals as goal

pub claim-requires : goal.claim-requires
claim-requires c =
    let start = c.args.address in
    let len = c.pass_series-len.result in
    let run = c.contains.ensures.0 c.if-not-contains.false in
    let some : 0 < len = omega (arith, c.if-len-eq0.false) in
    let fits = c.requires.can.next.all_in_range.runs start len run.first run.last some in
    let within = run_below c.args.walk.now.geometry.layout start len some fits in
    record { some = some; below = omega (arith, within, c.requires.can.next.made.used) }

pub returns-then-not-claim-clause-unchanged : goal.returns-then-not-claim-clause-unchanged
returns-then-not-claim-clause-unchanged c = λ e. (rw (c.claim.ensures.unchanged c.if-not-claim.true) refl, refl)

pub returns-clause-claimed : goal.returns-clause-claimed
returns-clause-claimed c = λ t.
    let next = c.requires.can.next in
    let a = with_run_counts c.args.workspace.now c.args.counts.now in
    let some : 0 < c.pass_series-len.result = omega (arith, c.if-len-eq0.false) in
    let run = c.contains.ensures.0 c.if-not-contains.false in
    let passes = c.pass_series-len.ensures in
    let used = stay_claimed c.claim.ensures in
    let duplicates = stay (bits_of a.duplicates) in
    record {
      words = series_words (record {
        uncut = next.uncut;
        long = bits_long a.used ∙ next.made.used;
        in_range = λ f low high. next.all_in_range.runs f c.args.walk.now.geometry.layout.frag (omega (arith, run.first))
            (omega (arith, run.last)) c.args.walk.now.geometry.sound.sizes.frag_low;
        clear = c.claim.ensures.clear c.if-not-claim.false;
      }) (rw (c.claim.ensures.claimed c.if-not-claim.false, c.from.ensures, c.from-2.ensures) refl) (grind arith) (omega arith) passes;
      held = passes.held;
      falls = passes.passes some;
    }
