use Rattle.std.proofs.Common.{◌≡◌, ◌+◌, ◌-◌, ◌∙◌, ap, arith, refl}
use Rattle.ffs_claims.proofs.SeriesClaims.{series_next}
use Rattle.ffs_claims.proofs.silent_addresses.pass_series.Goals as goal

pub loop-end-init : goal.loop-end-init
loop-end-init c =
    let none : c.from-start.result - c.from-start.result ≡ 0 = omega arith in
    record {
      low = omega arith;
      passes = rw none (record {
        claims = λ s can. grind arith;
        one_word = omega arith;
        held = c.requires.held;
        falls = omega arith;
        passes = λ h. omega (arith, h);
        same = record { geometry = refl; blocks = refl };
        counted = record { unread = omega arith; held = λ blocks held. held };
      });
    }

pub pass_word-requires : goal.pass_word-requires
pass_word-requires c = grind arith

pub loop-end-preserved : goal.loop-end-preserved
loop-end-preserved c =
    let inv = c.loop-end.invariant in
    let before = inv.passes in
    let next = c.comes_next.ensures c.if-comes_next.true in
    let passes = c.pass_word.ensures in
    let v = c.args.walk.now.geometry.layout in
    let sizes = c.args.walk.now.geometry.sound.sizes in
    let layout = ap (λ k. k.layout) before.same.geometry in
    let len = c.loop-end.end - c.from-start.result in
    let longer : c.loop-end.end + c.from-frag.result - c.from-start.result ≡ len + v.frag =
    omega (arith, inv.low, c.from-frag.ensures) in
    record {
      low = omega (arith, inv.low);
      passes = rw longer (record {
        claims = λ s can. series_next {blocks = c.args.blocks.now} {y = c.loop-end.walk} s c.args.address len
            sizes.frag_high sizes.frag_low c.requires.some layout
            (next.address_is ∙ omega (arith, inv.low, c.from-start.ensures)) before passes can;
        one_word = omega (arith, inv.low, c.from-start.ensures, c.from-frag.ensures, c.loop-end-test.true, sizes.frag_high);
        held = (passes.word _ before.held).held;
        falls = omega (arith, before.falls, passes.falls);
        passes = λ h. omega (arith, before.falls, passes.falls);
        same = record {
          geometry = passes.same.geometry ∙ before.same.geometry;
          blocks = passes.same.blocks ∙ before.same.blocks;
        };
        counted = record {
          unread = omega (arith, passes.counted.unread, before.counted.unread);
          held = λ blocks held. passes.counted.held blocks (before.counted.held blocks held);
        };
      });
    }
