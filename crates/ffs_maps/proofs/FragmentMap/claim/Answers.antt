use Rattle.std.proofs.Common.{◌≡◌, ◌<◌, ◌≤◌, ◌+◌, ◌/◌, ◌%◌, ◌∙◌, ℕ, arith, refl, ap, sym, length, length-set}
use Rattle.std.proofs.Common.{true≢false}
use Rattle.ffs_maps.specs.Words.{Words, with_bits}
use Rattle.ffs_maps.specs.{declared.FragmentMap.FragmentMap, Bits.{AreClear, bits_of, set_run}, WordBits.bits_of_words}
use Rattle.ffs_maps.{specs.WordBits.set_among, proofs.{Masks.{clear_run, mark_run, mask_of, run_clear}, Bits.bits_long}}
use Rattle.ffs_maps.proofs.{Bits.same_map, Ones.{few_among, none_among, run_raised}}
use Rattle.ffs_maps.proofs.FragmentMap.claim.Goals as goal

bits_now : (m : FragmentMap) (new : Words) (start len : ℕ) → start % 64 + len ≤ 64 → start + len ≤ m.size → 0 < len →
    new ≡ with_bits m.words (start / 64) (mask_of start len) →
    bits_of_words new.list m.size ≡ set_run (bits_of m) start len
bits_now m new start len fits below some is = grind (arith, mark_run)

-- the number of set bits, where a clear run is set
raised : (m : FragmentMap) (start len : ℕ) → start + len ≤ m.size → AreClear (bits_of m) start len →
    m.ones + len ≡ set_among (set_run (bits_of m) start len) 0 m.size
raised m start len below clear =
    let none = sym (none_among (bits_of m) start len clear) in
    omega (arith, run_raised (bits_of m) m.size start len m.ones 0 (bits_long m) below m.counted none)

pub returns-then-not-claim : goal.returns-then-not-claim
returns-then-not-claim c =
    let m = c.args.self.now in
    record {
      size = refl;
      clear = λ yes_. absurd (true≢false (sym yes_));
      claimed = λ yes_. absurd (true≢false (sym yes_));
      unchanged = λ no. same_map m c.claim.new.self _ _ (c.claim.ensures.unchanged c.if-not-claim.true);
      one_word = λ fits clear. absurd (true≢false (sym (c.claim.ensures.clear.1
          (run_clear m.words.list m.size c.args.start c.args.len fits c.requires.below clear)) ∙ c.if-not-claim.true));
    }

pub overflow_add-self : goal.overflow_add-self
overflow_add-self c =
    let m = c.args.self.now in
    let fits : c.args.start % 64 + c.args.len ≤ 64 = omega (arith, c.if-len-low.false) in
    let clear = clear_run m.words.list m.size c.args.start c.args.len fits c.requires.below
    (c.claim.ensures.clear.0 c.if-not-claim.false) in
    let few = few_among (set_run (bits_of m) c.args.start c.args.len) 0 m.size in
    omega (arith, raised m c.args.start c.args.len c.requires.below clear, few)

pub invariant_of-self-2 : goal.invariant_of-self-2
invariant_of-self-2 c =
    let m = c.args.self.now in
    let fits : c.args.start % 64 + c.args.len ≤ 64 = omega (arith, c.if-len-low.false) in
    let clear = clear_run m.words.list m.size c.args.start c.args.len fits c.requires.below
    (c.claim.ensures.clear.0 c.if-not-claim.false) in
    let now = c.claim.ensures.claimed c.if-not-claim.false in
    record {
      enough = omega (arith, m.enough, ap (λ ws. length ws.list) now, length-set {A = ℕ});
      counted = raised m c.args.start c.args.len c.requires.below clear
          ∙ ap (λ bits. set_among bits 0 m.size)
          (sym (bits_now m c.claim.new.self c.args.start c.args.len fits c.requires.below c.requires.some now));
    }

pub returns : goal.returns
returns c = grind (arith, clear_run, bits_now)
