use Rattle.std.proofs.Common.{ℕ, arith, ap, ◌∙◌, length, length-set}
use Rattle.ffs_maps.specs.{Bits.bits_of, WordBits.bits_of_words, WordBits.set_among}
use Rattle.ffs_maps.proofs.{Bits.bits_long, Bits.clear_bits, Ones.lowered}
use Rattle.ffs_maps.proofs.FragmentMap.clear.Goals as goal

pub overflow_sub-self : goal.overflow_sub-self
overflow_sub-self c =
    let m = c.args.self.now in
    omega (arith, lowered (bits_of m) _ _ _ _ _ (bits_long m) c.requires m.counted c.get.ensures c.from.ensures)

pub invariant_of-self : goal.invariant_of-self
invariant_of-self c =
    let m = c.args.self.now in
    let fewer = lowered (bits_of m) _ _ _ _ _ (bits_long m) c.requires m.counted c.get.ensures c.from.ensures in
    let now = ap (λ ws. bits_of_words ws.list m.size) c.set.ensures
    ∙ clear_bits m.words.list m.size c.args.fragment c.get-word.result c.requires (omega (arith, m.enough))
    c.get-word.ensures in
    record {
      enough = omega (arith, m.enough, ap (λ ws. length ws.list) c.set.ensures, length-set {A = ℕ});
      counted = omega (arith, fewer, ap (λ bits. set_among bits 0 m.size) now);
    }

pub returns : goal.returns
returns c = grind (arith, clear_bits)
