use Rattle.std.proofs.Common.{ℕ, arith, ap, sym, ◌∙◌, true, length, length-set, slice_set}
use Rattle.ffs_maps.specs.{Bits.bits_of, WordBits.bits_of_words, WordBits.set_among}
use Rattle.ffs_maps.proofs.{Bits.bits_long, Bits.set_bits, Ones.few_among, Ones.raised}
use Rattle.ffs_maps.proofs.FragmentMap.set.Goals as goal

pub overflow_add-self : goal.overflow_add-self
overflow_add-self c =
    let m = c.args.self.now in
    let more = raised (bits_of m) _ _ _ _ _ (bits_long m) c.requires m.counted c.get.ensures c.from.ensures in
    omega (arith, more, few_among (slice_set (bits_of m) c.args.fragment true) 0 m.size)

pub invariant_of-self : goal.invariant_of-self
invariant_of-self c =
    let m = c.args.self.now in
    record {
      enough = omega (arith, m.enough, ap (λ ws. length ws.list) c.set.ensures, length-set {A = ℕ});
      counted = raised (bits_of m) _ _ _ _ _ (bits_long m) c.requires m.counted c.get.ensures c.from.ensures
          ∙ ap (λ bits. set_among bits 0 m.size)
          (sym (ap (λ ws. bits_of_words ws.list m.size) c.set.ensures
          ∙ set_bits m.words.list m.size c.args.fragment c.get-word.result c.requires (omega (arith, m.enough))
          c.get-word.ensures));
    }

pub returns : goal.returns
returns c = grind (arith, set_bits)
