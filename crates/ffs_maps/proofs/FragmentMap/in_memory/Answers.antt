use Rattle.std.proofs.Common.{◌+◌, ℕ, arith, rules, ap, sym, ◌∙◌, false, length, replicate}
use Rattle.std.proofs.lemmas.List.{get_or-replicate, length-replicate}
use Rattle.ffs_maps.{specs.WordBits.{bits_of_words, set_among}, proofs.{Bits.zero_bits, Ones.none_among}}
use Rattle.ffs_maps.proofs.FragmentMap.in_memory.Goals as goal

pub invariant_of-result : goal.invariant_of-result
invariant_of-result g c =
    let over_list = ap (λ ws. ws.list) c.over.ensures in record {
      enough = omega (arith, ap length over_list, c.div_ceil-count.ensures, length-replicate {A = ℕ});
      counted = sym (ap (λ xs. set_among (bits_of_words xs c.args.size) 0 c.args.size) over_list
          ∙ ap (λ bits. set_among bits 0 c.args.size) (zero_bits _ c.args.size)
          ∙ none_among (replicate c.args.size false) 0 c.args.size
          (λ k h. get_or-replicate c.args.size (0 + k) false false (omega (arith, h))));
    }

pub returns-clause-made : goal.returns-clause-made
returns-clause-made g c = record { made = grind (arith, zero_bits); asks = search (arith, rules) }
