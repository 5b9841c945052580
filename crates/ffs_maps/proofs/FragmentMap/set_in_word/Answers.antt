use Rattle.std.proofs.Common.{ℕ, arith, ap, sym, ◌∙◌, length, length-set}
use Rattle.ffs_maps.specs.{Bits.bits_of, Bits.set_run, WordBits.bits_of_words, WordBits.set_among}
use Rattle.ffs_maps.proofs.{Bits.bits_long, Masks.mark_run, Ones.few_among, Ones.run_raised}
use Rattle.ffs_maps.proofs.FragmentMap.set_in_word.Goals as goal

pub overflow_sub-self : goal.overflow_sub-self
overflow_sub-self c = search (arith, few_among)

pub overflow_add-self : goal.overflow_add-self
overflow_add-self c =
    let m = c.args.self.now in
    let more = run_raised (bits_of m) _ c.args.start c.args.len _ _ (bits_long m) c.requires.run.below m.counted
    c.count_in_word.ensures in
    omega (arith, more, few_among (set_run (bits_of m) c.args.start c.args.len) 0 m.size)

pub invariant_of-self : goal.invariant_of-self
invariant_of-self c =
    let m = c.args.self.now in
    record {
      enough = omega (arith, m.enough, ap (λ ws. length ws.list) c.set.ensures, length-set {A = ℕ});
      counted = run_raised (bits_of m) m.size c.args.start c.args.len m.ones c.count_in_word.result (bits_long m)
          c.requires.run.below m.counted c.count_in_word.ensures
          ∙ ap (λ bits. set_among bits 0 m.size)
          (sym (ap (λ ws. bits_of_words ws.list m.size) c.set.ensures
          ∙ mark_run m.words.list m.size c.args.start c.args.len c.get-word.result c.requires.run.one_word
          c.requires.run.below c.requires.some (omega (arith, m.enough, c.requires.run.below, c.requires.some))
          c.get-word.ensures));
    }

pub returns : goal.returns
returns c = grind (arith, mark_run)
