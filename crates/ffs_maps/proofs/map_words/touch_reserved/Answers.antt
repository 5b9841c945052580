use Rattle.std.proofs.Common.{append_assoc, ◌-◌, ◌∙◌, ◌++◌, ℕ, arith, ap, length, refl, replicate, sym, vec_len}
use Rattle.std.proofs.lemmas.{List.{FromFn.map-range_with_len_more, length-append, length-replicate}, Bool.not-true}
use Rattle.std.specs.Prelude.{Some}
use Rattle.ffs_maps.{specs.Words.reserved_words, proofs.Words.{reserved_on, zeros_of_stretch}}
use Rattle.ffs_maps.proofs.map_words.touch_reserved.Goals as goal

pub loop-len-preserved-then-len-next : goal.loop-len-preserved-then-len-next
loop-len-preserved-then-len-next c =
    let g = c.args.geometry.now in
    let inv = c.loop-len.invariant in
    let first = vec_len c.args.touched.now in
    let len = c.loop-len.len in
    let next = c.min-next.result in
    let s = c.stretch_from-stretch in
    record {
      len = omega (
        arith,
        ap (length {A = ℕ}) c.push_zeros.ensures.items,
        length-append c.loop-len.touched.items (replicate (next - vec_len c.loop-len.touched) 0),
        length-replicate {A = ℕ} (next - vec_len c.loop-len.touched) 0,
        c.loop-len.touched.ok.0,
        c.push_zeros.new.self.ok.0,
        inv.len,
        c.if-len-next.true,
      );
      within = omega (arith, inv.within, c.if-len-next.true);
      past = omega (arith, c.min-next.ensures);
      items = c.push_zeros.ensures.items
          ∙ ap (λ n. c.loop-len.touched.items ++ replicate (next - n) 0) (sym inv.len)
          ∙ ap (λ xs. xs ++ replicate (next - len) 0) inv.items
          ∙ ap (λ ws. (c.args.touched.now.items ++ reserved_words (Some g) first (len - first)) ++ ws)
          (sym (zeros_of_stretch g len next (next - len) refl (λ f low high.
          s.ensures.alike f low (omega (arith, high, c.min-next.ensures)) ∙ not-true s.result.reserved c.if-not-stretch.true)))
          ∙ reserved_on (Some g) c.args.touched.now.items first (len - first) (next - len) (next - first) len
          (omega (arith, inv.within, c.if-len-next.true)) (omega (arith, inv.within));
      address = c.push_zeros.ensures.address ∙ inv.address;
      room = c.push_zeros.ensures.room ∙ inv.room;
    }

pub loop-len-preserved : goal.loop-len-preserved
loop-len-preserved c = grind (arith, length-append, append_assoc, map-range_with_len_more)
