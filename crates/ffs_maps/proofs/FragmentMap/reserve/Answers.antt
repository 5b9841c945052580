use Rattle.std.proofs.{Common.{◌∙◌, arith, ap, length, sym}, lemmas.List.FromFn.length-map-range_with_len}
use Rattle.ffs_maps.{specs.WordBits.{bits_of_words, set_among}, proofs.ReservedBits.{reserved_all, reserved_ones}}
use Rattle.ffs_maps.proofs.FragmentMap.reserve.Goals as goal

pub invariant_of-self : goal.invariant_of-self
invariant_of-self c =
    let m = c.args.self.now in
    let g = c.args.geometry.now in
    let now = c.lay_reserved.ensures.bits c.if-lay_reserved.true in
    let n = length m.words.list in
    record {
      enough = ap (λ ws. length ws.list) now ∙ length-map-range_with_len _ 0 n ∙ m.enough;
      counted = reserved_ones g n m.size c.reserved_count-self.result c.requires (omega (arith, m.enough))
          c.reserved_count-self.ensures
          ∙ ap (λ ws. set_among (bits_of_words ws.list m.size) 0 m.size) (sym now);
    }

pub returns-then-lay_reserved : goal.returns-then-lay_reserved
returns-then-lay_reserved c = grind (arith, reserved_all)
