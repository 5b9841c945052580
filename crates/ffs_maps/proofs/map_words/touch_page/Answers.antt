use Rattle.std.proofs.Common.{◌-◌, ◌+◌, ◌%◌, ◌∙◌, arith, ap, refl, sym, vec_len}
use Rattle.ffs_maps.{specs.Words.reserved_words, proofs.Words.{touched_page, zero_words}}
use Rattle.ffs_maps.proofs.map_words.touch_page.Goals as goal

pub returns-in-Some : goal.returns-in-Some
returns-in-Some c =
    let page = c.args.index - c.args.index % 512 in
    let end = page + c.min.result in
    record {
      words = touched_page c.args.stored.now.touched _ c.args.stored.now.reserved c.args.stored.now.count c.args.index end _
          c.touch_reserved.ensures
          (ap (λ r. reserved_words r (vec_len c.args.stored.now.touched) (end - vec_len c.args.stored.now.touched))
          (sym c.in-Some.is))
          c.requires.touched (omega (arith, c.min.ensures, c.requires.room.0)) (omega (arith, c.min.ensures, c.requires.room.0));
      count = refl;
      reserved = refl;
    }

pub returns-in-None : goal.returns-in-None
returns-in-None c =
    let page = c.args.index - c.args.index % 512 in
    let end = page + c.min.result in
    record {
      words = touched_page c.args.stored.now.touched _ c.args.stored.now.reserved c.args.stored.now.count c.args.index end _
          c.push_zeros.ensures
          (sym (ap (λ r. reserved_words r (vec_len c.args.stored.now.touched) (end - vec_len c.args.stored.now.touched))
          c.in-None.is
          ∙ zero_words (vec_len c.args.stored.now.touched) (end - vec_len c.args.stored.now.touched)))
          c.requires.touched (omega (arith, c.min.ensures, c.requires.room.0)) (omega (arith, c.min.ensures, c.requires.room.0));
      count = refl;
      reserved = refl;
    }
