use Rattle.std.proofs.Common.{◌∙◌, ap, arith, bit_and, bit_or, refl, slice_set, sym, true≢false}
use Rattle.ffs_maps.proofs.Words.{length_seen, same_stored, set_seen, touched_at}
use Rattle.ffs_maps.proofs.map_words.MapWords.claim.Goals as goal

pub touch-requires-clause-room : goal.touch-requires-clause-room
touch-requires-clause-room c = grind (arith, length_seen)

pub returns-then-word-mask-ne0 : goal.returns-then-word-mask-ne0
returns-then-word-mask-ne0 c =
    let w = c.self.inside.stored in
    let s = c.touch.new.stored in
    let same = same_stored w s c.args.index c.args.self.now c.self.view_is c.touch.ensures in
    let is = touched_at s.touched s.reserved c.args.index s.count c.args.self.now c.index-word.result.now same
    c.touch.ensures.words.past ∙ sym c.index-word.ensures in
    record {
      clear = (
        λ yes_. absurd (true≢false (sym yes_)),
        λ none. absurd (c.if-word-mask-ne0.true (ap (λ x. bit_and x c.args.mask) (sym is) ∙ none)),
      );
      claimed = λ yes_. absurd (true≢false (sym yes_));
      unchanged = λ _. same;
    }

pub returns : goal.returns
returns c =
    let w = c.self.inside.stored in
    let old = c.args.self.now in
    let s = c.touch.new.stored in
    let same = same_stored w s c.args.index old c.self.view_is c.touch.ensures in
    let is = touched_at s.touched s.reserved c.args.index s.count old c.index-word.result.now same
    c.touch.ensures.words.past ∙ sym c.index-word.ensures in
    record {
      clear = (λ _. ap (λ x. bit_and x c.args.mask) is ∙ c.if-word-mask-ne0.false, λ _. refl);
      claimed = λ _.
          rw c.set.ensures (set_seen s.touched s.reserved c.args.index _ s.count old same c.touch.ensures.words.past)
          ∙ ap (λ x. record old { list = slice_set old.list c.args.index (bit_or x c.args.mask) }) (sym is);
      unchanged = λ no. absurd (true≢false no);
    }
