use Rattle.std.proofs.Common.{◌-◌, ◌∙◌, arith, ap, drop, sym, take}
use Rattle.ffs_maps.proofs.{Counting.count_within, Words.length_seen, WordCounts.{count_parts, reserved_in_words}}
use Rattle.ffs_maps.proofs.map_words.MapWords.count.Goals as goal

pub returns-then-end-first : goal.returns-then-end-first
returns-then-end-first c = λ size below.
    let w = c.self.inside.stored in
    let all = length_seen w.touched w.reserved w.count c.args.self.now c.self.view_is c.self.invariant.0 in
    c.untouched_ones.ensures
    ∙ sym (reserved_in_words w.touched w.reserved w.count size c.args.first c.args.last c.args.self.now c.self.view_is
    (omega (arith, c.if-end-first.true, c.min-end.ensures, c.as_slice-words.ensures.len))
    (omega (arith, all, c.requires.words)) below)

pub overflow_add-result : goal.overflow_add-result
overflow_add-result c = grind (arith, count_within)

pub returns : goal.returns
returns c = λ size below.
    let w = c.self.inside.stored in
    let all = length_seen w.touched w.reserved w.count c.args.self.now c.self.view_is c.self.invariant.0 in
    count_parts w.touched w.reserved w.count size c.args.first c.min-end.result c.args.last
    c.args.self.now _ _ _ c.self.view_is (omega (arith, c.if-end-first.false))
    (omega (arith, c.min-end.ensures, c.as_slice-words.ensures.len)) (omega (arith, all, c.requires.words))
    below (ap (λ xs. take (c.min-end.result - c.args.first) (drop c.args.first xs)) c.as_slice-words.ensures.value)
    c.ones_of-touched.ensures c.untouched_ones-2.ensures
