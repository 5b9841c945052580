use Rattle.std.proofs.Common.{◌≡◌, ◌+◌, ◌*◌, ◌^◌, ◌<◌, ℕ, List, arith, count_ones, false, get_or, length, refl}
use Rattle.std.proofs.lemmas.List.Elements.{All-get_or}
use Rattle.std.specs.List.{slice_index_or}
use Rattle.ffs_maps.{specs.WordBits.{bits_of_words, set_among}, proofs.Counting.{alike_words, count_join, count_within, ones_of_word}}
use Rattle.ffs_maps.proofs.map_words.ones_of.Goals as goal

pub overflow_mul-result : goal.overflow_mul-result
overflow_mul-result c =
    let words = c.args.words.now in
    let n = length words in
    let w = slice_index_or words 0 0 in
    let counted = alike_words words (64 * n) 0 n w (omega (arith, c.type_inv.words 0)) (omega arith)
    (λ k h. All-get_or (λ x. x ≡ w) words (0 + k) 0 (omega (arith, h)) (c.are_alike.ensures.0 c.if-are_alike.true)) in
    omega (arith, counted, c.requires, count_within (λ f. slice_index_or (bits_of_words words (64 * n)) f false) 0 (64 * n))

pub returns-then-are_alike : goal.returns-then-are_alike
returns-then-are_alike c =
    let words = c.args.words.now in
    let n = length words in
    let w = slice_index_or words 0 0 in
    alike_words words (64 * n) 0 n w (omega (arith, c.type_inv.words 0)) (omega arith)
    (λ k h. All-get_or (λ x. x ≡ w) words (0 + k) 0 (omega (arith, h)) (c.are_alike.ensures.0 c.if-are_alike.true))

-- the bits of one word more
counted : (words : List ℕ) (index count w : ℕ) → index < length words → w < 2 ^ 64 → w ≡ get_or words index 0 →
    count ≡ set_among (bits_of_words words (64 * length words)) 0 (64 * index) →
    count + count_ones w ≡ set_among (bits_of_words words (64 * length words)) 0 (64 * (index + 1))
counted words index count w inside fits is so_far =
    let from_zero : 0 + 64 * index ≡ 64 * index = omega arith in
    count_join (λ f. slice_index_or (bits_of_words words (64 * length words)) f false) 0 (64 * index) 64
    (64 * (index + 1)) count (count_ones w) (omega arith) so_far
    (rw from_zero (ones_of_word words (64 * length words) index w fits is (omega (arith, inside))))

pub overflow_add-count : goal.overflow_add-count
overflow_add-count c =
    let words = c.args.words.now in
    let index = c.loop-index.index in
    let more = counted words index c.loop-index.count _ c.loop-index-test.true
    (omega (arith, c.type_inv.words index)) refl c.loop-index.invariant in
    omega (
      arith,
      more,
      c.requires,
      c.loop-index-test.true,
      count_within (λ f. slice_index_or (bits_of_words words (64 * length words)) f false) 0 (64 * (index + 1)),
    )

pub loop-index-preserved : goal.loop-index-preserved
loop-index-preserved c = search (arith, counted)

pub returns : goal.returns
returns c = grind arith
