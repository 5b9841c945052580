-- How many bits of some words are set, of those that are touched and of the others.
use Rattle.std.proofs.Common.{◌≡◌, ℕ, ◌+◌, ◌-◌, ◌*◌, ◌/◌, ◌%◌, ◌<◌, ◌≤◌, false, List, length, cond, nat_eq}
use Rattle.std.proofs.Common.{count_by, get_or, take, drop, min, arith, refl, ap, ◌∙◌, sym}
use Rattle.std.proofs.lemmas.List.{get_or-drop, get_or-take, length-drop, length-take-le}
use Rattle.std.specs.{List.{range_with_len, slice_index_or}, Int.bit_at, Prelude.{Option, vec_len}}
use Rattle.std.specs.declared.{vec.Vec.Vec, alloc.Global.Global}
use Rattle.ffs_layout.specs.declared.geometry.Geometry.{Geometry}
use Rattle.ffs_maps.specs.{Words.{Words, reserved_bit}, WordBits.{bits_of_words, set_among}}
use Rattle.ffs_maps.proofs.{Bits.{get_bits, is_bit}, Counting.{count_join_at, sum_same}, Words.{reserved_bits_at, seen, touched_at, untouched_at}}

-- words from one on that aren't touched
pub reserved_in_words : (touched : Vec ℕ Global) (reserved : Option Geometry) (count size first last : ℕ) (w : Words) →
    seen touched reserved count ≡ w → min (vec_len touched) last ≤ first → last ≤ count → 64 * last ≤ size →
    set_among (bits_of_words w.list size) (64 * first) (64 * last - 64 * first)
    ≡ count_by (reserved_bit reserved) (range_with_len (64 * first) (64 * last - 64 * first))
reserved_in_words touched reserved count size first last w is past within below =
    grind (arith, sum_same, get_bits, untouched_at, reserved_bits_at)

-- words that are touched
pub touched_count : (touched : Vec ℕ Global) (reserved : Option Geometry) (count size first end : ℕ) (w : Words)
    (part : List ℕ) → seen touched reserved count ≡ w → first ≤ end → end ≤ vec_len touched → 64 * end ≤ size →
    part ≡ take (end - first) (drop first touched.items) →
    set_among (bits_of_words part (64 * length part)) 0 (64 * length part)
    ≡ set_among (bits_of_words w.list size) (64 * first) (64 * end - 64 * first)
touched_count touched reserved count size first end w part is order within below cut =
    let long : length part ≡ end - first = omega (
      arith,
      ap (length {A = ℕ}) cut,
      length-take-le (end - first) (drop first touched.items)
          (omega (arith, length-drop first touched.items, touched.ok.0, within, order)),
    ) in
    let same : 64 * length part ≡ 64 * end - 64 * first = omega (arith, long) in
    sum_same (λ f. cond (slice_index_or (bits_of_words part (64 * length part)) f false) 1 0)
    (λ f. cond (slice_index_or (bits_of_words w.list size) f false) 1 0) 0 (64 * first) (64 * length part)
    (λ k low. ap (λ b. cond b 1 0)
    (get_bits part (64 * length part) (0 + k) false (omega (arith, low))
    ∙ at k (omega (arith, low, long)) ∙ sym (get_bits w.list size (64 * first + k) false (omega (arith, low, below, same)))))
    ∙ ap (set_among (bits_of_words w.list size) (64 * first)) same
  where
    word : (j : ℕ) → j < end - first → get_or part j 0 ≡ get_or w.list (first + j) 0
    word j low =
        ap (λ p. get_or p j 0) cut ∙ get_or-take (end - first) (drop first touched.items) j 0 low
        ∙ get_or-drop first touched.items j 0
        ∙ sym (touched_at touched reserved (first + j) count w 0 is (omega (arith, low, within)))

    at : (k : ℕ) → k < 64 * (end - first) → is_bit part (0 + k) ≡ is_bit w.list (64 * first + k)
    at k low =
        let place : (64 * first + k) / 64 ≡ first + (0 + k) / 64 = omega arith in
        let rest : (64 * first + k) % 64 ≡ (0 + k) % 64 = omega arith in
        ap (λ x. nat_eq (bit_at x ((0 + k) % 64)) 1) (word ((0 + k) / 64) (omega (arith, low))) ∙ rw (place, rest) refl

-- both kinds together
pub count_parts : (touched : Vec ℕ Global) (reserved : Option Geometry) (count size first end last : ℕ) (w : Words)
    (part : List ℕ) (x y : ℕ) → seen touched reserved count ≡ w → first ≤ end → end ≡ min (vec_len touched) last →
    last ≤ count → 64 * last ≤ size → part ≡ take (end - first) (drop first touched.items) →
    x ≡ set_among (bits_of_words part (64 * length part)) 0 (64 * length part) →
    y ≡ count_by (reserved_bit reserved) (range_with_len (64 * end) (64 * last - 64 * end)) →
    x + y ≡ set_among (bits_of_words w.list size) (64 * first) (64 * last - 64 * first)
count_parts touched reserved count size first end last w part x y is order at within below cut first_part rest =
    count_join_at (λ f. slice_index_or (bits_of_words w.list size) f false) (64 * first) (64 * end) (64 * last)
    (64 * last - 64 * end) x y (omega (arith, order)) (omega (arith, at))
    (first_part ∙ touched_count touched reserved count size first end w part is order (omega (arith, at))
    (omega (arith, at, below)) cut)
    (rest ∙ sym (reserved_in_words touched reserved count size end last w is (omega (arith, at)) within below))
