-- The bits of words.
use Rattle.std.specs.{Prelude.{ℕ, ◌/◌, ◌%◌, Bool, false, List, map, nat_eq, slice_index, count_by}, List.range_with_len}
use Rattle.std.specs.{List.slice_index_or, Int.bit_at}

-- the first `size` bits of words of 64 bits, the lowest of a word first
unfoldable pub bits_of_words : List ℕ → ℕ → List Bool
bits_of_words words size =
    map (λ f. nat_eq (bit_at (slice_index words (f / 64)) (f % 64)) 1) (range_with_len 0 size)

-- how many of `len` bits from an index on are set
abbrev pub set_among : List Bool → (start len : ℕ) → ℕ
set_among bits start len = count_by (λ f. slice_index_or bits f false) (range_with_len start len)
