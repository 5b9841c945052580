-- The bytes before the first NUL.
use Rattle.std.proofs.Common.{◌≡◌, ◌≤◌, ◌<◌, ◌+◌, ℕ, Bool, false, List, length, take, get_or, arith, sym, ap, ◌∙◌, inl}
use Rattle.std.{proofs.{Common.{inr, nat_lt}, lemmas.Bool.{cases_lt, Decides.nat_tests}}, specs.List.prefix_len}
use Rattle.std.proofs.lemmas.List.Sums.{prefix_len-le-length, prefix_len_passes, prefix_len_stops}
use Rattle.std.proofs.Math.Seq.{take-length}
use Rattle.ffs_volume.specs.Report.Opening.{before_nul}

-- a byte that isn't NUL
abbrev pub is_set : ℕ → Bool
is_set byte = nat_lt 0 byte

-- one byte more that isn't NUL
pub one_byte_more : (xs : List ℕ) (i : ℕ) → i ≤ prefix_len is_set xs → i < length xs → 0 < get_or xs i 0 →
    i + 1 ≤ prefix_len is_set xs
one_byte_more xs i h inside set = elim (cases_lt i (prefix_len is_set xs)) [
  | inl less ↦ omega arith
  | inr more ↦
      let same : prefix_len is_set xs ≡ i = omega arith in
      let stops : is_set (get_or xs (prefix_len is_set xs) 0) ≡ false = prefix_len_stops is_set xs 0 (omega arith) in
      let here : nat_lt 0 (get_or xs i 0) ≡ false = rw same at stops in
      absurd (grind (arith, nat_tests))
]

-- the first NUL is here
pub stops : (xs : List ℕ) (i : ℕ) → i ≤ prefix_len is_set xs → get_or xs i 0 ≡ 0 → take i xs ≡ before_nul xs
stops xs i h nul =
    grind (arith, cases_lt, prefix_len_passes, nat_tests)

-- there is none
pub no_stop : (xs : List ℕ) → length xs ≤ prefix_len is_set xs → xs ≡ before_nul xs
no_stop xs h =
    let same : prefix_len is_set xs ≡ length xs = omega (arith, prefix_len-le-length is_set xs) in
    sym (ap (λ n. take n xs) same ∙ take-length xs)
