-- The first number of a range, and the others.
use Rattle.std.{proofs.Common.{◌≡◌, ℕ, ◌+◌, ◌-◌, ◌<◌, ◌∷◌, arith}, specs.List.range_with_len}

-- a range that isn't empty begins with its first index
pub range_step : (j n : ℕ) → j < n → range_with_len j (n - j) ≡ j ∷ range_with_len (j + 1) (n - (j + 1))
range_step j n h = grind arith
