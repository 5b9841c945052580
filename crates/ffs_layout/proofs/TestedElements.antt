-- A test of each element, at one of them.
use Rattle.std.{proofs.Common.{◌≡◌, ℕ, ◌+◌, ◌<◌, ◌≤◌, true, arith, get_or, length, List}, specs.Prelude.nat_le}
use Rattle.std.{specs.List.list_all, proofs.lemmas.{List.Folds.list_all_at}}

pub place_within : (xs : List ℕ) (i : ℕ) → list_all (λ place. nat_le (place + 4) 1376) xs ≡ true → i < length xs →
    get_or xs i 0 + 4 ≤ 1376
place_within xs i all h = grind (arith, list_all_at)
