-- Among n + 1 numbers below n two are equal.
use Rattle.std.proofs.{Common.{◌≡◌, ℕ, zero, suc, ◌<◌, ◌≤◌, ◌==◌, cond, arith, inl, inr}, lemmas.Bool.cases_Bool}
use Rattle.std.proofs.lemmas.Bool.Decides.{nat_tests}
use Rattle.ffs_volume.{proofs.SearchLaws.{some_below-gives, some_below-false}, specs.Disk.Search.some_below}

pub record Repeats (g : ℕ → ℕ) (n : ℕ) : Type 0 where
  pub first : ℕ
  pub second : ℕ
  pub ordered : first < second
  pub bounded : second ≤ n
  pub same : g first ≡ g second

-- a number, or `last` in place of n
abbrev moved : (n last x : ℕ) → ℕ
moved n last x = cond (x == n) last x

step : (n : ℕ) (g : ℕ → ℕ) → ((i : ℕ) → i ≤ suc n → g i < suc n) →
    ((f : ℕ → ℕ) → ((i : ℕ) → i ≤ n → f i < n) → Repeats f n) → Repeats g (suc n)
step n g h ih =
    let ne = some_below-false (λ i. g i == g (suc n)) (suc n) in
    elim (cases_Bool (some_below (λ i. g i == g (suc n)) (suc n))) [
      | inl y ↦ let w = some_below-gives (λ i. g i == g (suc n)) (suc n) y in
          let same : g w.0 ≡ g (suc n) = grind (arith, nat_tests) in
          record { first = w.0; second = suc n; ordered = w.1.below; bounded = omega arith; same = same }
      | inr y ↦
          let r = ih (λ i. moved n (g (suc n)) (g i)) (λ i l. grind (arith, nat_tests)) in
          let same : g r.first ≡ g r.second = grind (arith, nat_tests) in
          record { first = r.first; second = r.second; ordered = r.ordered; bounded = omega arith; same = same }
    ]

pub pigeon : (n : ℕ) (g : ℕ → ℕ) → ((i : ℕ) → i ≤ n → g i < n) → Repeats g n
pigeon zero g h = absurd (let a = h 0 (omega arith) in omega arith)
pigeon (suc n) g h = step n g h (pigeon n)
