-- The least number below a bound that passes a test.
use Rattle.std.specs.Prelude.{ℕ, zero, suc, Bool, cond, Option, None, Some, is_some}

-- the number that was found already, if any; else n, where b says that it passes; else none
unfoldable pub earliest : Option ℕ → (b : Bool) (n : ℕ) → Option ℕ
earliest (Some s) b n = Some s
earliest None b n = cond b (Some n) None

-- the least number below n that passes
unfoldable pub first_below : (ℕ → Bool) → ℕ → Option ℕ
unfolding earliest
first_below p zero = None
first_below p (suc n) = earliest (first_below p n) (p n) n

-- some number below n passes
abbrev pub some_below : (ℕ → Bool) → ℕ → Bool
some_below p n = is_some (first_below p n)
