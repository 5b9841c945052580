-- The exponents of powers of two.
use Rattle.std.proofs.{Common.{◌≡◌, ℕ, ◌+◌, ◌*◌, ◌^◌, ◌<◌, ◌≤◌, true, false, arith, ap, nat_lt}, Math.Pow.pow_mono}
use Rattle.std.{proofs.lemmas.{Grind.pow_more}, specs.Prelude.unwrap_or}
use Rattle.ffs_volume.{proofs.SearchLaws.first_below-is, specs.Find.Fields.exponent_of}

above : (n r : ℕ) → n < 2 * 2 ^ r → nat_lt n (2 ^ (r + 1)) ≡ true
above n r h = grind (arith, pow_more)

below : (n r t : ℕ) → 2 ^ r ≤ n → t < r → nat_lt n (2 ^ (t + 1)) ≡ false
below n r t h less = grind (arith, pow_mono)

pub exponent_is : (n r : ℕ) → r < 32 → 2 ^ r ≤ n → n < 2 * 2 ^ r → exponent_of n ≡ r
unfolding exponent_of
exponent_is n r small low high =
    ap (λ o. unwrap_or o 0)
    (first_below-is (λ k. nat_lt n (2 ^ (k + 1))) 32 r
    (record { below = small; passes = above n r high; least = λ t less. below n r t low less }))
