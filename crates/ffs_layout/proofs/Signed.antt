-- Products of a signed and an unsigned number of 32 bits, in 64 bits.
use Rattle.std.proofs.Common.{◌≡◌, ◌<◌, ◌≤◌, ◌^◌, ℕ, lit<, w32, w64, ℤ, pos, negsuc, ◌*ℤ◌, FitsSigned, to_z, of_z}
use Rattle.std.{proofs.{Common.{arith, refl}, lemmas.Int.{fits_signed_mul, to_z-of_z}}, specs.Prelude.unsigned_abs}
use Rattle.std.proofs.lemmas.Int.{fits_signed_from_abs}
use lib.Signed.{mag}

-- a number that fits 32 bits fits 64
widens : (x : ℤ) → FitsSigned w32 x → FitsSigned w64 x
widens x f = let h : mag x < 2 ^ 31 = f.sfits in record { sfits = omega arith }

abs_bound : (x : ℤ) → FitsSigned w32 x → unsigned_abs x ≤ 2 ^ 31
abs_bound (pos n) f = let h : n < 2 ^ 31 = f.sfits in omega arith
abs_bound (negsuc n) f = let h : n < 2 ^ 31 = f.sfits in omega arith

fits_product : (x : ℤ) (n : ℕ) → FitsSigned w32 x → n < 2 ^ 32 → FitsSigned w64 (x *ℤ pos n)
fits_product x n f small = fits_signed_mul w64 x (pos n) (2 ^ 31) 4294967295 (abs_bound x f) (omega arith) (lit< tt)

module _ (a b x : ℤ) (n : ℕ) (fits : FitsSigned w32 x) (small : n < 2 ^ 32) (a_is : a ≡ to_z w32 (of_z w32 x))
    (b_is : b ≡ pos n) where
  parts : to_z w64 (of_z w64 a) *ℤ to_z w64 (of_z w64 b) ≡ x *ℤ pos n
  parts =
      let wide : FitsSigned w64 x = widens x fits in
      let left : to_z w64 (of_z w64 a) ≡ x = rw (a_is, to_z-of_z w32 x fits) (to_z-of_z w64 x wide) in
      let fits_b : FitsSigned w64 (pos n) = fits_signed_from_abs w64 (pos n) (omega arith) in
      let right : to_z w64 (of_z w64 b) ≡ pos n = rw b_is (to_z-of_z w64 (pos n) fits_b) in
      rw (left, right) refl

  pub product_fits : FitsSigned w64 (to_z w64 (of_z w64 a) *ℤ to_z w64 (of_z w64 b))
  product_fits = rw parts (fits_product x n fits small)

  pub product_is : to_z w64 (of_z w64 (to_z w64 (of_z w64 a) *ℤ to_z w64 (of_z w64 b))) ≡ x *ℤ pos n
  product_is = rw parts (to_z-of_z w64 (x *ℤ pos n) (fits_product x n fits small))
