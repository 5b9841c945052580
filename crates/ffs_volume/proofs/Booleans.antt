-- Laws of booleans that the library doesn't have.
use Rattle.std.proofs.Common.{arith, ◌≡◌, Bool, true, false, ◌&&◌}

pub and_false-right : (a b : Bool) → (a && b) ≡ false → a ≡ true → b ≡ false
and_false-right a b h e = grind arith

pub and_false-from : (a b : Bool) → (a ≡ true → b ≡ false) → (a && b) ≡ false
and_false-from a b h = grind arith

-- tests that imply one another
pub both_imply : (a b : Bool) → (a ≡ true → b ≡ true) → (b ≡ true → a ≡ true) → a ≡ b
both_imply a b f g = grind arith
