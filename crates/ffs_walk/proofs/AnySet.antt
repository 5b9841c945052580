-- Whether an address isn't zero: of all, and of those from an index on, by a bit for each.
use Rattle.std.proofs.Common.{zero, suc, Bool, true, false, ◌≡◌, ◌==◌, ◌||◌, ◌+◌, ◌*◌, ◌/◌, ◌^◌}
use Rattle.std.proofs.Common.{◌<◌, ◌∙◌, refl, ap, sym, map, eqb, cond, ℕ, List, [], ◌∷◌, ◌++◌, length, get_or, take, drop, not, bit_or, arith}
use Rattle.std.proofs.lemmas.{List.{Folds.list_any_more}, Nat.{le_or_l, pow_pos, shr-shr}}
use lib.Lanes.{mask_l}
use Rattle.ffs_volume.specs.Blocks.Inodes.{any_nonzero}

-- two numbers have a bit that is set where one of them isn't zero
pub or_set : (a b : ℕ) → not (bit_or a b == 0) ≡ (not (a == 0) || not (b == 0))
or_set zero b = refl
or_set (suc a) b = grind (arith, le_or_l (suc a) b)

-- the first addresses, and one more
pub any_more : (xs : List ℕ) (i : ℕ) → i < length xs →
    any_nonzero (take (i + 1) xs) ≡ (any_nonzero (take i xs) || not (get_or xs i 0 == 0))
any_more xs i below = list_any_more (λ a. not (a == 0)) xs i 0 below

none_left : (from : ℕ) → any_nonzero (drop from []) ≡ false
none_left zero = refl
none_left (suc from) = refl

halved : (b n k : ℕ) → b < 2 → (b + 2 * n) / 2 ^ suc k ≡ n / 2 ^ k
halved b n k small =
    let next : suc k ≡ 1 + k = omega arith in
    let half : (b + 2 * n) / 2 ^ 1 ≡ n = omega (arith, small) in
    ap (λ j. (b + 2 * n) / 2 ^ j) next ∙ sym (shr-shr (b + 2 * n) 1 k) ∙ ap (λ m. m / 2 ^ k) half

-- a bit for each number, that is set where it isn't zero: one from an index on
pub mask_from : (xs : List ℕ) (from : ℕ) →
    not (mask_l (map (λ x. not (eqb x 0)) xs) / 2 ^ from == 0) ≡ any_nonzero (drop from xs)
mask_from [] from = grind (arith, none_left from, pow_pos from)
mask_from (zero ∷ xs) zero = grind (arith, mask_from xs zero)
mask_from (suc x ∷ xs) zero = grind arith
mask_from (x ∷ xs) (suc from) =
    let half = halved (cond (not (eqb x 0)) 1 0) (mask_l (map (λ x. not (eqb x 0)) xs)) from (bit_small (not (eqb x 0))) in
    ap (λ b. not (b == 0)) half ∙ mask_from xs from
  where
    bit_small : (b : Bool) → cond b 1 0 < 2
    bit_small true = omega arith
    bit_small false = omega arith

-- one more number, which is zero
pub zero_after : (xs : List ℕ) (from : ℕ) → any_nonzero (drop from (xs ++ 0 ∷ [])) ≡ any_nonzero (drop from xs)
zero_after [] zero = refl
zero_after [] (suc from) = none_left from
zero_after (x ∷ xs) zero = ap (λ b. not (x == 0) || b) (zero_after xs zero)
zero_after (x ∷ xs) (suc from) = zero_after xs from
