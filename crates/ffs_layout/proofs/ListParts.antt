-- A list in parts of so many bytes, as a loop goes over them.
use Rattle.std.proofs.Common.{zero, suc, ◌≡◌, ◌||◌, ◌++◌, ◌+◌, ◌-◌, ◌*◌, ◌<◌, ◌≤◌, ◌∙◌, ap, sym, refl, ℕ, List, get_or}
use Rattle.std.{proofs.{Common.{take, drop, arith, true, false, Bool}, Math.Nat.suc-mul}, specs.Simd.first_chunks}
use Rattle.std.proofs.{Math.Nat.zero-mul, lemmas.List.{drop-drop, take-append-drop, Folds.list_any-append}}
use Rattle.std.proofs.Math.Bool.{or-true}
use Rattle.ffs_volume.proofs.Booleans.{both_imply}
use Rattle.ffs_layout.specs.Entry.{any_nul_or_slash as any}

-- the part at an index
part_at : (n count : ℕ) (xs : List ℕ) (i : ℕ) (d : List ℕ) → i < count →
    get_or (first_chunks n count xs) i d ≡ take n (drop (i * n) xs)
part_at n zero xs i d below = grind arith
part_at n (suc count) xs zero d below = ap (λ k. take n (drop k xs)) (sym (zero-mul n))
part_at n (suc count) xs (suc i) d below =
    grind (arith, drop-drop, suc-mul, part_at n count (drop n xs) i d (omega arith))

four : (a b c d : Bool) → ((a || b) || (c || d)) ≡ ((a || c) || (b || d))
four true b c d = refl
four false true true d = refl
four false true false d = refl
four false false c d = refl

nul_or_slash_append : (xs ys : List ℕ) → any (xs ++ ys) ≡ (any xs || any ys)
nul_or_slash_append xs ys = grind (arith, list_any-append, four)

-- the bytes from a part on
nul_or_slash_step : (n count : ℕ) (xs : List ℕ) (i : ℕ) (d : List ℕ) → i < count →
    any (drop (i * n) xs) ≡ (any (get_or (first_chunks n count xs) i d) || any (drop ((i + 1) * n) xs))
nul_or_slash_step n count xs i d below =
    ap any (sym (take-append-drop n (drop (i * n) xs)))
    ∙ nul_or_slash_append (take n (drop (i * n) xs)) (drop n (drop (i * n) xs))
    ∙ ap (λ ys. any ys || any (drop n (drop (i * n) xs))) (sym (part_at n count xs i d below))
    ∙ ap (λ ys. any (get_or (first_chunks n count xs) i d) || any ys)
    (drop-drop n (i * n) xs ∙ ap (λ k. drop k xs) (sym (suc-mul i n) ∙ ap (λ k. k * n) (omega arith)))

-- a part without NUL and `/` is passed over, and one with them decides
pub nul_or_slash_part : (n count : ℕ) (xs : List ℕ) (parts : List (List ℕ)) (i : ℕ) (d : List ℕ) (b : Bool) →
    parts ≡ first_chunks n count xs → i < count → any (get_or parts i d) ≡ b →
    any (drop (i * n) xs) ≡ (b || any (drop ((i + 1) * n) xs))
nul_or_slash_part n count xs parts i d b are below is = grind (arith, nul_or_slash_step)

-- where what is left of bytes has NUL or `/`, they have it too
nul_or_slash_left : (xs : List ℕ) (k : ℕ) → any (drop k xs) ≡ true → any xs ≡ true
nul_or_slash_left xs k some =
    ap any (sym (take-append-drop k xs)) ∙ nul_or_slash_append (take k xs) (drop k xs)
    ∙ (ap (λ b. any (take k xs) || b) some ∙ or-true (any (take k xs)))

-- where what is left decides, more of it does too
pub nul_or_slash_from : (xs : List ℕ) (j k : ℕ) → j ≤ k → any xs ≡ any (drop k xs) → any (drop j xs)
    ≡ any xs
nul_or_slash_from xs j k before decides = both_imply (any (drop j xs)) (any xs) (nul_or_slash_left xs j) (λ some.
    nul_or_slash_left (drop j xs) (k - j)
    (ap any (drop-drop (k - j) j xs ∙ ap (λ n. drop n xs) (omega arith)) ∙ (sym decides ∙ some)))
