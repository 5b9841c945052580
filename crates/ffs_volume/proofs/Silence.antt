-- When a list of messages is empty.
use Rattle.std.proofs.Common.{◌≡◌, ℕ, zero, suc, ◌<◌, Bool, true, false, refl, List, [], ◌∷◌, ◌++◌, if◌then◌else◌}
use Rattle.std.proofs.{Common.arith, lemmas.Bool.cond_both}
use Rattle.ffs_volume.specs.Messages.Kinds.{TreeMessage, reported, lines_below}

pub nil-left : (xs ys : List TreeMessage) → xs ++ ys ≡ [] → xs ≡ []
nil-left [] ys h = refl
nil-left (x ∷ xs) ys h = absurd (cc)

pub nil-right : (xs ys : List TreeMessage) → xs ++ ys ≡ [] → ys ≡ []
nil-right [] ys h = h
nil-right (x ∷ xs) ys h = absurd (cc)

pub nil-both : (xs ys : List TreeMessage) → xs ≡ [] → ys ≡ [] → xs ++ ys ≡ []
nil-both xs ys g h = rw (g, h)

pub reported-quiet : (b : Bool) (m : TreeMessage) → reported b m ≡ [] → b ≡ false
reported-quiet b m h = grind arith

pub then-silent : (b : Bool) (xs : List TreeMessage) → (b ≡ true → xs ≡ []) → (if b then xs else []) ≡ []
then-silent b xs h = cond_both b xs [] (λ zs. zs ≡ []) h (λ _. refl)

pub lines-quiet : (f : ℕ → List TreeMessage) (n : ℕ) → lines_below f n ≡ [] → (i : ℕ) → i < n → f i ≡ []
unfolding lines_below
lines-quiet f zero h i l = absurd (omega arith)
lines-quiet f (suc n) h i l = let more = lines-quiet f n in grind (arith, nil-right, nil-left)

pub lines-silent : (f : ℕ → List TreeMessage) (n : ℕ) → ((i : ℕ) → i < n → f i ≡ []) → lines_below f n ≡ []
unfolding lines_below
lines-silent f zero h = refl
lines-silent f (suc n) h = rw (lines-silent f n (λ i l. h i (omega arith)), h n (omega arith))
