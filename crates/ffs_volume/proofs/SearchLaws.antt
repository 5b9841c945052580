-- Laws of `specs/Disk/Search`.
use Rattle.std.proofs.Common.{◌≡◌, ℕ, zero, suc, ◌<◌, Bool, true, false, Option, None, Some, refl, is_some, ◌||◌, arith}
use Rattle.std.proofs.{Common.ap, Common.subst, lemmas.Bool.both_ways, lemmas.Bool.true_from_ne_false}
use Rattle.ffs_volume.specs.Disk.Search.{earliest, first_below, some_below}

-- s is the least number below n that passes
pub record IsFirst (p : ℕ → Bool) (n s : ℕ) : Type 0 where
  pub below : s < n
  pub passes : p s ≡ true
  pub least : (t : ℕ) → t < s → p t ≡ false

-- what a search below n answers
abbrev pub FirstMeaning : (ℕ → Bool) → ℕ → Option ℕ → Type 0
FirstMeaning p n None = (t : ℕ) → t < n → p t ≡ false
FirstMeaning p n (Some s) = IsFirst p n s

earliest-tells : (p : ℕ → Bool) (n : ℕ) (o : Option ℕ) (b : Bool) → p n ≡ b → FirstMeaning p n o →
    FirstMeaning p (suc n) (earliest o b n)
unfolding earliest
earliest-tells p n o b e f = grind arith

pub first_below-tells : (p : ℕ → Bool) (n : ℕ) → FirstMeaning p n (first_below p n)
unfolding first_below
first_below-tells p zero = λ t h. absurd (omega arith)
first_below-tells p (suc n) = earliest-tells p n (first_below p n) (p n) refl (first_below-tells p n)

pub first_below-some : (p : ℕ → Bool) (n s : ℕ) → first_below p n ≡ Some s → IsFirst p n s
first_below-some p n s e = subst (FirstMeaning p n) e (first_below-tells p n)

pub first_below-none : (p : ℕ → Bool) (n : ℕ) → first_below p n ≡ None → (t : ℕ) → t < n → p t ≡ false
first_below-none p n e = subst (FirstMeaning p n) e (first_below-tells p n)

pub first_below-is : (p : ℕ → Bool) (n s : ℕ) → IsFirst p n s → first_below p n ≡ Some s
first_below-is p n s f = let found = first_below-tells p n in grind arith

pub first_below-is_none : (p : ℕ → Bool) (n : ℕ) → ((t : ℕ) → t < n → p t ≡ false) → first_below p n ≡ None
first_below-is_none p n f = let found = first_below-tells p n in grind arith

pub is_some-value : (o : Option ℕ) → is_some o ≡ true → (s : ℕ) × (o ≡ Some s)
is_some-value o e = grind arith

pub some_below-gives : (p : ℕ → Bool) (n : ℕ) → some_below p n ≡ true → (s : ℕ) × IsFirst p n s
some_below-gives p n e = let v = is_some-value (first_below p n) e in (v.0, first_below-some p n v.0 v.1)

pub is_some-none : (o : Option ℕ) → is_some o ≡ false → o ≡ None
is_some-none o e = grind arith

pub some_below-false : (p : ℕ → Bool) (n : ℕ) → some_below p n ≡ false → (t : ℕ) → t < n → p t ≡ false
some_below-false p n e = first_below-none p n (is_some-none (first_below p n) e)

pub some_below-from : (p : ℕ → Bool) (n s : ℕ) → s < n → p s ≡ true → some_below p n ≡ true
some_below-from p n s h e =
    true_from_ne_false (some_below p n) (λ no. both_ways (p s) (some_below-false p n no s h) e)

pub some_below-none : (p : ℕ → Bool) (n : ℕ) → ((t : ℕ) → t < n → p t ≡ false) → some_below p n ≡ false
some_below-none p n f = ap is_some (first_below-is_none p n f)

-- a step of the search, as a loop takes it
pub some_below-suc : (p : ℕ → Bool) (n : ℕ) → some_below p (suc n) ≡ (some_below p n || p n)
unfolding first_below earliest
some_below-suc p n = grind arith
