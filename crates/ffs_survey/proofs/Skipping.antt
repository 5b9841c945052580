-- What is found doesn't change where empty entries are passed over.
use Rattle.std.proofs.Common.{◌≡◌, ℕ, zero, suc, ◌+◌, ◌≤◌, ◌&&◌, Bool, true, false, nat_le, List, [], ◌∷◌, sym, refl, ap, arith}
use mathlib.Core.Path.{fun_ext}
use Rattle.std.proofs.lemmas.Bool.Decides.{nat_tests}
use Rattle.ffs_volume.specs.Costs.Calm.{CurrentDir, are_calm, reached_after}
use Rattle.ffs_volume.specs.{Directories.Roles.RoledEntry, declared.Role.TheVariants.Empty}
use Rattle.ffs_survey.specs.{Discover.{any_in, count_in, from_entries}, Reading.SkipsEmpty}

-- no reference is passed over
count_skipped : (n : ℕ) (rest rest' : List RoledEntry) (x : ℕ) → SkipsEmpty n rest rest' → count_in rest x ≡ count_in rest' x
count_skipped zero rest rest' x same = ap (λ es. count_in es x) (sym same)
count_skipped (suc n) [] rest' x none = absurd none
count_skipped (suc n) (e ∷ rest) rest' x skips = let later = count_skipped n rest rest' x skips.1 in grind arith

any_skipped : (n : ℕ) (rest rest' : List RoledEntry) (x : ℕ) → SkipsEmpty n rest rest' → any_in rest x ≡ any_in rest' x
any_skipped zero rest rest' x same = ap (λ es. any_in es x) (sym same)
any_skipped (suc n) [] rest' x none = absurd none
any_skipped (suc n) (e ∷ rest) rest' x skips = let later = any_skipped n rest rest' x skips.1 in grind arith

-- nothing that is found depends on them
pub record FindsSame (rest rest' : List RoledEntry) : Type 0 where
  pub counts : count_in rest ≡ count_in rest'
  pub names : any_in rest ≡ any_in rest'
  pub discovers : (kinds : List ℕ) (d : ℕ) → from_entries kinds d rest ≡ from_entries kinds d rest'

pub skipped_same : (n : ℕ) (rest rest' : List RoledEntry) → SkipsEmpty n rest rest' → FindsSame rest rest'
skipped_same n rest rest' skips = record {
  counts = fun_ext (λ x. count_skipped n rest rest' x skips);
  names = fun_ext (λ x. any_skipped n rest rest' x skips);
  discovers = λ kinds d. fun_ext (λ x. let same = any_skipped n rest rest' x skips in grind arith);
}

-- from the third entry on they are calm
calm_skipped : (s : CurrentDir) (reached : ℕ → Bool) (n i : ℕ) (rest rest' : List RoledEntry) →
    SkipsEmpty n rest rest' → 2 ≤ i → are_calm s reached i rest ≡ are_calm s reached (i + n) rest'
calm_skipped s reached zero i rest rest' same later = let next : i + zero ≡ i = omega arith in grind arith
calm_skipped s reached (suc n) i [] rest' none later = absurd none
calm_skipped s reached (suc n) i (e ∷ rest) rest' skips later =
    let same : reached_after s.kinds reached e ≡ reached = fun_ext (λ x. let empty = skips.0 in grind arith) in
    let after = calm_skipped s reached n (suc i) rest rest' skips.1 (omega (arith, later)) in
    let next : suc i + n ≡ i + suc n = omega arith in
    let empty = skips.0 in
    grind arith

-- so the step of the loop over a directory passes over an empty entry and those that come next
calm_late : {total : Bool} (late calm : Bool) (s : CurrentDir) (reached : ℕ → Bool) (n i : ℕ) (e : RoledEntry)
    (rest rest' : List RoledEntry) → late ≡ nat_le 2 i → SkipsEmpty (suc n) (e ∷ rest) rest' →
    (calm && are_calm s reached i (e ∷ rest)) ≡ total → ((calm && late) && are_calm s reached (i + suc n) rest') ≡ total
calm_late true calm s reached n i e rest rest' is skips whole =
    let late : 2 ≤ i = grind (arith, nat_tests) in
    let skipped = calm_skipped s reached (suc n) i (e ∷ rest) rest' skips late in
    grind arith
calm_late false calm s reached n i e rest rest' is skips whole = let empty = skips.0 in grind arith

pub calm_over : {total : Bool} (calm : Bool) (s : CurrentDir) (reached : ℕ → Bool) (n i : ℕ) (e : RoledEntry)
    (rest rest' : List RoledEntry) → e.role ≡ Empty → SkipsEmpty n rest rest' →
    (calm && are_calm s reached i (e ∷ rest)) ≡ total →
    ((calm && nat_le 2 i) && are_calm s reached (i + (1 + n)) rest') ≡ total
calm_over calm s reached n i e rest rest' empty skips whole =
    let next : i + (1 + n) ≡ i + suc n = omega arith in
    rw next (calm_late (nat_le 2 i) calm s reached n i e rest rest' refl (empty, skips) whole)
