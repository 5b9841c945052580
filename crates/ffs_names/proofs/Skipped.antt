-- Empty entries that are passed over, one after another.
use Rattle.std.proofs.Common.{◌≡◌, ℕ, zero, suc, Bool, List, [], ◌∷◌, refl, arith}
use Rattle.ffs_volume.specs.{Directories.{Entries.Entry, Roles.{RoledEntry, role_of}}, declared.Role.TheVariants.Empty}
use Rattle.ffs_survey.specs.Reading.{SkipsEmpty}

-- one more is passed over
skips_next : (n : ℕ) (whole : List RoledEntry) (e : RoledEntry) (rest : List RoledEntry) →
    SkipsEmpty n whole (e ∷ rest) → e.role ≡ Empty → SkipsEmpty (suc n) whole rest
skips_next zero whole e rest same empty = rw (← same) (empty, refl)
skips_next (suc n) [] e rest none empty = absurd none
skips_next (suc n) (first ∷ whole) e rest skips empty = (skips.0, skips_next n whole e rest skips.1 empty)

pub skips_more : (n : ℕ) (whole : List RoledEntry) {after rest : List RoledEntry} {e : RoledEntry} → after ≡ e ∷ rest →
    SkipsEmpty n whole after → e.role ≡ Empty → SkipsEmpty (suc n) whole rest
skips_more n whole {rest = rest} {e = e} is skips empty = skips_next n whole e rest (rw is at skips) empty

-- an entry with the number 0 is empty
pub empty_role : (first : Bool) (index : ℕ) (e : Entry) → e.number ≡ 0 → Empty ≡ role_of first index e
unfolding role_of
empty_role first index e none = grind arith
