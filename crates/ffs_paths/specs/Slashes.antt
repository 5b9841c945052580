-- Names and the `/` that each of them has before it.
use Rattle.std.specs.Prelude.{◌≡◌, ℕ, ◌+◌, ◌<◌, ◌≤◌, ◌==◌, Bool, false, if◌then◌else◌, List, [], ◌∷◌, ◌++◌, length, drop, min}
use Rattle.std.specs.List.{AllByRecursion, list_any}
use Rattle.ffs_volume.specs.declared.constants.TheConstants.{MAXPATHLEN}

abbrev pub has_slash : List ℕ → Bool
has_slash name = list_any (λ b. b == 47) name

-- no name has a `/`
abbrev pub HaveNoSlash : List (List ℕ) → Type 0
HaveNoSlash names = AllByRecursion (λ name. has_slash name ≡ false) names

-- what is from the first `/` on
abbrev pub from_slash : List ℕ → List ℕ
from_slash [] = []
from_slash (x ∷ xs) = if x == 47 then x ∷ xs else from_slash xs

-- the first `/` of a path's bytes from a place on is at `at`, which is their end where none is there
pub record IsFirstSlash (bytes : List ℕ) (place at : ℕ) : Type 0 where
  pub first : drop at bytes ≡ from_slash (drop place bytes)
  pub from : min place MAXPATHLEN ≤ at
  pub within : at ≤ MAXPATHLEN

-- a `/` and a name have room beside what is from `end` on
pub record FitsBefore (end : ℕ) (name : List ℕ) : Type 0 where
  pub within : end ≤ MAXPATHLEN
  pub room : length name < end

-- a `/` and a name are put before what is from `end` on, and begin at `start`
pub record PutsBefore (old : List ℕ) (end : ℕ) (name new : List ℕ) (start : ℕ) : Type 0 where
  pub start_is : start + length name + 1 ≡ end
  pub len : length new ≡ MAXPATHLEN
  pub bytes : drop start new ≡ 47 ∷ name ++ drop end old
  pub following : (k : ℕ) → end ≤ k → drop k new ≡ drop k old
