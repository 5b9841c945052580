-- The lists of a survey: each has an entry for every inode.
use Rattle.std.specs.Prelude.{◌≡◌, ℕ, ◌+◌, ◌<◌, ◌≤◌, ◌^◌, Bool, false, List, length}
use Rattle.ffs_survey.specs.{Survey.{bool_at, number_at}, Discover.Found}

-- the references of each inode and whether an entry names it: one more reference of x fits
pub record CountLists (kinds references : List ℕ) (named : List Bool) (x : ℕ) : Type 0 where
  pub references_long : length references ≡ length kinds
  pub named_long : length named ≡ length kinds
  pub room : x < length kinds → number_at references x + 1 < 2 ^ 64

-- no flag is set, unless `any` says so
abbrev pub NoneUnless : Bool → List Bool → Type 0
NoneUnless any flags = any ≡ false → (x : ℕ) → bool_at flags x ≡ false

-- all lists of a survey. There are more than two inodes, and fewer than 2^31
pub record AreLists (l : Found) : Type 0 where
  pub some : 2 < length l.kinds
  pub few : length l.kinds < 2 ^ 31
  pub marked_long : length l.marked ≡ length l.kinds
  pub references_long : length l.references ≡ length l.kinds
  pub named_long : length l.named ≡ length l.kinds
  pub reached_long : length l.reached ≡ length l.kinds
  pub parents_long : length l.parents ≡ length l.kinds
  pub calm_long : length l.calm ≡ length l.kinds
  pub queue_long : length l.queue ≡ length l.kinds

-- no reference count below n grew by more than `most`
abbrev pub GrowsBy : (n most : ℕ) → (old new : List ℕ) → Type 0
GrowsBy n most old new = (x : ℕ) → x < n → number_at new x ≤ number_at old x + most
