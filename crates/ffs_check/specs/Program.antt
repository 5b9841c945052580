-- What a program promises that works on one image, which its words name.
use Rattle.std.specs.Prelude.{ℕ, List}
use Rattle.ffs_check.specs.Moment.{Moment}

-- what the words after a program's name ask for, of the image of a name; by which texts they are refused;
-- that memory was refused while they were read; and how it is carried out on the image, by the moments before
-- that and after it, and the exit status
pub record Meaning (Request : Type 0) : Type 1 where
  pub asks : List (List ℕ) → (name : List ℕ) → Request → Type 0
  pub refuses : List (List ℕ) → (text : List ℕ) → Type 0
  pub lacks_memory : List (List ℕ) → Type 0
  pub carries_out : (name : List ℕ) → Request → (old new : Moment) → ℕ → Type 0
