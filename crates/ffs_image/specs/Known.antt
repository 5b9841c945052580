-- What is known of an image's bytes, and what holds of them where it is.
use Rattle.std.specs.Prelude.{◌≡◌, ℕ, List, Option, Some}

-- an image with these contents gives these bytes
abbrev pub IsContents : Option (List ℕ) → List ℕ → Type 0
IsContents contents bytes = contents ≡ Some bytes

-- P holds of each list of bytes that is known to be an image's
abbrev pub ForBytes : (List ℕ → Type 0) → (List ℕ → Type 0) → Type 0
ForBytes knows P = (bytes : List ℕ) → knows bytes → P bytes
