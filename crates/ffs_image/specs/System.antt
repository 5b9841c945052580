-- What was asked of a system and of its files, and with which answers.
use Rattle.std.specs.Prelude.{◌≡◌, ◌⊎◌, ℕ, Bool, true, false, List, Result, Ok, Err, Option, None, Some, IfSome}
use Rattle.std.specs.{Prelude.{MatchResult, ⊤, refl}, declared.io.Error.Error}
use Rattle.ffs_image.specs.{Device.ForContents, Interrupted.IsTriedAgain, declared.opened.OpenedFile.OpenedFile}
use Rattle.ffs_image.specs.declared.system.System as system
use Rattle.ffs_image.specs.declared.system.RawFile as rawfile

-- what a read gives of some of the bytes at a place: how many it gave, or a fault where it failed
-- or gave none
pub record SomeOf {F E : Type 0} (was_read : F → Result ℕ Error → F → Type 0) (old new : F) (result : Result ℕ E)
    : Type 0 where
  pub answer : Result ℕ Error
  pub tried : IsTriedAgain was_read old new answer
  pub result_is : MatchResult result (λ n. answer ≡ Ok n) (λ _. MatchResult answer (λ n. n ≡ 0) (λ _. ⊤))

-- a name was looked up and is no FIFO, the file of this name was opened, which is all that was asked of the
-- system, and the file gave its size
pub record IsOpened {S F : Type 0} {R : rawfile.Ghosts F} (Y : system.Ghosts S F) (old new : S) (name : List ℕ)
    (opened : OpenedFile F R) : Type 0 where
  pub between : S
  pub no_fifo : Y.was_looked_up old name (Ok false) between
  pub first : F
  pub opened_as : Y.was_opened between name (Ok first) new
  pub sized : R.was_sought first (Ok opened.size) opened.file

-- a name is that of a FIFO, or can't be looked up, and nothing else is asked
pub record IsPassedOver {Y : Type 0} (was_looked_up : Y → List ℕ → Result Bool Error → Y → Type 0) (old new : Y)
    (name : List ℕ) : Type 0 where
  pub answer : Result Bool Error
  pub looked_up : was_looked_up old name answer new
  pub why : MatchResult answer (λ fifo. fifo ≡ true) (λ _. ⊤)

-- the file of a name that is no FIFO can't be opened
pub record IsUnopened {Y F : Type 0} (was_looked_up : Y → List ℕ → Result Bool Error → Y → Type 0)
    (was_opened : Y → List ℕ → Result F Error → Y → Type 0) (old new : Y) (name : List ℕ) : Type 0 where
  pub between : Y
  pub no_fifo : was_looked_up old name (Ok false) between
  pub error : Error
  pub unopened : was_opened between name (Err error) new

-- the file of a name that is no FIFO was opened, and doesn't give its size
pub record IsUnsized {Y F : Type 0} (was_looked_up : Y → List ℕ → Result Bool Error → Y → Type 0)
    (was_opened : Y → List ℕ → Result F Error → Y → Type 0) (was_sought : F → Result ℕ Error → F → Type 0)
    (old new : Y) (name : List ℕ) : Type 0 where
  pub between : Y
  pub no_fifo : was_looked_up old name (Ok false) between
  pub first : F
  pub opened : was_opened between name (Ok first) new
  pub last : F
  pub error : Error
  pub unsized : was_sought first (Err error) last

-- no image of a name is opened: it is a FIFO or can't be looked up, or its opening failed, or the file
-- doesn't give its size
abbrev pub OpenFails : {Y F : Type 0} → (Y → List ℕ → Result Bool Error → Y → Type 0) → (Y → List ℕ → Result F Error → Y →
    Type 0) → (F → Result ℕ Error → F → Type 0) → (old new : Y) → List ℕ → Type 0
OpenFails was_looked_up was_opened was_sought old new name =
    IsPassedOver was_looked_up old new name
    ⊎ (IsUnopened was_looked_up was_opened old new name
    ⊎ IsUnsized was_looked_up was_opened was_sought old new name)

-- (for the law of a source) what holds by `ForContents` of the bytes of an image holds of them by
-- `IfSome` too
pub if_given : (contents : Option (List ℕ)) (P : List ℕ → Type 0) → ForContents contents P → IfSome contents P
if_given None P h = tt
if_given (Some bytes) P h = h bytes refl
