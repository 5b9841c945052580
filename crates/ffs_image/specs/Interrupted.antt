-- Calls of a system that a signal may interrupt, and which of them are tried again. `was_asked`
-- says that a file or a writer was asked: what it was before, the answer, and what it was after.
use Rattle.std.specs.{Prelude.{◌≡◌, ◌⊎◌, ◌-◌, ◌^◌, ℕ, zero, suc, Result, IsErr, IsErrAnd}, declared.io.Error.Error}
use Rattle.std.specs.{declared.io.ErrorKind.TheVariants.Interrupted, IoError.error_kind}

-- a signal interrupted the call that has this answer
abbrev pub IsInterrupted : Result ℕ Error → Type 0
IsInterrupted answer = IsErrAnd answer (λ error. error_kind error ≡ Interrupted)

-- one call was interrupted
pub record InterruptedOnce {F : Type 0} (was_asked : F → Result ℕ Error → F → Type 0) (old new : F) : Type 0 where
  pub answer : Result ℕ Error
  pub asked : was_asked old answer new
  pub interrupted : IsInterrupted answer

-- so many calls, one after another, were interrupted
abbrev pub Interruptions : {F : Type 0} → (F → Result ℕ Error → F → Type 0) → ℕ → (old new : F) → Type 0
Interruptions was_asked zero old new = new ≡ old
Interruptions {F} was_asked (suc n) old new =
    (between : F) × Interruptions was_asked n old between × InterruptedOnce was_asked between new

-- a call had this answer, after so many calls that were interrupted; this one wasn't
pub record IsAnswered {F : Type 0} (was_asked : F → Result ℕ Error → F → Type 0) (old new : F)
    (answer : Result ℕ Error) : Type 0 where
  pub tries : ℕ
  pub between : F
  pub before : Interruptions was_asked tries old between
  pub asked : was_asked between answer new
  pub stands : IsInterrupted answer → ⊥

-- the answer of the same call, tried again only where a signal interrupted it, u64::MAX times at most
abbrev pub IsTriedAgain : {F : Type 0} → (F → Result ℕ Error → F → Type 0) → (old new : F) → Result ℕ Error → Type 0
IsTriedAgain was_asked old new answer =
    IsAnswered was_asked old new answer ⊎ (Interruptions was_asked (2 ^ 64 - 1) old new × IsErr answer)
