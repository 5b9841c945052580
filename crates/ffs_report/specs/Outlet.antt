-- How a writer below is asked, and what its answers are.
use Rattle.std.specs.Prelude.{◌≡◌, ◌⊎◌, ◌<◌, ◌==◌, ◌&&◌, ℕ, Bool, false, nat_lt, List, length, Option, Result, Ok, Err}
use Rattle.std.specs.{Prelude.{MatchResult, IsErrAnd}, Bool.{OnTrue, OnFalse}, declared.io.Error.Error}
use Rattle.std.specs.{Io.{WritesAtMost, KnownBytes.{Keeps, WriteAppends}}, IoError.error_kind}
use Rattle.std.specs.declared.io.ErrorKind.TheVariants.{WriteZero}
use Rattle.ffs_image.specs.Interrupted.{IsTriedAgain}

-- a writer answers a write: it took some bytes of the piece, from the first on, as many as it
-- answers and none at an error, and `was_asked` holds of how it was asked
pub record AnswersWrite {S : Type 0} (contents : S → Option (List ℕ))
    (was_asked : S → List ℕ → Result ℕ Error → S → Type 0) (old new : S) (piece : List ℕ) (result : Result ℕ Error) :
    Type 0 where
  pub bound : WritesAtMost result piece
  pub bytes : WriteAppends (contents old) (contents new) result piece
  pub asked : was_asked old piece result new

-- a writer answers a flush: its bytes stay, and `was_asked` holds of how it was asked
pub record AnswersFlush {S : Type 0} (contents : S → Option (List ℕ))
    (was_asked : S → Result (Unit {0}) Error → S → Type 0) (old new : S) (result : Result (Unit {0}) Error) : Type 0
  where
    pub bytes : Keeps (contents old) (contents new)
    pub asked : was_asked old result new

-- what is reported of a writer's answer: how many bytes it took, or a fault where it took none
abbrev pub IsReported : {E : Type 0} → Result ℕ Error → Result ℕ E → Type 0
IsReported answer result =
    MatchResult result (λ n. answer ≡ Ok n) (λ _. MatchResult answer (λ n. n ≡ 0) (λ _. Unit {0}))

-- some write to a writer failed: it answered an error, or took nothing of a piece that has bytes
pub record WriteFailed {S : Type 0} (was_written : S → List ℕ → Result ℕ Error → S → Type 0) : Type 0 where
  pub old : S
  pub piece : List ℕ
  pub answer : Result ℕ Error
  pub new : S
  pub some : 0 < length piece
  pub written : was_written old piece answer new
  pub nothing : MatchResult answer (λ n. n ≡ 0) (λ _. Unit {0})

-- a write to a writer failed, and left it as it is now
pub record LastWriteFailed {S : Type 0} (was_written : S → List ℕ → Result ℕ Error → S → Type 0) (now : S) : Type 0
  where
    pub write : WriteFailed was_written
    pub last : now ≡ write.new

-- so many puts failed: none, or some write failed
abbrev pub IsCaused : {S : Type 0} → (S → List ℕ → Result ℕ Error → S → Type 0) → ℕ → Type 0
IsCaused was_written failures = (failures ≡ 0) ⊎ WriteFailed was_written

-- a writer took nothing of a piece that has bytes
abbrev pub took_none : List ℕ → Result ℕ Error → Bool
took_none piece (Ok n) = nat_lt 0 (length piece) && n == 0
took_none piece (Err error) = false

-- one write of a piece, and another only where a signal interrupted the one before: the last one's
-- answer is returned, but one that took nothing of a piece with bytes is the error `WriteZero`
pub record WritesThrough {S : Type 0} (was_written : S → List ℕ → Result ℕ Error → S → Type 0) (piece : List ℕ)
    (old : S) (result : Result ℕ Error) (new : S) : Type 0 where
  pub answer : Result ℕ Error
  pub tried : IsTriedAgain (λ writer. was_written writer piece) old new answer
  pub returned : OnFalse (took_none piece answer) (result ≡ answer)
  pub nothing : OnTrue (took_none piece answer) (IsErrAnd result (λ error. error_kind error ≡ WriteZero))
