-- What the writers around another one leave.
use Rattle.std.specs.Prelude.{◌≡◌, ℕ, ◌+◌, ◌<◌, ◌↔◌, true, List, length, take, Option, Some, Result, Ok, IsErr, IsErrAnd}
use Rattle.std.specs.{Prelude.MatchResult, Bool.{OnTrue, OnFalse}, Borrow.GName, declared.io.Error.Error}
use Rattle.std.specs.{IoError.error_kind, declared.io.ErrorKind.TheVariants.{BrokenPipe, Other}}
use Rattle.ffs_report.specs.{Outlet.IsReported, Sink.{Sink, Puts}, declared.muted.MutedWriter.MutedWriter}
use Rattle.ffs_report.specs.declared.{counted.Counted.Counted, fuse.FuseWriter.FuseWriter, outlet.Outlet.Ghosts}

-- an output holds the reference of this name to the writer, and no put has failed yet
pub record IsUnfailedOver {S : Type 0} {I : Ghosts S} (name : GName) (writer : S) (out : Counted S I) : Type 0 where
  pub same_reference : out.inner.ghost_name ≡ name
  pub inner : out.inner.now ≡ writer
  pub failures : out.failures ≡ 0

-- what contracts know of an output over a writer: it took what the writer holds
abbrev pub counted_sink : {S : Type 0} {I : Ghosts S} → (S → Option (List ℕ)) → Counted S I → Sink
counted_sink contents c =
    record { taken = contents c.inner.now; failures = c.failures; holds = Some c.inner.ghost_name }

-- a put of a piece that has bytes is one write, whose answer it reports: so much of the piece was taken
pub record PutsOnce {S E : Type 0} {I : Ghosts S} (contents : S → Option (List ℕ))
    (was_written : S → List ℕ → Result ℕ Error → S → Type 0) (old new : Counted S I) (piece : List ℕ)
    (result : Result ℕ E) : Type 0 where
  pub some : 0 < length piece
  pub puts : Puts (counted_sink contents old) (counted_sink contents new) piece result
  pub answer : Result ℕ Error
  pub written : was_written old.inner.now piece answer new.inner.now
  pub reported : IsReported answer result

-- a call of a writer that is muted by a failure: it has failed from then on just where its answer
-- is an error. Once it has failed, it and the writer below are untouched, and the error is
-- `BrokenPipe`, after which no buffer tries again, as it does after `Interrupted`; before, `was_asked`
-- holds of that one
pub record IsMuted {S T : Type 0} (was_asked : S → Result T Error → S → Type 0) (old : MutedWriter S)
    (result : Result T Error) (new : MutedWriter S) : Type 0 where
  pub failed : IsErr result ↔ (new.failed ≡ true)
  pub muted : OnTrue old.failed (new ≡ old)
  pub final : OnTrue old.failed (IsErrAnd result (λ error. error_kind error ≡ BrokenPipe))
  pub passed : OnFalse old.failed (was_asked old.inner result new.inner)

-- of a write that isn't empty the writer below is asked for as many bytes as the fuse has left, and
-- what it took burns; with nothing left such a write is an error, after which no writer tries again,
-- and no writer is asked. An empty write takes nothing, and asks none either
pub record BurnsAtWrite {S : Type 0} (was_written : S → List ℕ → Result ℕ Error → S → Type 0) (old : FuseWriter S)
    (bytes : List ℕ) (result : Result ℕ Error) (new : FuseWriter S) : Type 0 where
  pub left : MatchResult result (λ n. new.left + n ≡ old.left) (λ _. new.left ≡ old.left)
  pub blown : old.left ≡ 0 → 0 < length bytes → IsErrAnd result (λ error. error_kind error ≡ Other)
  pub empty : length bytes ≡ 0 → (result ≡ Ok 0) × (new ≡ old)
  pub shut : old.left ≡ 0 → new ≡ old
  pub passed : 0 < length bytes → 0 < old.left → was_written old.inner (take old.left bytes) result new.inner

-- a flush is passed on, and burns nothing of a fuse
pub record PassesFlush {S : Type 0} (was_flushed : S → Result (Unit {0}) Error → S → Type 0) (old : FuseWriter S)
    (result : Result (Unit {0}) Error) (new : FuseWriter S) : Type 0 where
  pub flushed : was_flushed old.inner result new.inner
  pub left : new.left ≡ old.left
