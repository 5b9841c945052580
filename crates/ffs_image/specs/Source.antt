-- What a source of an image's bytes gives, and what a read does to it.
use Rattle.std.specs.Prelude.{◌≡◌, ◌⊎◌, ◌+◌, ◌-◌, ◌<◌, ◌≤◌, ℕ, zero, suc, List, length, drop, take, Option, Result, Ok, Err}
use Rattle.std.specs.{Prelude.{OnOk, IfOk, IfSome, MatchResult}, Io.ReadsAtMost, declared.io.Error.Error}
use Rattle.ffs_image.specs.Device.{ForContents, Rose}

-- what contracts know of a source, as `Device` of an image, but for the last sector: its bytes
-- where it gives them, its size in bytes, and how many reads have failed
pub record SourceState : Type 0 where
  pub contents : Option (List ℕ)
  pub size : ℕ
  pub failures : ℕ

-- these are the bytes at a place, where a source reports its bytes
abbrev pub AreAt : Option (List ℕ) → ℕ → List ℕ → Type 0
AreAt contents at xs = ForContents contents (λ bytes. xs ≡ take (length xs) (drop at bytes))

-- what a failed read leaves: one more failure, and all else as it was
pub record IsFailed (old new : SourceState) : Type 0 where
  pub contents : new.contents ≡ old.contents
  pub size : new.size ≡ old.size
  pub rose : Rose old.failures new.failures

-- a failed read is counted, and no other answer touches the source
abbrev pub SourceAfter : {T E : Type 0} → (old new : SourceState) → Result T E → Type 0
SourceAfter old new (Ok x) = new ≡ old
SourceAfter old new (Err fault) = IsFailed old new

-- some read of a file failed: it answered an error, or gave nothing of bytes that were asked for
pub record ReadHasFailed {F : Type 0} (was_read : F → ℕ → ℕ → Result ℕ Error → F → Type 0) : Type 0 where
  pub old : F
  pub at : ℕ
  pub len : ℕ
  pub answer : Result ℕ Error
  pub new : F
  pub some : 0 < len
  pub read : was_read old at len answer new
  pub nothing : MatchResult answer (λ n. n ≡ 0) (λ _. Unit {0})

-- so many reads failed: none, or some read of a file did
abbrev pub IsReadCaused : {F : Type 0} → (F → ℕ → ℕ → Result ℕ Error → F → Type 0) → (failures : ℕ) → Type 0
IsReadCaused was_read failures = (failures ≡ 0) ⊎ ReadHasFailed was_read

-- a file was asked for its end: where it answers, that is how many bytes it has. Its bytes stay
pub record GivesEnd (old new : Option (List ℕ)) (result : Result ℕ Error) : Type 0 where
  pub bytes : IfSome old (λ b. IfOk result (λ n. length b ≡ n))
  pub kept : new ≡ old

-- a file was read: the answer is how many of these bytes are its bytes at a place, or that the read
-- failed. Its bytes stay
pub record GivesBytes (old new : Option (List ℕ)) (at : ℕ) (xs : List ℕ) (result : Result ℕ Error) : Type 0 where
  pub bound : ReadsAtMost result xs
  pub bytes : IfOk result (λ n. AreAt old at (take n xs))
  pub kept : new ≡ old

-- the answer of a read at a place: how many of these bytes are the source's there, at least one, or
-- the read failed
pub record GivesSome {E : Type 0} (old new : SourceState) (at : ℕ) (xs : List ℕ) (result : Result ℕ E) : Type 0 where
  pub some : IfOk result (λ n. (0 < n) × (n ≤ length xs))
  pub bytes : IfOk result (λ n. AreAt old.contents at (take n xs))
  pub left : SourceAfter old new result

-- the answer of a read of all bytes at a place: these are the source's there, or a read failed
pub record Fills {T E : Type 0} (old new : SourceState) (at : ℕ) (xs : List ℕ) (result : Result T E) : Type 0 where
  pub bytes : OnOk result (AreAt old.contents at xs)
  pub left : SourceAfter old new result

-- the first ones of len bytes at a place were read, by so many reads: each was of all bytes that were left
abbrev pub Pieces : {S E : Type 0} → (S → ℕ → ℕ → Result ℕ E → S → Type 0) → (at len count filled : ℕ) →
    (old new : S) → Type 0
Pieces was_read at len zero filled old new = (filled ≡ 0) × (new ≡ old)
Pieces {S} was_read at len (suc n) filled old new =
    (before : ℕ) × (some : ℕ) × (between : S) × Pieces was_read at len n before old between
    × was_read between (at + before) (len - before) (Ok some) new × (filled ≡ before + some)

-- the first ones of len bytes at a place were read, piece after piece
pub record IsReadTo {S E : Type 0} (was_read : S → ℕ → ℕ → Result ℕ E → S → Type 0) (at len filled : ℕ)
    (old new : S) : Type 0 where
  pub count : ℕ
  pub pieces : Pieces was_read at len count filled old new

-- after some of len bytes at a place the read of the others failed
pub record FailsAfter {S E : Type 0} (was_read : S → ℕ → ℕ → Result ℕ E → S → Type 0) (at len : ℕ)
    (old new : S) : Type 0 where
  pub filled : ℕ
  pub between : S
  pub before : IsReadTo was_read at len filled old between
  pub fault : E
  pub failed : was_read between (at + filled) (len - filled) (Err fault) new

-- all of len bytes at a place were asked for: they were read, or after some of them a read failed
abbrev pub IsAskedFor : {S E : Type 0} → (S → ℕ → ℕ → Result ℕ E → S → Type 0) → (at len : ℕ) → (old new : S) → Type 0
IsAskedFor was_read at len old new = IsReadTo was_read at len len old new ⊎ FailsAfter was_read at len old new

-- the reads of all of len bytes at a place: piece after piece, up to the first that failed, and no
-- other
abbrev pub ReadsThrough : {S E T F : Type 0} → (S → ℕ → ℕ → Result ℕ E → S → Type 0) → (old new : S) → (at len : ℕ) →
    Result T F → Type 0
ReadsThrough was_read old new at len result =
    MatchResult result (λ _. IsReadTo was_read at len len old new) (λ _. FailsAfter was_read at len old new)
