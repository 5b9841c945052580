-- What reading the next chunk of a directory gives, takes and leaves. No more than the reads that are
-- left are made for it.
use Rattle.std.specs.Prelude.{◌≡◌, ◌+◌, ◌≤◌, ℕ, IfOk, List, Option, IfSome, Result}
use Rattle.ffs_image.specs.{Device.ForContents, Reads.ReadAfter, declared.image.ImageFault.ImageFault}
use Rattle.ffs_names.specs.{Costs.{to_read, HoldsReading}, Readings.{rest, GivesChunk}, Windows.CanReadChunks}
use Rattle.ffs_survey.specs.Costs.{TakesReads}
use Rattle.ffs_pathnames.specs.{Moments.SecondReadingMoment, ReadsLeft.TakesLeft}

-- the answer is the next chunk by the image's bytes, where the reads that are left suffice, and a
-- chunk that comes is one less to come
pub record GivesNext (old new : SecondReadingMoment) (bytes : List ℕ) (answer : Option ℕ) : Type 0 where
  pub chunk : HoldsReading old.windows.blocks old.windows.current old.chunks
      → ForContents old.image.contents (λ b. to_read b old.chunks ≤ old.left
      → GivesChunk b (rest b) old.chunks new.chunks bytes answer)
  pub chunks_left : IfSome answer (λ _. new.chunks.chunks_left + 1 ≡ old.chunks.chunks_left)

-- the reads that it makes, and takes of those that are left
pub record TakesNext (old new : SecondReadingMoment) (result : Result (Option ℕ) ImageFault) : Type 0 where
  pub reads : HoldsReading old.windows.blocks old.windows.current old.chunks
      → ForContents old.image.contents (λ b. to_read b old.chunks ≤ old.left
      → TakesReads old.reads new.reads (to_read b old.chunks) (to_read b new.chunks)
      (HoldsReading new.windows.blocks new.windows.current new.chunks) result)
  pub spends : HoldsReading old.windows.blocks old.windows.current old.chunks
      → ForContents old.image.contents (λ b. to_read b old.chunks ≤ old.left
      → TakesLeft old.left new.left (to_read b old.chunks) (to_read b new.chunks) result)
  pub most : new.reads + new.left ≤ old.reads + old.left

-- the image, but for a read that failed, and windows that can be read into
pub record NextLeaves (old new : SecondReadingMoment) (result : Result (Option ℕ) ImageFault) : Type 0 where
  pub geometry : new.chunks.walk.geometry ≡ old.chunks.walk.geometry
  pub ready : CanReadChunks old.chunks.walk.geometry.layout new.image new.windows.blocks new.windows.current
  pub read : ReadAfter old.image new.image result
  pub others : new.windows ≡ record old.windows { blocks = new.windows.blocks; current = new.windows.current }

-- a reading of the next chunk gives it, or none, takes reads of those that are left, and leaves the other
-- windows as they were
pub record ReadsNext (old new : SecondReadingMoment) (bytes : List ℕ) (result : Result (Option ℕ) ImageFault) :
    Type 0 where
  pub chunk : IfOk result (GivesNext old new bytes)
  pub takes : TakesNext old new result
  pub leaves : NextLeaves old new result
