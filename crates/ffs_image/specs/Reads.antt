-- What a read gives of an image, and what a call leaves of it, by its answer.
use Rattle.std.specs.Prelude.{◌≡◌, ◌⊎◌, ℕ, ◌/◌, List, Result, Ok, Err, OnOk, IfErr}
use Rattle.ffs_image.specs.{Device.{Device, Faulted, IsAt}, declared.image.{ImageFault.ImageFault, TheConstants.DEV_BSIZE}}

-- a failed read is counted, with its sector, and no other answer touches the image
abbrev pub ReadAfter : {T : Type 0} → (old new : Device) → Result T ImageFault → Type 0
ReadAfter old new (Ok x) = new ≡ old
ReadAfter old new (Err fault) = Faulted old new fault.sector

-- an image was read once at most: for so many bytes at a place. `unfoldable`, so that callers' proofs look
-- inside only where they ask it
unfoldable pub ReadsAtMostOnce : {I : Type 0} → (was_read : I → ℕ → ℕ → I → Type 0) → (at size : ℕ) → (old new : I) → Type 0
ReadsAtMostOnce was_read at size old new = (new ≡ old) ⊎ was_read old at size new

-- the answer of a read at a place: these are the image's bytes there, or the read failed, which is
-- counted with the sector of the place
pub record ReadsBytes {T : Type 0} (old new : Device) (at : ℕ) (xs : List ℕ) (result : Result T ImageFault) :
    Type 0 where
  pub bytes : OnOk result (IsAt old at xs)
  pub ok : OnOk result (new ≡ old)
  pub err : IfErr result (λ fault. Faulted old new fault.sector)
  pub sector : IfErr result (λ fault. fault.sector ≡ at / DEV_BSIZE)
