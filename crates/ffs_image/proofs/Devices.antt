-- What devices give: their bytes, and faults of reads.
use Rattle.std.proofs.Common.{◌≡◌, ℕ, List, length, Option, Some, IfSome, refl}
use Rattle.ffs_image.specs.Device.{Device, Faulted}

-- their number is the device's size
pub reported_length : (contents : Option (List ℕ)) (size : ℕ) → IfSome contents (λ b. length b ≡ size) → (b : List ℕ) →
    contents ≡ Some b → length b ≡ size
reported_length contents size sized b e = rw e at sized

-- the fault of a read is in the sector that the device then gives
pub faulted_there : (old new : Device) (sector : ℕ) → Faulted old new sector → Faulted old new new.failed_sector
faulted_there old new sector f = record { contents = f.contents; size = f.size; lent = f.lent; failed_sector = refl; rose = f.rose }
