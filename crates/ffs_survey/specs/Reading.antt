-- An entry as a reader hands it out, and what a call leaves of a reader.
use Rattle.std.specs.Prelude.{◌≡◌, ℕ, zero, suc, List, [], ◌∷◌, Result}
use Rattle.ffs_image.specs.{Device.Device, Reads.ReadAfter, declared.image.ImageFault.ImageFault}
use Rattle.ffs_volume.specs.{declared.Role.TheVariants.Empty, Directories.Roles.RoledEntry}
use Rattle.ffs_survey.specs.declared.entry_head.EntryHead.{EntryHead}

-- the entry with its name
abbrev pub roled_of : EntryHead → List ℕ → RoledEntry
roled_of e name = record {
  role = e.role;
  entry = record { number = e.number; length = e.length; kind = e.kind; name = name };
}

-- the reader is ready for the next call, over the same base, and the call only read the image
pub record LeavesReader {B T : Type 0} (ready : Type 0) (base base' : B) (device device' : Device)
    (result : Result T ImageFault) : Type 0 where
  pub is_ready : ready
  pub same : base' ≡ base
  pub read : ReadAfter device device' result

-- so many entries were passed over, which are empty; the others are to come
abbrev pub SkipsEmpty : ℕ → (rest rest' : List RoledEntry) → Type 0
SkipsEmpty zero rest rest' = rest' ≡ rest
SkipsEmpty (suc n) [] rest' = ⊥
SkipsEmpty (suc n) (e ∷ rest) rest' = (e.role ≡ Empty) × SkipsEmpty n rest rest'
