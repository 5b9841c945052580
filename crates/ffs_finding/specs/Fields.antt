-- A field of the superblock as the program has it.
use Rattle.std.specs.{Prelude.{◌≡◌, ℕ, List, Option, Ok}, List.flat_map}
use Rattle.ffs_image.specs.{Device.Device, Known.IsContents}
use Rattle.ffs_volume.specs.Disk.{Superblock.Superblock, Outcome.outcome}
use Rattle.ffs_finding.specs.declared.fields.Field.{Field}
use Rattle.ffs_volume.specs.Find.Fields as book

-- a field of the program as one of the definitions
abbrev pub field_of : Field → book.Field
field_of f = record { name = f.name.now; place = f.place; has = f.has; wants = f.wants }

-- the lines of those of these fields that are wrong
abbrev pub wrong_lines : (start : ℕ) → List Field → List (List ℕ)
wrong_lines start fields = flat_map (λ f. book.field_lines start (field_of f)) fields

-- the image gives the bytes, and this superblock is accepted in them at a sector
abbrev pub WithSuper : Device → Option ℕ → Superblock → List ℕ → Type 0
WithSuper d sector s bytes = IsContents d.contents bytes × (outcome bytes sector ≡ Ok s)
