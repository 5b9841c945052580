-- What a part that read through a limited image leaves of the image below it.
use Rattle.std.{specs.Borrow.GName, proofs.Common.{◌≡◌, ◌≤◌, ◌+◌, ℕ, Bool, true, false, Result, Ok, Err, arith}}
use Rattle.ffs_image.specs.{declared.image.ImageFault.ImageFault, Device.Device, Reads.ReadAfter}
use Rattle.ffs_image.specs.Limited.{GivesBack, GivesBackLent, lent_at, limited_device}

-- an image that was only read is over the same images, and gives the same bytes
pub record StaysOver (old new : Device) : Type 0 where
  pub lent : new.lent ≡ old.lent
  pub contents : new.contents ≡ old.contents
  pub size : new.size ≡ old.size

pub read_over : {T : Type 0} (old new : Device) (r : Result T ImageFault) → ReadAfter old new r → StaysOver old new
read_over old new (Ok x) h = grind arith
read_over old new (Err fault) h = record { lent = h.lent; contents = h.contents; size = h.size }

-- what a part that read a limited image leaves of the image below: its reads, and its answer's
-- meaning, where none was refused
pub record ServedBy {T : Type 0} (lent below : Device) (name_lent name : GName) (reads reads' limit asked : ℕ)
    (spent : Bool) (r : Result T ImageFault) : Type 0 where
  pub same_image : name_lent ≡ name
  pub contents : below.contents ≡ lent.contents
  pub size : below.size ≡ lent.size
  pub most : reads' ≤ reads + limit
  pub as_asked : reads' ≤ reads + asked
  pub few : asked ≤ limit → spent ≡ false
  pub refused : spent ≡ true → below ≡ lent
  pub read : spent ≡ false → ReadAfter lent below r

served_back : {T : Type 0} {lent below : Device} {name_lent name : GName} {reads reads' limit left asked : ℕ} {s : Bool}
    {above' : Device} (r : Result T ImageFault) → ReadAfter (limited_device lent name_lent reads limit) above' r →
    GivesBack (lent_at lent name_lent reads limit) (lent_at below name reads' left) asked s above' →
    ServedBy lent below name_lent name reads reads' limit asked s r
served_back r h g = grind arith

-- the contract of the part, with the clause of the limited image on what is below
pub served : {T : Type 0} {lent below : Device} {name_lent name : GName} {reads reads' limit left asked : ℕ} {s : Bool}
    {above' : Device} {r : Result T ImageFault} →
    ReadAfter (limited_device lent name_lent reads limit) above' r →
    GivesBackLent (lent_at below name reads' left) asked s above' →
    ServedBy lent below name_lent name reads reads' limit asked s r
served {lent = lent} {name_lent = name_lent} {reads = reads} {limit = limit} {above' = above'} {r = r} h back =
    let over = read_over (limited_device lent name_lent reads limit) above' r h in
    served_back r h (back (lent_at lent name_lent reads limit) over.lent over.contents over.size)
