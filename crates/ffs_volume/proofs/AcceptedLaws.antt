-- Laws of `specs/Laws/Accepted`.
use Rattle.std.proofs.Common.{◌≡◌, ℕ, Bool, List, length, Option, None, Ok, arith}
use Rattle.ffs_volume.{proofs.GeometryLaws.geometry_holds, specs.Disk.Outcome.{super_bytes, super_verdict, outcome_in}}
use Rattle.ffs_volume.specs.Disk.{Outcome.{outcome_of, outcome}, Superblock.{Superblock, superblock_of, order_of}}
use Rattle.ffs_volume.specs.{Laws.Accepted.{FitsImage, AcceptedFit}, declared.{Order.Order, SuperFault.SuperFault}}

super_verdict-ok : (fault : Option SuperFault) (agrees : Bool) (super s : Superblock) → super_verdict fault agrees super ≡ Ok s
    → (fault ≡ None) × (super ≡ s)
unfolding super_verdict
super_verdict-ok fault agrees super s e = grind arith

super_layout : (image : List ℕ) (sector : Option ℕ) (bytes : List ℕ) (order : Option Order) (s : Superblock) →
    outcome_of image sector bytes order ≡ Ok s → FitsImage s.layout (length image)
unfolding outcome_of outcome_in superblock_of
super_layout image sector bytes order s e = grind (arith, super_verdict-ok, geometry_holds)

pub accepted_sound : AcceptedFit
unfolding outcome
accepted_sound image sector s e =
    let laid = super_layout image sector (super_bytes image sector) (order_of (super_bytes image sector)) s in
    grind arith
