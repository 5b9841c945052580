-- Each way in which an outcome comes about.
use Rattle.std.proofs.Common.{◌≡◌, ℕ, ◌+◌, ◌*◌, ◌<◌, ◌≤◌, true, false, List, length, Option, Some, None, Ok, Err, arith}
use Rattle.std.proofs.{Common.nat_lt, lemmas.Bool.Decides.nat_tests}
use Rattle.ffs_volume.specs.Disk.{Numbers.piece, Outcome.{super_sector, layout_fault, copy_agrees, super_verdict}}
use Rattle.ffs_volume.specs.Disk.{Outcome.{outcome_in, outcome_of, outcome}, Superblock.{order_of, layout_of}}
use Rattle.ffs_volume.specs.{Disk.Superblock.superblock_of, declared.{Layout.Layout, Order.Order}}
use Rattle.ffs_volume.specs.declared.SuperFault.{SuperFault, TheVariants.{CannotRead, Magic, Disagree}}

module _ (image : List ℕ) (sector : Option ℕ) where
  pub outcome_past_end : length image < super_sector sector * 512 + 1376 →
      outcome image sector ≡ Err (CannotRead (super_sector sector))
  unfolding outcome
  outcome_past_end h = let e : nat_lt (length image) (super_sector sector * 512 + 1376) ≡ true =
      grind (arith, nat_tests) in rw e

  module _ (bytes : List ℕ) (inside : super_sector sector * 512 + 1376 ≤ length image)
      (bytes_are : bytes ≡ piece (super_sector sector * 512) 1376 image) where
    read : outcome image sector ≡ outcome_of image sector bytes (order_of bytes)
    unfolding outcome
    read = let e : nat_lt (length image) (super_sector sector * 512 + 1376) ≡ false = grind (arith, nat_tests) in
        rw (e, bytes_are)

    pub outcome_magic : order_of bytes ≡ None → outcome image sector ≡ Err Magic
    unfolding outcome_of
    outcome_magic none = rw (read, none)

    module _ (order : Order) (order_is : order_of bytes ≡ Some order) where
      offer_verdict : outcome image sector ≡ super_verdict (layout_fault (layout_of order bytes) (length image))
          (copy_agrees image sector order bytes) (superblock_of order bytes)
      unfolding outcome_of outcome_in
      offer_verdict = rw (read, order_is)

      pub outcome_fault : (fault : SuperFault) → layout_fault (layout_of order bytes) (length image) ≡ Some fault →
          outcome image sector ≡ Err fault
      unfolding super_verdict
      outcome_fault fault e = rw (offer_verdict, e)

      pub outcome_disagree : layout_fault (layout_of order bytes) (length image) ≡ None →
          copy_agrees image sector order bytes ≡ false → outcome image sector ≡ Err Disagree
      unfolding super_verdict
      outcome_disagree e differs = rw (offer_verdict, e, differs)

      pub outcome_ok : layout_fault (layout_of order bytes) (length image) ≡ None → copy_agrees image sector order bytes
          ≡ true → outcome image sector ≡ Ok (superblock_of order bytes)
      unfolding super_verdict
      outcome_ok e agrees = rw (offer_verdict, e, agrees)

-- no layout shows that its superblock can't be read
pub no_read_fault : (v : Layout) (n at : ℕ) → layout_fault v n ≡ Some (CannotRead at) → ⊥
unfolding layout_fault
no_read_fault v n at e = grind arith
