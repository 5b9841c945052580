-- The outcome, from what a read gives.
use Rattle.std.proofs.Common.{◌≡◌, ℕ, ◌+◌, ◌*◌, ◌<◌, ◌≤◌, true, false, List, length, Option, Some, None, Ok, Err, arith}
use Rattle.std.{proofs.Common.{sym, ◌∙◌, ap}, specs.Prelude.{take, drop}}
use Rattle.ffs_volume.specs.declared.{Order.Order, SuperFault.{SuperFault, TheVariants.{CannotRead, Magic, Disagree}}}
use Rattle.ffs_volume.specs.Disk.{Numbers.piece, Superblock.{order_of, layout_of, superblock_of}, Outcome.super_sector}
use Rattle.ffs_volume.{specs.Disk.Outcome.{layout_fault, copy_agrees, outcome}, proofs.OutcomeLaws.outcome_past_end}
use Rattle.ffs_volume.proofs.OutcomeLaws.{outcome_magic, outcome_fault, outcome_disagree, outcome_ok}

-- as many bytes as were asked for
pub taken : (at n : ℕ) (b xs : List ℕ) → length xs ≡ n → xs ≡ take (length xs) (drop at b) → xs ≡ piece at n b
taken at n b xs long is = is ∙ ap (λ count. take count (drop at b)) long

module _ (contents : Option (List ℕ)) (count : ℕ) (sector : Option ℕ) (start : ℕ)
    (long : (b : List ℕ) → contents ≡ Some b → length b ≡ count) (start_is : start ≡ super_sector sector) where
  pub past_end : count < start * 512 + 1376 → (b : List ℕ) → contents ≡ Some b →
      outcome b sector ≡ Err (CannotRead start)
  past_end h b e =
      let size = long b e in
      let short : length b < super_sector sector * 512 + 1376 = omega arith in
      outcome_past_end b sector short ∙ ap (λ (at : ℕ). Err (CannotRead at)) (sym start_is)

  module _ (bytes : List ℕ) (inside : start * 512 + 1376 ≤ count)
      (read : (b : List ℕ) → contents ≡ Some b → bytes ≡ piece (start * 512) 1376 b) where
    fits : (b : List ℕ) → contents ≡ Some b → super_sector sector * 512 + 1376 ≤ length b
    fits b e = let size = long b e in omega arith

    same : (b : List ℕ) → contents ≡ Some b → bytes ≡ piece (super_sector sector * 512) 1376 b
    same b e = rw start_is at (read b e)

    pub magic : order_of bytes ≡ None → (b : List ℕ) → contents ≡ Some b → outcome b sector ≡ Err Magic
    magic none b e = outcome_magic b sector bytes (fits b e) (same b e) none

    module _ (order : Order) (order_is : order_of bytes ≡ Some order) where
      pub fault : (f : SuperFault) → layout_fault (layout_of order bytes) count ≡ Some f → (b : List ℕ) →
          contents ≡ Some b → outcome b sector ≡ Err f
      fault f h b e = outcome_fault b sector bytes (fits b e) (same b e) order order_is f
          (ap (layout_fault (layout_of order bytes)) (long b e) ∙ h)

      module _ (good : layout_fault (layout_of order bytes) count ≡ None) where
        pub disagree : ((b : List ℕ) → contents ≡ Some b → copy_agrees b sector order bytes ≡ false) → (b : List ℕ) →
            contents ≡ Some b → outcome b sector ≡ Err Disagree
        disagree h b e = outcome_disagree b sector bytes (fits b e) (same b e) order order_is
            (ap (layout_fault (layout_of order bytes)) (long b e) ∙ good) (h b e)

        pub accepted : ((b : List ℕ) → contents ≡ Some b → copy_agrees b sector order bytes ≡ true) → (b : List ℕ) →
            contents ≡ Some b → outcome b sector ≡ Ok (superblock_of order bytes)
        accepted h b e = outcome_ok b sector bytes (fits b e) (same b e) order order_is
            (ap (layout_fault (layout_of order bytes)) (long b e) ∙ good) (h b e)
