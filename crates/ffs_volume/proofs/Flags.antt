-- Flags of fragments that are set, one by one.
use Rattle.std.proofs.Common.{◌≡◌, ℕ, Bool, true, false, List, arith, replicate, slice_set}
use Rattle.std.proofs.lemmas.{Bool.{cases_eq, cases_lt}, List.{get_or-replicate, get_or-set_other, get_or-set_same}}
use Rattle.std.proofs.lemmas.List.{get_or_past, length-replicate}
use Rattle.ffs_volume.specs.Blocks.Claims.{is_set}

-- none of unset flags is set
pub unset : (n f : ℕ) → is_set (replicate n false) f ≡ false
unset n f = grind (arith, get_or-replicate, get_or_past, length-replicate)

-- a flag that is set stays so where another is set
pub set_kept : (bits : List Bool) (g f : ℕ) → is_set bits f ≡ true → is_set (slice_set bits g true) f ≡ true
set_kept bits g f h = grind (arith, cases_eq, cases_lt, get_or-set_same, get_or_past, get_or-set_other)
