-- What a count of references says of an inode's links.
use Rattle.std.proofs.{Common.{◌≡◌, ℕ, ◌+◌, true, false, ℤ, arith, ◌==◌}, lemmas.Bool.Decides.nat_tests}
use Rattle.ffs_volume.specs.{Disk.Numbers.equals_natural, Encodings.Links.links_start}
use Rattle.ffs_volume.specs.declared.constants.TheConstants.{LINKS_MET}

-- each link has a reference, and there is one
pub record AreMet (links : ℤ) (references : ℕ) : Type 0 where
  pub same : equals_natural links references ≡ true
  pub some : (references == 0) ≡ false

-- where the count is that number, each link has its reference
pub links_met : (links : ℤ) (references : ℕ) → links_start links + references ≡ LINKS_MET → AreMet links references
links_met links r e = grind (arith, nat_tests)
