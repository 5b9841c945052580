-- What is not reached, and what is lost.
use Rattle.std.proofs.{Common.{◌≡◌, ◌≢◌, ℕ, Bool, true, false, None, ne_eqb, arith}, lemmas.Bool.Decides.nat_tests}
use Rattle.ffs_volume.{proofs.SearchLaws.is_some-none, specs.{Disk.Search.first_below, Directories.Graph.Graph}}
use Rattle.ffs_volume.specs.Directories.{Graph.{level, edge, reached, parent}, Connectivity.{is_lost_in, is_dead_in}}

pub edge-parts : (v : Graph) (s d : ℕ) → edge v s d ≡ true → (v.is_dir d ≡ true) × (v.is_dir s ≡ true)
edge-parts v s d h = grind arith

-- what makes a directory lost
pub record IsLost (v : Graph) (suspect : ℕ → Bool) (d : ℕ) : Type 0 where
  pub dir : v.is_dir d ≡ true
  pub not_root : d ≢ 2
  pub unreached : reached v d ≡ false
  pub alive : is_dead_in v suspect d ≡ false

pub lost-true : (v : Graph) (suspect : ℕ → Bool) (d : ℕ) → is_lost_in v suspect d ≡ true → IsLost v suspect d
lost-true v suspect d h = grind (arith, nat_tests)

pub unreached-level : (v : Graph) (d : ℕ) → reached v d ≡ false → level v d ≡ None
unreached-level v d h = is_some-none (level v d) h

-- the parent of an unreached directory is the least with an edge to it
pub parent-unreached : (v : Graph) (d : ℕ) → d ≢ 2 → reached v d ≡ false →
    parent v d ≡ first_below (λ s. edge v s d) v.count
unfolding parent
parent-unreached v d n h = rw (ne_eqb d 2 n, unreached-level v d h)
