-- What is gathered for a verdict suffices.
use Rattle.std.proofs.Common.{◌≡◌, refl, ℕ, true, List, arith}
use Rattle.ffs_volume.specs.{declared.Attr.Attr, Directories.{Roles.Volume, Naming.graph_of}}
use Rattle.ffs_volume.specs.declared.verdict.Verdict.{Verdict, TheVariants.{Whiteout, Unallocated, Named}}
use Rattle.ffs_volume.specs.Directories.{PathnameCheck.attributes, Paths.{dir_path, entry_path}}
use Rattle.ffs_pathnames.specs.Gathers.{IsEnough, asks_attr, asks_path}

pub enough : (vol : Volume) (verdict : Verdict) (dir number : ℕ) (name : List ℕ) (attr : Attr)
    (path directory : List ℕ) →
    (asks_attr verdict ≡ true → attr ≡ attributes vol number) → path ≡ entry_path (graph_of vol) dir name →
    (asks_path verdict ≡ true → directory ≡ dir_path (graph_of vol) number) →
    IsEnough vol verdict dir number name attr path directory
enough vol Whiteout dir number name attr path directory a p d = refl
enough vol Unallocated dir number name attr path directory a p d = rw (p, a refl) refl
enough vol (Named n) dir number name attr path directory a p d = grind arith
enough vol verdict dir number name attr path directory a p d = rw p refl
