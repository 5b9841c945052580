-- What is wrong with a directory before its entries, in the program and in the definitions.
use Rattle.std.{proofs.Common.{◌≡◌, refl, List, ℕ}, specs.Borrow.Bor}
use Rattle.ffs_volume.specs.declared.verdict.{HeaderDefects.HeaderDefects, DotDefects.{DotDefects, TheVariants.Missing}}
use Rattle.ffs_volume.specs.declared.verdict.DotDefects.TheVariants.{Other, Found}
use Rattle.ffs_volume.specs.Directories.PathnameCheck.{is_dot_silent, is_header_silent}
use Rattle.ffs_pathnames.specs.HeaderValues.{dot_value, defects_value}

dot_value_silent : (n : DotDefects (Bor (List ℕ))) → is_dot_silent (dot_value n) ≡ is_dot_silent n
dot_value_silent Missing = refl
dot_value_silent (Other name) = refl
dot_value_silent (Found wrong_number wrong_type) = refl

pub header_value_silent : (n : HeaderDefects (Bor (List ℕ))) → is_header_silent (defects_value n) ≡ is_header_silent n
header_value_silent n = rw (dot_value_silent n.dot, dot_value_silent n.dotdot) refl
