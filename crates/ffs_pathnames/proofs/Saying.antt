-- Messages on directories, said one after another.
use Rattle.std.proofs.{Common.{List, ◌++◌, map, Result, Ok, Err, IsErr}, lemmas.List.map-append}
use Rattle.ffs_volume.specs.Messages.Kinds.{TreeMessage, of_tree}
use Rattle.ffs_report.{specs.Progress.{Progress, Said, Stopped}, proofs.Reports.{stopped_more, says_then}}
use Rattle.ffs_pathnames.specs.SaysTreeMessages.{SaysTreeMessages}

pub names_then : {T E : Type 0} (a b c : Progress) (xs ys : List TreeMessage) (r : Result T E) →
    Said a b (map of_tree xs) → SaysTreeMessages b c ys r → SaysTreeMessages a c (xs ++ ys) r
names_then a b c xs ys r p q = rw (map-append of_tree xs ys) (says_then a b c _ (map of_tree ys) r p q)

-- the first of two parts stopped, and the answer is passed on
pub first_stops : {T : Type 0} {E : Type 0} (a b : Progress) (xs ys : List TreeMessage) (r : Result T E) → IsErr r →
    Stopped a b (map of_tree xs) → SaysTreeMessages a b (xs ++ ys) r
first_stops a b xs ys (Err e) h p = rw (map-append of_tree xs ys) (stopped_more a b _ (map of_tree ys) p)
first_stops a b xs ys (Ok x) h p = absurd (cc)
