-- The first two entries of a directory, and its parent, as they are found.
use Rattle.std.proofs.{lemmas.Bool.{Decides.nat_tests, and_parts, cond-false, cond-true}, Common.{◌≡◌, ◌≢◌, ap, refl, sym}}
use Rattle.std.proofs.Common.{◌∙◌, ℕ, ◌==◌, Bool, true, false, List, ◌∷◌, Option, None, Some, arith, ne_eqb, eq-eqb}
use Rattle.std.{proofs.Math.Nat.zero-add, specs.Option.unwrap_or}
use Rattle.ffs_volume.specs.{Directories.{Roles.{Volume, nth_entry}, Naming.graph_of}, declared.Order.Order}
use Rattle.ffs_volume.specs.Directories.{Entries.{Entry, entry_at, entries_of, entries_from}, Graph.{Graph, edge}}
use Rattle.ffs_volume.{specs.Directories.Graph.{level, parent, parent_by}, proofs.SearchLaws.first_below-some}
use Rattle.ffs_volume.proofs.Reading.{entries_next, entries_end}
use Rattle.ffs_pathnames.specs.HeaderValues.{number_if, started_entry}

-- the second is after the first
second_is : (order : Order) (chunk : List ℕ) (e : Entry) → entry_at order chunk 0 ≡ Some e →
    nth_entry (entries_of order chunk) 1 ≡ entry_at order chunk e.length
second_is order chunk e h = rw (entries_next order chunk 0 e h, zero-add e.length) (one e.length _ refl)
  where
    one : (place : ℕ) (o : Option Entry) → entry_at order chunk place ≡ o →
        nth_entry (e ∷ entries_from order chunk 64 place) 1 ≡ entry_at order chunk place
    one place None q = rw (entries_end order chunk place q, q) refl
    one place (Some f) q = rw (entries_next order chunk place f q, q) refl

-- a parent names the directory
pub parent_edge : (g : Graph) (x s : ℕ) → x ≢ 2 → parent g x ≡ Some s → edge g s x ≡ true
unfolding parent
parent_edge g x s n e = grind (arith, cond-false, ne_eqb, first_below-some, and_parts)

root_parent : (g : Graph) (x : ℕ) → x ≡ 2 → parent g x ≡ Some 2
unfolding parent
root_parent g x e = cond-true (x == 2) (Some 2) (parent_by g x (level g x)) (eq-eqb x 2 e)

pub parent_back : (vol : Volume) (x : ℕ) → number_if (unwrap_or (parent (graph_of vol) x) 0) ≡ parent (graph_of vol) x
parent_back vol x =
    let root = root_parent (graph_of vol) x in
    let named = parent_edge (graph_of vol) x 0 in
    grind (arith, nat_tests)

pub none_back : (vol : Volume) (x : ℕ) → unwrap_or (parent (graph_of vol) x) 0 ≡ 0 → None ≡ parent (graph_of vol) x
none_back vol x e = ap number_if (sym e) ∙ parent_back vol x

-- in terms of the chunk that was found
pub none_found : (order : Order) (start : List ℕ) (i : ℕ) (started : Bool) → entry_at order start 0 ≡ None →
    None ≡ started_entry i started order start
none_found order start i true h = rw (entries_end order start 0 h) refl
none_found order start i false h = refl

pub first_found : (order : Order) (start : List ℕ) (started : Bool) (e : Entry) → started ≡ true →
    entry_at order start 0 ≡ Some e → Some e ≡ started_entry 0 started order start
first_found order start started e s h = rw (s, entries_next order start 0 e h) refl

pub second_found : (order : Order) (start : List ℕ) (started : Bool) (e : Entry) (o : Option Entry) → started ≡ true →
    entry_at order start 0 ≡ Some e → o ≡ entry_at order start e.length →
    o ≡ started_entry 1 started order start
second_found order start started e o s h q = rw s (q ∙ sym (second_is order start e h))
