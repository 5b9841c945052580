-- How the lines of numbers in ascending order continue.
use Rattle.std.proofs.Common.{◌≡◌, ℕ, zero, suc, ◌+◌, ◌-◌, ◌<◌, ◌≤◌, List, [], ◌++◌, map, append_assoc, append-nil}
use Rattle.std.proofs.{Common.{length, refl, ap, ◌∙◌, sym, arith, length-append}, lemmas.List.{length-map, map-append}}
use Rattle.ffs_volume.specs.Messages.Kinds.{TreeMessage, of_tree, lines_below, lines_from}

-- those below d + k are those below d and the k from d on
pub below_and_from : (lines : ℕ → List TreeMessage) (k d : ℕ) → lines_below lines (d + k) ≡ lines_below lines d
    ++ lines_from lines d k
unfolding lines_below lines_from
below_and_from lines zero d = let q : d + 0 ≡ d = omega arith in rw q (sym (append-nil (lines_below lines d)))
below_and_from lines (suc k) d =
    let q : d + suc k ≡ suc d + k = omega arith in
    rw q (below_and_from lines k (suc d) ∙ append_assoc (lines_below lines d) (lines d) (lines_from lines (suc d) k))

-- of all numbers
pub all_from : (lines : ℕ → List TreeMessage) (n : ℕ) → lines_below lines n ≡ lines_from lines 0 (n - 0)
unfolding lines_below
all_from lines n = let q : 0 + n ≡ n = omega arith in grind (arith, below_and_from)

-- of numbers from 2 on, where those below it have no line
pub all_from_root : (lines : ℕ → List TreeMessage) (n : ℕ) → lines 0 ≡ [] → lines 1 ≡ [] →
    lines_below lines n ≡ lines_from lines 2 (n - 2)
unfolding lines_below lines_from
all_from_root lines zero zeroth first = refl
all_from_root lines (suc zero) zeroth first = zeroth
all_from_root lines (suc (suc n)) zeroth first = let k = below_and_from lines n 2 in grind arith

-- the next number's lines
lines_next : (lines : ℕ → List TreeMessage) (d n : ℕ) → d < n →
    lines_from lines d (n - d) ≡ lines d ++ lines_from lines (d + 1) (n - (d + 1))
unfolding lines_from
lines_next lines d n h = grind arith

pub from_next : (lines : ℕ → List TreeMessage) (d n : ℕ) → d < n →
    map of_tree (lines_from lines d (n - d)) ≡ map of_tree (lines d)
    ++ map of_tree (lines_from lines (d + 1) (n - (d + 1)))
from_next lines d n h = grind (arith, lines_next, map-append)

-- how many these are
pub count_next : (lines : ℕ → List TreeMessage) (d n : ℕ) → d < n →
    length (lines_from lines d (n - d)) ≡ length (lines d) + length (lines_from lines (d + 1) (n - (d + 1)))
count_next lines d n h = grind (arith, lines_next, length-append)

-- at the end there are none
pub from_end : (lines : ℕ → List TreeMessage) (d n : ℕ) → n ≤ d → map of_tree (lines_from lines d (n - d)) ≡ []
unfolding lines_from
from_end lines d n h = let q : n - d ≡ 0 = omega arith in rw q

-- as many lines have the same messages
pub as_many : (xs ys : List TreeMessage) → map of_tree xs ≡ map of_tree ys → length xs ≡ length ys
as_many xs ys e = sym (length-map xs of_tree) ∙ ap length e ∙ length-map ys of_tree
