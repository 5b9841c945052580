-- What an entry, a directory and a level discover.
use Rattle.std.proofs.Common.{◌≡◌, ℕ, ◌+◌, ◌<◌, ◌≤◌, ◌==◌, Bool, true, false, not, cond, ◌&&◌, ◌||◌, List, [], ◌∷◌}
use Rattle.std.proofs.Common.{length, Option, None, Some, is_some, unwrap_or, refl, arith, sym, ◌∙◌, ap, set, take}
use Rattle.std.proofs.{Common.{drop, get_or, get_or-set_same, get_or-set_other, sum_by}, lemmas.Bool.Decides.nat_tests}
use Rattle.std.proofs.lemmas.List.{Sums.{sum_by-le, sum_by-set, sum_by_push}, at_drop_more, get_or_past, take_more_set}
use Rattle.std.specs.Option.{option_or}
use Rattle.ffs_volume.specs.{Directories.{Graph.edge, Roles.{RoledEntry, is_plain}}, Encodings.Kinds.is_dir_at}
use Rattle.ffs_survey.specs.Discover.{bit, from_dirs, from_entries, is_unreached_dir, occurrences, unset}
use Rattle.ffs_survey.{specs.Survey.{bool_at, graph_with, number_at}, proofs.Remaining.{nothing, SameResult}}

-- tests of numbers, and reading a list in which one element is set
pub ruleset set_tests = (nat_tests, get_or-set_other, get_or-set_same)

-- what `SameResult` says of one number: whether it is reached, its parent, how often it is queued
abbrev pub Same : (r : Bool) (p t : ℕ) (a : Option ℕ) (r' : Bool) (p' t' : ℕ) (a' : Option ℕ) → Type 0
Same r p t a r' p' t' a' =
    ((r' || is_some a') ≡ (r || is_some a))
    × (cond r' p' (unwrap_or a' p') ≡ cond r p (unwrap_or a p))
    × (t' + bit (is_some a' && not r') ≡ t + bit (is_some a && not r))

pub of_each : {g h : ℕ → Option ℕ} {r r' : List Bool} {p p' q q' : List ℕ} → SameResult g r p q h r' p' q' → (x : ℕ) →
    Same (bool_at r x) (number_at p x) (occurrences x q) (g x) (bool_at r' x) (number_at p' x) (occurrences x q') (h x)
of_each c x = (c.reaches x, c.parent x, c.queued x)

from_each : {g h : ℕ → Option ℕ} {r r' : List Bool} {p p' q q' : List ℕ} → ((x : ℕ) →
    Same (bool_at r x) (number_at p x) (occurrences x q) (g x) (bool_at r' x) (number_at p' x) (occurrences x q') (h x))
    → SameResult g r p q h r' p' q'
from_each s = record { reaches = λ x. (s x).0; parent = λ x. (s x).1; queued = λ x. (s x).2 }

pub same_result-refl : {g : ℕ → Option ℕ} {r : List Bool} {p q : List ℕ} → SameResult g r p q g r p q
same_result-refl = record { reaches = λ x. refl; parent = λ x. refl; queued = λ x. refl }

same_result-trans : {g h k : ℕ → Option ℕ} {r r' r'' : List Bool} {p p' p'' q q' q'' : List ℕ} →
    SameResult g r p q h r' p' q' → SameResult h r' p' q' k r'' p'' q'' → SameResult g r p q k r'' p'' q''
same_result-trans a b = grind arith

-- the same with another name for what is to go
pub same_result-to : {g h k : ℕ → Option ℕ} {r r' : List Bool} {p p' q q' : List ℕ} → ((x : ℕ) → h x ≡ k x) →
    SameResult g r p q h r' p' q' → SameResult g r p q k r' p' q'
same_result-to e c = from_each (λ x. rw (e x) at (of_each c x))

-- a is done, and then b is to go
same_result-then : {g a b : ℕ → Option ℕ} {r r' : List Bool} {p p' q q' : List ℕ} →
    ((x : ℕ) → g x ≡ option_or (a x) (b x)) → SameResult a r p q nothing r' p' q' → SameResult g r p q b r' p' q'
same_result-then e c = from_each (λ x. let is = e x in let now = of_each c x in (grind arith, grind arith, grind arith))

-- ---- one entry
pub bit-le : (b : Bool) → bit b ≤ 1
bit-le b = grind arith

pub unset-le : (r : List Bool) → unset r ≤ length r
unfolding unset
unset-le r = omega (arith, sum_by-le (λ b. bit (not b)) 1 r (λ k d l. bit-le (not (get_or r k d))))

pub unset-set : (r : List Bool) (m : ℕ) → m < length r → bool_at r m ≡ false → unset (set r m true) + 1 ≡ unset r
unfolding unset
unset-set r m l e = grind (arith, sum_by-set)

occurrences-push : (x : ℕ) (q : List ℕ) (c y : ℕ) → c < length q →
    occurrences x (take (c + 1) (set q c y)) ≡ occurrences x (take c q) + bit (y == x)
unfolding occurrences
occurrences-push x q c y l = grind (arith, take_more_set, sum_by_push)

-- what the number of a directory is below
pub dir_below : (kinds : List ℕ) (x : ℕ) → is_dir_at kinds x ≡ true → x < length kinds
dir_below kinds x h = grind (arith, nat_tests, get_or_past)

-- what an entry that names a directory without a mark is
pub record IsNewEntry (kinds : List ℕ) (r : List Bool) (e : RoledEntry) : Type 0 where
  pub plain : is_plain e.role ≡ true
  pub dir : is_dir_at kinds e.entry.number ≡ true
  pub unmarked : bool_at r e.entry.number ≡ false
  pub below : e.entry.number < length kinds

pub new_entry : (kinds : List ℕ) (r : List Bool) (e : RoledEntry) →
    (is_plain e.role && is_unreached_dir kinds r e.entry.number) ≡ true → IsNewEntry kinds r e
new_entry kinds r e h = grind (arith, dir_below)

-- what one entry discovers
pub reach_hit : {kinds : List ℕ} {r : List Bool} {p : List ℕ} {e : RoledEntry} (q : List ℕ) (s c : ℕ) →
    IsNewEntry kinds r e → e.entry.number < length r → e.entry.number < length p → c < length q →
    SameResult (from_entries kinds s (e ∷ [])) r p (take c q) nothing (set r e.entry.number true)
    (set p e.entry.number s) (take (c + 1) (set q c e.entry.number))
reach_hit {e = e} q s c i lr lp lq = from_each (λ x. let push = occurrences-push x q c e.entry.number lq in
    (grind (arith, set_tests), grind (arith, set_tests), grind (arith, set_tests)))

-- ---- a directory, and a level
-- the step of the loop over a directory
pub entry_step : {g : ℕ → Option ℕ} {r r' r'' : List Bool} {p p' p'' q q' q'' : List ℕ} (kinds : List ℕ) (s : ℕ)
    (e : RoledEntry) (rest : List RoledEntry) → SameResult g r p q (from_entries kinds s (e ∷ rest)) r' p' q' →
    SameResult (from_entries kinds s (e ∷ [])) r' p' q' nothing r'' p'' q'' →
    SameResult g r p q (from_entries kinds s rest) r'' p'' q''
entry_step kinds s e rest a b = same_result-trans a (same_result-then (grind arith) b)

-- what a directory's entries discover, by its edges, before those of others
from_edges : (kinds : List ℕ) (entries : ℕ → List RoledEntry) (s x : ℕ) (o : Option ℕ) → is_dir_at kinds s ≡ true →
    cond (edge (graph_with kinds entries) s x) (Some s) o ≡ option_or (from_entries kinds s (entries s) x) o
from_edges kinds entries s x o d = grind arith

-- the step of the loop over a level
pub level_step : {g : ℕ → Option ℕ} {r r' r'' : List Bool} {p p' p'' q q' q'' : List ℕ} (kinds : List ℕ)
    (entries : ℕ → List RoledEntry) (frontier : List ℕ) (i : ℕ) → i < length frontier →
    is_dir_at kinds (get_or frontier i 0) ≡ true →
    SameResult g r p q (from_dirs (graph_with kinds entries) (drop i frontier)) r' p' q' →
    SameResult (from_entries kinds (get_or frontier i 0) (entries (get_or frontier i 0))) r' p' q' nothing r'' p'' q'' →
    SameResult g r p q (from_dirs (graph_with kinds entries) (drop (i + 1) frontier)) r'' p'' q''
level_step kinds entries frontier i l d a b =
    let v = graph_with kinds entries in
    same_result-trans a (same_result-then (λ x. at_drop_more (λ z. from_dirs v z x) frontier i 0 l
    ∙ from_edges kinds entries (get_or frontier i 0) x (from_dirs v (drop (i + 1) frontier) x) d) b)
