-- The queue: what is after it, the current level, and the next level.
use Rattle.std.proofs.Common.{◌≡◌, ℕ, suc, ◌+◌, ◌-◌, ◌<◌, ◌≤◌, All, Option, Bool, List, [], ◌∷◌, ◌++◌, length, take}
use Rattle.std.proofs.Common.{drop, cond, None, unwrap_or, ◌||◌, false, count_by, arith, sym, ◌∙◌, ap, subst}
use Rattle.std.proofs.{Common.{IsPermutation, add-zero, get_or}, lemmas.List.{get_or-drop, get_or-take, get_or_past}}
use Rattle.std.proofs.lemmas.{List.{length-drop, take-append-drop, take-take}, Bool.{and_left, cond-false}}
use Rattle.std.proofs.{Math.Bool.or-false, lemmas.{Grind.common_steps, List.Folds.list_any-append}}
use Rattle.std.{proofs.lemmas.List.Sums.sum_by-append, specs.List.Sorted.IsNonDecreasing}
use Rattle.ffs_volume.specs.Directories.{Graph.{Graph, is_naming_dir, parent}, Roles.{RoledEntry, refers}}
use Rattle.ffs_volume.{proofs.Graphs.IsSane, specs.Encodings.Kinds.is_dir_at}
use Rattle.ffs_survey.proofs.Frontiers.{next_level, frontier_from, queue_grows, IsNext, occurrences-append}
use Rattle.ffs_survey.{proofs.Frontiers.{occurrences-permutation, no_more, root_alone}, specs.Discover.Extends}
use Rattle.ffs_survey.specs.Discover.{occurrences, from_dirs, IsFrontier, LevelsKnown, IsCount, IsReachedPart, count_of}
use Rattle.ffs_survey.specs.{Discover.any_of, Survey.{bool_at, number_at, graph_with, counted_in}}
use Rattle.ffs_survey.proofs.{Remaining.{nothing, none, never, Counts, SameResult}, Totals.{any_all, count_all}}

-- a queue that is extended twice
pub extends_on : {a b c : ℕ} {q q' q'' : List ℕ} → Extends a b q q' → Extends b c q' q'' → Extends a c q q''
extends_on {a = a} {b = b} {q' = q'} {q'' = q''} one two = record {
  ordered = let l = one.ordered in let m = two.ordered in omega arith;
  kept = sym (take-take a b q'' one.ordered) ∙ ap (take a) two.kept ∙ take-take a b q' one.ordered ∙ one.kept;
}

-- a queue that is extended, by what it has up to its ends
pub keeps_queue : {a b : ℕ} {q q' : List ℕ} → Extends a b q q' → take a (take b q') ≡ take a q
keeps_queue {a = a} {b = b} {q' = q'} e = take-take a b q' e.ordered ∙ e.kept

pub is_extended : {a b : ℕ} {q q' : List ℕ} → a ≤ b → take a (take b q') ≡ take a q → Extends a b q q'
is_extended {a = a} {b = b} {q' = q'} l kept = record { ordered = l; kept = sym (take-take a b q' l) ∙ kept }

-- a number of the level, in a queue that was extended since
pub number_kept : {high end : ℕ} {q q' : List ℕ} (at : ℕ) → at < high → Extends high end q q' →
    number_at q' at ≡ number_at (take high q) at
number_kept {high = high} {q' = q'} at l e = sym (get_or-take high q' at 0 l) ∙ ap (λ xs. number_at xs at) e.kept

-- what holds of each number of the level, at a place in the queue
pub at_place : (P : ℕ → Type 0) (low at : ℕ) (xs : List ℕ) → All P (drop low xs) → low ≤ at → at < length xs →
    P (number_at xs at)
at_place P low at xs all from to =
    let one : low + (at - low) ≡ at = omega arith in
    let there : get_or (drop low xs) (at - low) 0 ≡ number_at xs at =
    get_or-drop low xs (at - low) 0 ∙ ap (number_at xs) one in
    subst P there (all (at - low) 0 (omega (arith, length-drop low xs)))

-- with what was in the queue before, and without it
pub same_result_after : {a c : ℕ → Option ℕ} {r r' : List Bool} {p p' : List ℕ} (q new : List ℕ) →
    SameResult a r p q c r' p' (q ++ new) → SameResult a r p [] c r' p' new
unfolding occurrences
same_result_after q new h = grind (arith, sum_by-append)

-- an empty slice of the queue
pub empty_level : (low high : ℕ) (q : List ℕ) → high ≤ low → drop low (take high q) ≡ []
empty_level low high q h = grind (arith, common_steps)

-- what is after the level, and the level
pub queue_parts : (low high : ℕ) (q : List ℕ) → low ≤ high → take high q ≡ take low q ++ drop low (take high q)
queue_parts low high q h = sym (take-append-drop low (take high q))
    ∙ ap (λ z. z ++ drop low (take high q)) (take-take low high q h)

-- the next level is after the queue, sorted
pub record IsNextLevel (v : Graph) (k : ℕ) (r' : List Bool) (p' q ys : List ℕ) : Type 0 where
  pub frontier : IsFrontier v k ys
  pub knows : LevelsKnown v k r' p' (q ++ ys)

pub level_after : {v : Graph} {k : ℕ} {xs : List ℕ} {r r' : List Bool} {p p' q new ys : List ℕ} → IsSane v →
    IsFrontier v k xs → LevelsKnown v k r p q → SameResult (from_dirs v xs) r p [] nothing r' p' new →
    IsPermutation new ys → IsNonDecreasing ys → IsNextLevel v (k + 1) r' p' q ys
level_after {v = v} {k = k} {r' = r'} {p' = p'} {q = q} {new = new} {ys = ys} sane f n c m s =
    let one : suc k ≡ k + 1 = omega arith in
    let next : IsNext v (k + 1) r' p' new = subst (λ j. IsNext v j r' p' new) one (next_level sane f n c) in
    record {
      frontier = frontier_from next.members m s;
      knows = record {
        reaches = next.reached;
        parent = next.parent;
        queued = λ x. occurrences-append x q ys ∙ ap (λ t. occurrences x q + t) (occurrences-permutation x m)
            ∙ sym (occurrences-append x q new) ∙ queue_grows q n.queued c x;
      };
    }

-- the counts, one level further
pub counted_on : {g : Graph} {starts f f' : List ℕ} {m m' : List Bool} (low high : ℕ) (q q' : List ℕ) → low ≤ high →
    take high q' ≡ take high q → IsCount g (take low q) starts f m →
    Counts g.count (count_of g (drop low (take high q))) (any_of g (drop low (take high q))) f m none never f' m' →
    IsCount g (take high q') starts f' m'
counted_on {g = g} {m' = m'} low high q q' l kept i c =
    let parts : take high q' ≡ take low q ++ drop low (take high q) = kept ∙ queue_parts low high q l in
    record {
      counts = λ x b.
          let one = ap (λ z. count_of g z x) parts
          ∙ sum_by-append (λ s. counted_in g s x) (take low q) (drop low (take high q)) in
          omega (arith, one, i.counts x b, c.counts x b);
      names = λ x b. sym (or-false (bool_at m' x))
          ∙ (c.names x b ∙ (ap (λ y. y || any_of g (drop low (take high q)) x) (i.names x b)
          ∙ sym (ap (λ z. any_of g z x) parts
          ∙ list_any-append (λ s. is_naming_dir g s x) (take low q) (drop low (take high q)))));
    }

-- where no level is left, all that is reached was read
pub reached_part : {k : ℕ} {starts f : List ℕ} {m r : List Bool} {p q : List ℕ} (kinds : List ℕ)
    (entries : ℕ → List RoledEntry) → length r ≡ length kinds → IsSane (graph_with kinds entries) →
    IsFrontier (graph_with kinds entries) k [] → LevelsKnown (graph_with kinds entries) k r p q →
    IsCount (graph_with kinds entries) q starts f m → IsReachedPart (graph_with kinds entries) starts f m r p
reached_part {k = k} {starts = starts} {r = r} {q = q} kinds entries e sane frontier n i =
    let g = graph_with kinds entries in
    let past = λ (s : ℕ) (l : length kinds ≤ s). get_or_past r s false (omega arith) in
    record {
      counts = λ x b. i.counts x b
          ∙ ap (λ c. number_at starts x + c) (count_all g (bool_at r) q (length kinds) x n.queued past);
      names = λ x b. i.names x b ∙ any_all g (bool_at r) q (length kinds) x n.queued past;
      reaches = λ x. n.reaches x ∙ no_more g k x sane frontier;
      parent = λ x. n.parent x ∙ ap (λ b. unwrap_or (cond b (parent g x) None) 0) (no_more g k x sane frontier);
    }

-- where inode 2 is no directory, nothing was read
pub alone_part : {starts : List ℕ} {m r : List Bool} {p : List ℕ} (kinds : List ℕ) (entries : ℕ → List RoledEntry) →
    length r ≡ length kinds → IsSane (graph_with kinds entries) → is_dir_at kinds 2 ≡ false →
    LevelsKnown (graph_with kinds entries) 0 r p (2 ∷ []) → ((x : ℕ) → bool_at m x ≡ false) →
    IsReachedPart (graph_with kinds entries) starts starts m r p
alone_part kinds entries e sane dry n blank =
    let g = graph_with kinds entries in
    let a = root_alone sane dry n in
    reached_part kinds entries e sane a.1 a.0 (record {
      counts = λ x b. omega (arith, cond-false (is_dir_at kinds 2) (count_by (refers x) (entries 2)) 0 dry);
      names = λ x b. blank x ∙ sym (or-false (is_naming_dir g 2 x) ∙ and_left (is_dir_at kinds 2) _ dry);
    })

-- no entry is counted before the first directory
pub none_counted : {g : Graph} {f : List ℕ} {m : List Bool} → ((x : ℕ) → bool_at m x ≡ false) → IsCount g [] f f m
none_counted {f = f} blank = record { counts = λ x b. sym (add-zero (number_at f x)); names = λ x b. blank x }
