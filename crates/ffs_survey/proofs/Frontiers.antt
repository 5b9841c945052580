-- One level after another: what is on each, how they begin, and what is known where none is left.
use Rattle.std.proofs.Common.{◌≡◌, ℕ, zero, suc, ◌+◌, ◌<◌, ◌≤◌, ◌==◌, Bool, true, false, not, cond, ◌&&◌, ◌||◌, List}
use Rattle.std.proofs.Common.{[], ◌∷◌, ◌++◌, length, Option, None, Some, unwrap_or, find, refl, arith, sym, ◌∙◌, ap}
use Rattle.std.proofs.{Common.{subst, inl, inr, get_or, ◌⊎◌, IsPermutation, set, take, add-zero}, lemmas.Bool.both_ways}
use Rattle.std.proofs.lemmas.Bool.{cases_lt, eqb-true, eq-eqb, ne_eqb, and_parts, and_from, or_cases, or_left, or_right}
use Rattle.std.proofs.lemmas.Bool.{not-true, not_from_false, cond-false, Decides.nat_tests}
use Rattle.std.proofs.lemmas.List.{Sorted.sum_by-IsPermutation, Sums.{sum_by-append, sum_by-cons}}
use Rattle.std.specs.List.Sorted.{IsNonDecreasing}
use Rattle.ffs_volume.proofs.LevelLaws.{within-suc, within-zero, within-grows, within-step, within-more, level-some}
use Rattle.ffs_volume.proofs.LevelLaws.{level-from, level-is, level-each, reached-from, parent-root, reached-level}
use Rattle.ffs_volume.proofs.SearchLaws.{first_below-is, first_below-is_none, some_below-gives, some_below-from}
use Rattle.ffs_volume.specs.Directories.Graph.{Graph, level_edge, edge, within, level, parent, parent_by, reached}
use Rattle.ffs_volume.proofs.{Booleans.both_imply, ClimbLaws.{is_value-from, is_value-true}, Graphs.IsSane}
use Rattle.ffs_volume.{proofs.Unreached.edge-parts, specs.Directories.{Climb.is_value, Roles.RoledEntry}}
use Rattle.ffs_volume.specs.Disk.Search.{first_below, some_below}
use Rattle.ffs_survey.{proofs.Discovered.{dir_below, same_result-to, same_result-refl, set_tests}, specs.Discover.bit}
use Rattle.ffs_survey.specs.Discover.{occurrences, from_dirs, Rising, IsFrontier, parent_at, LevelsKnown}
use Rattle.ffs_survey.{proofs.Remaining.{nothing, SameResult}, specs.Survey.{bool_at, graph_with, number_at}}

-- ---- occurrences in a list
pub occurrences-nil : (t : ℕ) → occurrences t [] ≡ 0
unfolding occurrences
occurrences-nil t = refl

pub occurrences-cons : (t x : ℕ) (xs : List ℕ) → occurrences t (x ∷ xs) ≡ bit (x == t) + occurrences t xs
unfolding occurrences
occurrences-cons t x xs = sum_by-cons (λ y. bit (y == t)) x xs

pub occurrences-append : (t : ℕ) (xs ys : List ℕ) → occurrences t (xs ++ ys) ≡ occurrences t xs + occurrences t ys
unfolding occurrences
occurrences-append t xs ys = sum_by-append (λ y. bit (y == t)) xs ys

pub occurrences-permutation : (t : ℕ) {xs ys : List ℕ} → IsPermutation xs ys → occurrences t ys ≡ occurrences t xs
unfolding occurrences
occurrences-permutation t p = sum_by-IsPermutation (λ y. bit (y == t)) _ _ p

pub occurrences-head : (x : ℕ) (xs : List ℕ) → 1 ≤ occurrences x (x ∷ xs)
occurrences-head x xs = omega (arith, occurrences-cons x x xs, ap bit (eq-eqb x x refl))

-- a number of x ∷ xs is x or one of xs
pub occurrences-cases : (t x : ℕ) (xs : List ℕ) → 1 ≤ occurrences t (x ∷ xs) → (x ≡ t) ⊎ (1 ≤ occurrences t xs)
occurrences-cases t x xs h = let c = occurrences-cons t x xs in grind (arith, nat_tests)

pub occurrences-index : (t : ℕ) (xs : List ℕ) → 1 ≤ occurrences t xs → (i : ℕ) × (i < length xs) × (get_or xs i 0 ≡ t)
occurrences-index t [] h = absurd (omega (arith, occurrences-nil t))
occurrences-index t (x ∷ xs) h =
    elim (occurrences-cases t x xs h) [
      | inl y ↦ (0, omega arith, y)
      | inr m ↦ let r = occurrences-index t xs m in let l = r.1 in (suc r.0, omega arith, r.2)
    ]

pub occurrences-at : (xs : List ℕ) (i d : ℕ) → i < length xs → 1 ≤ occurrences (get_or xs i d) xs
occurrences-at [] i d l = absurd (omega arith)
occurrences-at (x ∷ xs) zero d l = occurrences-head x xs
occurrences-at (x ∷ xs) (suc i) d l =
    omega (arith, occurrences-cons (get_or xs i d) x xs, occurrences-at xs i d (omega arith))

rising-from : (xs : List ℕ) → IsNonDecreasing xs → Rising xs
rising-from [] h = tt
rising-from (x ∷ xs) h = (
  (λ t m. let r = occurrences-index t xs m in let l = r.1 in
      subst (λ y. x ≤ y) r.2 (h 0 (suc r.0) 0 (omega arith) (omega arith))),
  rising-from xs (λ i j d a b. h (suc i) (suc j) d (omega arith) (omega arith)),
)

-- what `find` finds in an ascending list
abbrev FoundIn : (p : ℕ → Bool) (xs : List ℕ) → Option ℕ → Type 0
FoundIn p xs None = (t : ℕ) → 1 ≤ occurrences t xs → p t ≡ false
FoundIn p xs (Some s) = (p s ≡ true) × (1 ≤ occurrences s xs) × ((t : ℕ) → t < s → 1 ≤ occurrences t xs → p t ≡ false)

found_cons : (p : ℕ → Bool) (x : ℕ) (xs : List ℕ) (b : Bool) (o : Option ℕ) → p x ≡ b → Rising (x ∷ xs) →
    FoundIn p xs o → FoundIn p (x ∷ xs) (cond b (Some x) o)
found_cons p x xs true o e r f = grind (arith, occurrences-head, occurrences-cases)
found_cons p x xs false None e r f = grind (arith, occurrences-cases)
found_cons p x xs false (Some s) e r f = grind (arith, occurrences-cons)

found : (p : ℕ → Bool) (xs : List ℕ) → Rising xs → FoundIn p xs (find p xs)
found p [] r = λ t m. absurd (omega (arith, occurrences-nil t))
found p (x ∷ xs) r = found_cons p x xs (p x) (find p xs) refl r (found p xs r.1)

-- ---- a level and the next
pub bit-one : (b : Bool) (n : ℕ) → n ≡ bit b → 1 ≤ n → b ≡ true
bit-one b n e h = grind arith

no_edge : (l e : Bool) (n : ℕ) → n ≡ bit l → (1 ≤ n → e ≡ false) → (l && e) ≡ false
no_edge l e n h k = grind arith

frontier_first : (v : Graph) (k x : ℕ) (xs : List ℕ) → IsSane v → IsFrontier v k xs →
    from_dirs v xs x ≡ first_below (λ s. level_edge v k s x) v.count
frontier_first v k x xs sane f = go (find (λ s. edge v s x) xs) (found (λ s. edge v s x) xs f.rising)
  where
    go : (o : Option ℕ) → FoundIn (λ s. edge v s x) xs o → o ≡ first_below (λ s. level_edge v k s x) v.count
    go None h = sym (first_below-is_none (λ s. level_edge v k s x) v.count (λ t l. no_edge _ _ _ (f.members t) (h t)))
    go (Some s) h = sym (first_below-is (λ s. level_edge v k s x) v.count s (record {
      below = sane.dirs s (edge-parts v s x h.0).1;
      passes = and_from (is_value (level v s) k) (edge v s x) (bit-one _ _ (f.members s) h.1) h.0;
      least = λ t l. no_edge _ _ _ (f.members t) (h.2 t l);
    }))

-- what is one level further
within-level : (v : Graph) (k x : ℕ) →
    within v (suc k) x ≡ (within v k x || some_below (λ s. level_edge v k s x) v.count)
within-level v k x = both_imply (within v (suc k) x) (within v k x || some_below (λ s. level_edge v k s x) v.count)
    (λ h. elim (or_cases (within v k x) _ (sym (within-suc v k x) ∙ h)) [
      | inl y ↦ or_left (within v k x) _ y
      | inr y ↦
          let w = some_below-gives (λ s. within v k s && edge v s x) v.count y in
          let p = and_parts (within v k w.0) (edge v w.0 x) w.1.passes in
          let j = level-from v k w.0 w.1.below p.0 in
          elim (cases_lt j.0 k) [
            | inl lt ↦ or_left (within v k x) _ (within-grows v (suc j.0) k x lt
                (within-step v j.0 w.0 x w.1.below (level-some v j.0 w.0 j.2).0.within_k p.1))
            | inr ge ↦ let b = j.1 in let same : j.0 ≡ k = omega arith in
                or_right (within v k x) _ (some_below-from (λ s. level_edge v k s x) v.count w.0 w.1.below
                (and_from (is_value (level v w.0) k) _ (is_value-from (level v w.0) k (j.2 ∙ ap Some same)) p.1))
          ]
    ])
    (λ h. elim (or_cases (within v k x) _ h) [
      | inl y ↦ within-more v k x y
      | inr y ↦
          let w = some_below-gives (λ s. level_edge v k s x) v.count y in
          let p = and_parts (is_value (level v w.0) k) (edge v w.0 x) w.1.passes in
          within-step v k w.0 x w.1.below (level-some v k w.0 (is_value-true _ k p.0)).0.within_k p.1
    ])

-- what is within reach is inode 2 or a directory
within_is : (v : Graph) (k x : ℕ) → within v k x ≡ true → (x ≡ 2) ⊎ (v.is_dir x ≡ true)
within_is v zero x h = inl (eqb-true x 2 (sym (within-zero v x) ∙ h))
within_is v (suc k) x h =
    elim (or_cases (within v k x) _ (sym (within-suc v k x) ∙ h)) [
      | inl y ↦ within_is v k x y
      | inr y ↦ let w = some_below-gives (λ s. within v k s && edge v s x) v.count y in
          inr (edge-parts v w.0 x (and_parts (within v k w.0) (edge v w.0 x) w.1.passes).1).0
    ]

-- it has the number of an inode
pub within-bound : (v : Graph) (k x : ℕ) → IsSane v → within v k x ≡ true → x < v.count
within-bound v k x sane h = grind (arith, within_is)

is_level-suc : (v : Graph) (k x : ℕ) → IsSane v →
    is_value (level v x) (suc k) ≡ (within v (suc k) x && not (within v k x))
is_level-suc v k x sane =
    both_imply (is_value (level v x) (suc k)) (within v (suc k) x && not (within v k x))
    (λ y. let l = level-some v (suc k) x (is_value-true _ (suc k) y) in
    and_from (within v (suc k) x) _ l.0.within_k (not_from_false _ (l.0.least k (omega arith))))
    (λ t. let p = and_parts (within v (suc k) x) _ t in
    let w = level-from v (suc k) x (within-bound v (suc k) x sane p.0) p.0 in
    let l = level-some v w.0 x w.2 in
    let b = w.1 in
    elim (cases_lt w.0 (suc k)) [
      | inl lt ↦ absurd (both_ways (within v k x) (not-true _ p.1)
          (within-grows v w.0 k x (omega arith) l.0.within_k))
      | inr ge ↦ let same : w.0 ≡ suc k = omega arith in is_value-from (level v x) (suc k) (w.2 ∙ ap Some same)
    ])

-- a new one of the next level gets the least directory of this level as its parent
parent-new : (v : Graph) (k x : ℕ) → IsSane v → within v k x ≡ false →
    some_below (λ s. level_edge v k s x) v.count ≡ true → parent v x ≡ first_below (λ s. level_edge v k s x) v.count
unfolding parent
parent-new v k x sane n f =
    let w : within v (suc k) x ≡ true = within-level v k x ∙ or_right (within v k x) _ f in
    let l : level v x ≡ Some (suc k) = is_value-true _ (suc k)
    (is_level-suc v k x sane ∙ and_from (within v (suc k) x) (not (within v k x)) w (not_from_false _ n)) in
    let ne : (x ≡ 2 → ⊥) = (λ q. both_ways (within v k x) n
    (within-grows v 0 k x (omega arith) (within-zero v x ∙ eq-eqb x 2 q))) in
    cond-false (x == 2) (Some 2) (parent_by v x (level v x)) (ne_eqb x 2 ne) ∙ ap (parent_by v x) l

-- what of a level is discovered
pub record IsNext (v : Graph) (k : ℕ) (r' : List Bool) (p' q' : List ℕ) : Type 0 where
  pub reached : (x : ℕ) → bool_at r' x ≡ within v k x
  pub parent : (x : ℕ) → number_at p' x ≡ unwrap_or (parent_at v k x) 0
  pub members : (x : ℕ) → occurrences x q' ≡ bit (is_value (level v x) k)

-- the step from level k to the next
pub next_level : {v : Graph} {k : ℕ} {xs : List ℕ} {r r' : List Bool} {p p' q q' : List ℕ} → IsSane v →
    IsFrontier v k xs → LevelsKnown v k r p q → SameResult (from_dirs v xs) r p [] nothing r' p' q' →
    IsNext v (suc k) r' p' q'
next_level {v = v} {k = k} {xs = xs} {r = r} {r' = r'} {p = p} {p' = p'} {q' = q'} sane f n c =
    grind (arith, occurrences-nil, frontier_first, within-level, is_level-suc, parent-new)

-- the queue with what is discovered holds each that is marked once
pub queue_grows : {a : ℕ → Option ℕ} {r r' : List Bool} {p p' q' : List ℕ} (q : List ℕ) →
    ((x : ℕ) → occurrences x q ≡ bit (bool_at r x)) → SameResult a r p [] nothing r' p' q' →
    (x : ℕ) → occurrences x (q ++ q') ≡ bit (bool_at r' x)
queue_grows {q' = q'} q h c x = grind (arith, occurrences-append, occurrences-nil)

-- ---- the directories of a level
pub frontier_within : {v : Graph} {k : ℕ} {xs : List ℕ} → IsFrontier v k xs → (i d : ℕ) → i < length xs →
    within v k (get_or xs i d) ≡ true
frontier_within {v = v} {k = k} {xs = xs} f i d l = grind (arith, level-some, occurrences-at)

-- they are directories, where inode 2 is one
pub frontier_dirs : {v : Graph} {k : ℕ} {xs : List ℕ} → IsFrontier v k xs → v.is_dir 2 ≡ true → (i d : ℕ) →
    i < length xs → v.is_dir (get_or xs i d) ≡ true
frontier_dirs {v = v} {k = k} {xs = xs} f two i d l = elim (within_is v k (get_or xs i d) (frontier_within f i d l)) [
  | inl e ↦ ap v.is_dir e ∙ two
  | inr is ↦ is
]

pub frontier_from : {v : Graph} {k : ℕ} {xs ys : List ℕ} →
    ((x : ℕ) → occurrences x xs ≡ bit (is_value (level v x) k)) → IsPermutation xs ys → IsNonDecreasing ys →
    IsFrontier v k ys
frontier_from m p s = record { members = λ x. occurrences-permutation x p ∙ m x; rising = rising-from _ s }

pub sane_of : (kinds : List ℕ) (entries : ℕ → List RoledEntry) → 2 < length kinds → IsSane (graph_with kinds entries)
sane_of kinds entries l = record { some = l; dirs = λ d h. dir_below kinds d h }

-- ---- how the levels begin and end
-- where a level is empty, all is known
pub no_more : (v : Graph) (k x : ℕ) → IsSane v → IsFrontier v k [] → within v k x ≡ reached v x
no_more v k x sane f = both_imply (within v k x) (reached v x) (λ y. reached-from v k x (within-bound v k x sane y) y)
    (λ t.
    let j = reached-level v x t in
    let l = level-some v j.0 x j.1 in
    elim (cases_lt k j.0) [
      | inl lt ↦
          let s = level-each v j.0 x (within-bound v j.0 x sane l.0.within_k) l.0 k in
          let e = is_value-from (level v s.0) k (level-is v k s.0 s.1 (s.2 (omega arith))) in
          absurd (omega (arith, f.members s.0, ap bit e, occurrences-nil s.0))
      | inr ge ↦ within-grows v j.0 k x ge l.0.within_k
    ])

occurrences-single : (x y : ℕ) → occurrences x (y ∷ []) ≡ bit (y == x)
unfolding occurrences
occurrences-single x y = sum_by-cons (λ z. bit (z == x)) y [] ∙ add-zero (bit (y == x))

pub levels_start : (v : Graph) (r : List Bool) (p : List ℕ) → 2 < length r → 2 < length p →
    ((x : ℕ) → bool_at r x ≡ false) → ((x : ℕ) → number_at p x ≡ 0) →
    LevelsKnown v 0 (set r 2 true) (set p 2 2) (2 ∷ [])
levels_start v r p lr lp clear blank = grind (arith, within-zero, set_tests, parent-root, occurrences-single)

pub frontier_start : {v : Graph} → IsSane v → IsFrontier v 0 (2 ∷ [])
frontier_start {v = v} sane = record {
  members = λ x. occurrences-single x 2 ∙ ap bit (both_imply (2 == x) (is_value (level v x) 0)
      (λ t. let e = eqb-true 2 x t in let some = sane.some in
      is_value-from (level v x) 0 (level-is v 0 x (omega arith)
      (record { within_k = within-zero v x ∙ eq-eqb x 2 (sym e); least = λ j l. absurd (omega arith) })))
      (λ t. let l = level-some v 0 x (is_value-true (level v x) 0 t) in
      eq-eqb 2 x (sym (eqb-true x 2 (sym (within-zero v x) ∙ l.0.within_k)))));
  rising = ((λ t h. absurd (omega (arith, occurrences-nil t))), tt);
}

-- the queue with 2 at its head
pub queue_start : (q : List ℕ) → 0 < length q → take 1 (set q 0 2) ≡ 2 ∷ []
queue_start [] l = absurd (omega arith)
queue_start (y ∷ q) l = refl

-- where inode 2 is no directory, it alone is reached
pub root_alone : {v : Graph} {r : List Bool} {p q : List ℕ} → IsSane v → v.is_dir 2 ≡ false →
    LevelsKnown v 0 r p q → LevelsKnown v 1 r p q × IsFrontier v 1 []
root_alone {v = v} sane dry n =
    let none : (x : ℕ) → from_dirs v (2 ∷ []) x ≡ nothing x = λ x. grind arith in
    let k = next_level sane (frontier_start sane) n (same_result-to none same_result-refl) in
    (record { reaches = k.reached; parent = k.parent; queued = n.queued }, record { members = k.members; rising = tt })
