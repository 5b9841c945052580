-- Each reached directory is read once, when no child of it is reached: so those that are calm by the
-- parents of what they name have a flag.
use Rattle.std.proofs.Common.{◌≡◌, ◌≢◌, ℕ, zero, suc, ◌+◌, ◌-◌, ◌<◌, ◌≤◌, Bool, true, List, [], ◌∷◌, length, take, drop}
use Rattle.std.proofs.Common.{get_or, All, Some, unwrap_or, arith, refl, sym, ◌∙◌, ap, subst, inl, inr, length-take}
use Rattle.std.proofs.{Common.nat_le, lemmas.Bool.{and_parts, and_from, eq-eqb, ne_eqb, cases_lt, leb-true}}
use Rattle.std.proofs.lemmas.{Bool.Decides.nat_tests, List.{get_or-drop, get_or_default, length-drop, get_or-take}}
use Rattle.ffs_volume.specs.declared.Role.{Role, TheVariants.{Empty, Dot, Dotdot, Extra, Plain}}
use Rattle.ffs_volume.specs.Directories.{Climb.is_value, Graph.{level, parent, within}, Roles.RoledEntry}
use Rattle.ffs_volume.proofs.{ClimbLaws.is_value-true, Graphs.IsSane, LevelLaws.level-from}
use Rattle.ffs_volume.specs.Costs.Calm.{CurrentDir, is_calm_role, is_calm_entry, reached_after, are_calm}
use Rattle.ffs_volume.specs.{Costs.Calm.{is_calm_by_parents, is_elsewhere}, Encodings.Kinds.is_dir_at}
use Rattle.ffs_survey.specs.{Calm.{IsFlagged, dir_by, AreUnread, IsReadOnce, IsUnread}, Discover.{bit, from_entries}}
use Rattle.ffs_survey.{specs.Discover.{occurrences, IsFrontier, LevelsKnown}, proofs.Remaining.{nothing, SameResult}}
use Rattle.ffs_survey.{proofs.ParentLaws.{parent_above, root_level}, specs.Survey.{bool_at, graph_with, number_at}}
use Rattle.ffs_survey.proofs.{CalmLaws.{Stays, all_calm, same_result_stays}, Discovered.bit-le, Frontiers.bit-one}
use Rattle.ffs_survey.proofs.Frontiers.{occurrences-at, occurrences-cons, frontier_dirs, occurrences-index, sane_of}
use Rattle.ffs_survey.proofs.{Frontiers.within-bound, Queues.at_place}

-- ---- where less is reached, no fewer entries are calm
calm_role_less : (s : CurrentDir) (r r' : ℕ → Bool) (i : ℕ) (role : Role) (number kind : ℕ) →
    (r number ≡ true → r' number ≡ true) → is_calm_role s r' i role number kind ≡ true →
    is_calm_role s r i role number kind ≡ true
calm_role_less s r r' i Empty number kind h c = c
calm_role_less s r r' i Dot number kind h c = c
calm_role_less s r r' i Dotdot number kind h c = c
calm_role_less s r r' i Extra number kind h c = c
calm_role_less s r r' i Plain number kind h c = grind arith

calm_less : (s : CurrentDir) (r r' : ℕ → Bool) (i : ℕ) (es : List RoledEntry) →
    ((x : ℕ) → r x ≡ true → r' x ≡ true) → are_calm s r' i es ≡ true → are_calm s r i es ≡ true
calm_less s r r' i [] h c = c
calm_less s r r' i (e ∷ es) h c =
    let p = and_parts (is_calm_entry s r' i e) _ c in
    and_from (is_calm_entry s r i e) _
    (calm_role_less s r r' i e.role e.entry.number e.entry.kind (h e.entry.number) p.0)
    (calm_less s (reached_after s.kinds r e) (reached_after s.kinds r' e) (suc i) es
    (λ x t. let more = h x in grind arith) p.1)

-- a directory that was read so has a flag, if it is calm by the parents of what it names
pub flagged_by_parents : {kinds : List ℕ} {m r : List Bool} {p : List ℕ} {es : List RoledEntry} {right_shape : Bool}
    {f : List Bool} {d : ℕ} → IsReadOnce (dir_by kinds m p d) r p es right_shape f →
    is_calm_by_parents kinds m (number_at p) es right_shape d ≡ true → bool_at f d ≡ true
flagged_by_parents {kinds = kinds} {m = m} {p = p} {es = es} {right_shape = right_shape} {d = d} once calm =
    grind (arith, calm_less)

-- ---- what stays of a directory that was read
pub read_once_stays : {kinds : List ℕ} {m r r' : List Bool} {p p' : List ℕ} {es : List RoledEntry} {right_shape : Bool}
    {f f' : List Bool} {d : ℕ} → Stays r p r' p' → ((x : ℕ) → bool_at f x ≡ true → bool_at f' x ≡ true) →
    IsReadOnce (dir_by kinds m p d) r p es right_shape f → IsReadOnce (dir_by kinds m p' d) r' p' es right_shape f'
read_once_stays {p = p} {p' = p'} {f = f} {f' = f'} {d = d} s more once = grind arith

-- a directory is read
pub read_once : {kinds : List ℕ} {r r' : List Bool} {p p' q q' : List ℕ} {right_shape : Bool} (m : List Bool)
    (d : ℕ) (es : List RoledEntry) (f f' : List Bool) → SameResult (from_entries kinds d es) r p q nothing r' p' q' →
    bool_at r d ≡ true → IsFlagged d (all_calm kinds m r p d es) right_shape f f' → d < length f →
    IsUnread r p d → IsReadOnce (dir_by kinds m p' d) r' p' es right_shape f'
read_once {kinds = kinds} {r = r} {p = p} {right_shape = right_shape} m d es f f' c h flags long unread =
    grind (arith, same_result_stays)

-- no flag is taken away
pub flags_grow : (d : ℕ) (calm right_shape : Bool) (f f' : List Bool) → IsFlagged d calm right_shape f f' → (x : ℕ) →
    bool_at f x ≡ true → bool_at f' x ≡ true
flags_grow d calm right_shape f f' flags x h = let now = flags x in grind arith

-- nothing below another directory is reached by it
pub unread_next : {r r' : List Bool} {p p' q q' : List ℕ} {d t : ℕ} (kinds : List ℕ) (es : List RoledEntry) →
    SameResult (from_entries kinds d es) r p q nothing r' p' q' → d ≢ t → IsUnread r p t → IsUnread r' p' t
unread_next {r = r} {p' = p'} {d = d} {t = t} kinds es c other unread x now = grind arith

-- ---- the directories of a level
-- what occurs once at most is at one place
one_place : (xs : List ℕ) → ((x : ℕ) → occurrences x xs ≤ 1) → (i j e : ℕ) → i < j → j < length xs →
    get_or xs i e ≢ get_or xs j e
one_place [] few i j e l b = absurd (omega arith)
one_place (x ∷ xs) few zero zero e l b = absurd (omega arith)
one_place (x ∷ xs) few zero (suc j) e l b = λ q.
    let here = occurrences-cons x x xs in
    let one = ap bit (eq-eqb x x refl) in
    let there : 1 ≤ occurrences x xs = rw (← q) at (occurrences-at xs j e (omega arith)) in
    absurd (omega (arith, few x, here, one, there))
one_place (x ∷ xs) few (suc i) zero e l b = absurd (omega arith)
one_place (x ∷ xs) few (suc i) (suc j) e l b =
    one_place xs (λ y. omega (arith, few y, occurrences-cons y x xs)) i j e (omega arith) (omega arith)

-- what is reached by the directories of the levels before k isn't below one of level k
below_no_frontier : (kinds : List ℕ) (entries : ℕ → List RoledEntry) (k t x : ℕ) {r : List Bool} {p q : List ℕ} →
    IsSane (graph_with kinds entries) → LevelsKnown (graph_with kinds entries) k r p q → 2 ≤ t →
    level (graph_with kinds entries) t ≡ Some k → bool_at r x ≡ true → is_elsewhere (number_at p) t x ≡ true
below_no_frontier kinds entries k t x {p = p} sane known two at reached =
    let g = graph_with kinds entries in
    let near : within g k x ≡ true = sym (known.reaches x) ∙ reached in
    let found = level-from g k x (within-bound g k x sane near) near in
    let up = known.parent x in
    go found.0 found.1 found.2 (rw near at up)
  where
    go : (j : ℕ) → j ≤ k → level (graph_with kinds entries) x ≡ Some j →
        number_at p x ≡ unwrap_or (parent (graph_with kinds entries) x) 0 → is_elsewhere (number_at p) t x ≡ true
    go zero l is up = let root = root_level (graph_with kinds entries) x is in grind (arith, nat_tests)
    go (suc j) l is up =
        let above = parent_above (graph_with kinds entries) j x is in
        let s = above.0 in
        let here = above.1 in
        let parent_is : number_at p x ≡ s = up ∙ ap (λ o. unwrap_or o 0) here.is in
        let other : (number_at p x ≡ t → ⊥) = λ e.
        let same : Some j ≡ Some k = sym here.near ∙ (ap (level (graph_with kinds entries)) (sym parent_is ∙ e) ∙ at) in
        let equal : j ≡ k = cc in absurd (omega arith) in
        let no = ne_eqb (number_at p x) t other in
        grind arith

-- none of the directories of a level is read before that
pub unread_level : {k : ℕ} {xs q p : List ℕ} {r : List Bool} (kinds : List ℕ) (entries : ℕ → List RoledEntry) →
    2 < length kinds → is_dir_at kinds 2 ≡ true → IsFrontier (graph_with kinds entries) k xs →
    LevelsKnown (graph_with kinds entries) k r p q → AreUnread r p xs
unread_level {k = k} {xs = xs} kinds entries some root frontier known =
    let sane = sane_of kinds entries some in
    record {
      each = λ i d l x reached.
          let t = get_or xs i d in
          let dir : is_dir_at kinds t ≡ true = frontier_dirs frontier root i d l in
          let two : 2 ≤ t = leb-true 2 t (and_parts (nat_le 2 t) _ dir).0 in
          let at : level (graph_with kinds entries) t ≡ Some k =
          is_value-true _ k (bit-one _ _ (frontier.members t) (occurrences-at xs i d l)) in
          below_no_frontier kinds entries k t x sane known two at reached;
      once = one_place xs (λ x. omega (arith, frontier.members x, bit-le (is_value (level (graph_with kinds entries) x) k)));
    }

-- the places of a level in the queue
pub other_place : (xs : List ℕ) (low a i : ℕ) {r : List Bool} {p : List ℕ} → AreUnread r p (drop low xs) → low ≤ a →
    a < i → i < length xs → number_at xs a ≢ number_at xs i
other_place xs low a i unread from less inside =
    let there : (n : ℕ) → low ≤ n → get_or (drop low xs) (n - low) 0 ≡ number_at xs n = λ n l.
    let one : low + (n - low) ≡ n = omega arith in get_or-drop low xs (n - low) 0 ∙ ap (number_at xs) one in
    let differ = unread.once (a - low) (i - low) 0 (omega arith) (omega (arith, length-drop low xs)) in
    rw (there a from, there i (omega arith)) at differ

-- ---- the directories of a level are read, one after another
-- those before `at` are, and those from there on aren't
pub record IsReadTo (kinds : List ℕ) (m r : List Bool) (p : List ℕ) (entries : ℕ → List RoledEntry)
    (right_shape : ℕ → Bool) (f : List Bool) (level : List ℕ) (low at : ℕ) : Type 0 where
  pub done : (i : ℕ) → low ≤ i → i < at →
      IsReadOnce (dir_by kinds m p (number_at level i)) r p (entries (number_at level i))
      (right_shape (number_at level i)) f
  pub unread : (i : ℕ) → at ≤ i → i < length level → IsUnread r p (number_at level i)

pub level_read : {kinds : List ℕ} {m r r' : List Bool} {p p' : List ℕ} {f : List Bool} (entries : ℕ → List RoledEntry)
    (right_shape : ℕ → Bool) (level : List ℕ) (low at : ℕ) → length level ≤ at → (AreUnread r p (drop low level) →
    IsReadTo kinds m r' p' entries right_shape f level low at) → AreUnread r p (drop low level) →
    All (λ d. IsReadOnce (dir_by kinds m p' d) r' p' (entries d) (right_shape d) f) (drop low level)
level_read {kinds = kinds} {m = m} {r' = r'} {p' = p'} {f = f} entries right_shape level low at end read unread =
    grind (arith, length-drop, get_or-drop, get_or_default)

pub read_from : {kinds : List ℕ} {m r : List Bool} {p : List ℕ} {entries : ℕ → List RoledEntry}
    {right_shape : ℕ → Bool} {f : List Bool} (level : List ℕ) (low : ℕ) → AreUnread r p (drop low level) →
    IsReadTo kinds m r p entries right_shape f level low low
read_from {r = r} {p = p} level low unread = record {
  done = λ i from before. absurd (omega arith);
  unread = λ i from inside. at_place (IsUnread r p) low i level unread.each from inside;
}

pub read_next : {r r' : List Bool} {p p' q q' : List ℕ} (kinds : List ℕ) (m f f' : List Bool)
    (entries : ℕ → List RoledEntry) (right_shape : ℕ → Bool) (level : List ℕ) (low at : ℕ) → low ≤ at →
    at < length level → ((i : ℕ) → at < i → i < length level → number_at level at ≢ number_at level i) →
    SameResult (from_entries kinds (number_at level at) (entries (number_at level at))) r p q nothing r' p' q' →
    bool_at r (number_at level at) ≡ true →
    IsFlagged (number_at level at) (all_calm kinds m r p (number_at level at) (entries (number_at level at)))
    (right_shape (number_at level at)) f f' → number_at level at < length f →
    IsReadTo kinds m r p entries right_shape f level low at →
    IsReadTo kinds m r' p' entries right_shape f' level low (at + 1)
read_next {r = r} {r' = r'} {p = p} {p' = p'} kinds m f f' entries right_shape level low at from inside others c h flags
    long read =
    let d = number_at level at in
    let grow = flags_grow d (all_calm kinds m r p d (entries d)) (right_shape d) f f' flags in
    record {
      done = λ i l b. elim (cases_lt i at) [
        | inl before ↦ read_once_stays (same_result_stays c) grow (read.done i l before)
        | inr after ↦
            let here : at ≡ i = omega arith in
            subst (λ z. IsReadOnce (dir_by kinds m p' (number_at level z)) r' p' (entries (number_at level z))
            (right_shape (number_at level z)) f') here
            (read_once m d (entries d) f f' c h flags long (read.unread at (omega arith) inside))
      ];
      unread = λ i l b. unread_next kinds (entries d) c (others i (omega arith) b)
          (read.unread i (omega arith) b);
    }

-- ---- all levels
-- the directories of a queue before `low` are read, and then those up to `high`
pub read_on_queue : {kinds : List ℕ} {m r r' : List Bool} {p p' : List ℕ} {f f' : List Bool}
    (entries : ℕ → List RoledEntry) (right_shape : ℕ → Bool) (low high : ℕ) (q q' : List ℕ) → low ≤ high → high ≤ length q →
    take high q' ≡ take high q → Stays r p r' p' → ((x : ℕ) → bool_at f x ≡ true → bool_at f' x ≡ true) →
    ((i : ℕ) → i < low → IsReadOnce (dir_by kinds m p (number_at q i)) r p (entries (number_at q i))
    (right_shape (number_at q i)) f) →
    All (λ d. IsReadOnce (dir_by kinds m p' d) r' p' (entries d) (right_shape d) f') (drop low (take high q)) →
    (i : ℕ) → i < high → IsReadOnce (dir_by kinds m p' (number_at q' i)) r' p' (entries (number_at q' i))
    (right_shape (number_at q' i)) f'
read_on_queue {kinds = kinds} {m = m} {r' = r'} {p' = p'} {f' = f'} entries right_shape low high q q' ordered inside kept
    stays more before now i l =
    let level_is : number_at (take high q) i ≡ number_at q' i =
    ap (λ xs. number_at xs i) (sym kept) ∙ get_or-take high q' i 0 l in
    let old_is : number_at (take high q) i ≡ number_at q i = get_or-take high q i 0 l in
    let P : ℕ → Type 0 = λ d. IsReadOnce (dir_by kinds m p' d) r' p' (entries d) (right_shape d) f' in
    elim (cases_lt i low) [
      | inl b ↦ subst P (sym old_is ∙ level_is) (read_once_stays stays more (before i b))
      | inr a ↦ subst P level_is
          (at_place P low i (take high q) now a (omega (arith, length-take high q, l, inside)))
    ]

-- each reached directory is in the queue
pub read_each : {kinds : List ℕ} {m r : List Bool} {p : List ℕ} {f : List Bool} (entries : ℕ → List RoledEntry)
    (right_shape : ℕ → Bool) (high : ℕ) (q : List ℕ) →
    ((x : ℕ) → occurrences x (take high q) ≡ bit (bool_at r x)) →
    ((i : ℕ) → i < high → IsReadOnce (dir_by kinds m p (number_at q i)) r p (entries (number_at q i))
    (right_shape (number_at q i)) f) → (d : ℕ) → bool_at r d ≡ true →
    IsReadOnce (dir_by kinds m p d) r p (entries d) (right_shape d) f
read_each {kinds = kinds} {m = m} {r = r} {p = p} {f = f} entries right_shape high q queued read d reached =
    grind (arith, occurrences-index, length-take, get_or-take)
