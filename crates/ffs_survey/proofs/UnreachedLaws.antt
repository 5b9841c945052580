-- The directories that aren't reached are read after the others: what that adds, and that the
-- survey is then whole.
use Rattle.std.proofs.Common.{◌≡◌, ℕ, zero, suc, ◌+◌, ◌<◌, ◌≤◌, ◌==◌, Bool, true, false, not, cond, ◌&&◌, ◌||◌, List}
use Rattle.std.proofs.{Common.{length, unwrap_or, refl, arith, sym, ◌∙◌, ap, subst, inl, inr}, lemmas.Bool.both_ways}
use Rattle.std.proofs.lemmas.Bool.{cases_Bool, cases_lt, and_left, and_right, and_parts, false_from_ne_true}
use Rattle.std.proofs.lemmas.List.{get_or_past}
use Rattle.ffs_volume.proofs.{LevelLaws.{reached-edge, reached-root}, SearchLaws.{some_below-suc, first_below-some}}
use Rattle.ffs_volume.{proofs.SearchLaws.first_below-is_none, specs.Directories.Graph.{Graph, is_naming_dir, edge}}
use Rattle.ffs_volume.specs.{Directories.Graph.{reached, parent}, Disk.Search.{first_below, earliest, some_below}}
use Rattle.ffs_volume.{proofs.{Graphs.IsSane, Unreached.parent-unreached}, specs.Directories.Roles.RoledEntry}
use Rattle.ffs_survey.specs.Discover.{Found, AreCountedOn, count_in, any_in, counted_by, IsReachedPart, IsRead}
use Rattle.ffs_survey.specs.{Discover.{is_unreached_dir, is_unreached_edge}, Survey.{bool_at, number_at}}
use Rattle.ffs_volume.specs.Encodings.Kinds.{is_dir_at}
use Rattle.ffs_survey.{specs.Survey.{graph_with, counted_in, start_in, IsSurvey}, proofs.Discovered.dir_below}
use Rattle.ffs_survey.proofs.Totals.{counted_both, some_both}

-- two tests that agree have the same first number
first_same : (p q : ℕ → Bool) (n : ℕ) → ((s : ℕ) → s < n → p s ≡ q s) → first_below p n ≡ first_below q n
unfolding first_below
first_same p q zero h = refl
first_same p q (suc n) h = ap (λ o. earliest o (p n) n) (first_same p q n (λ s l. h s (omega arith)))
    ∙ ap (λ b. earliest (first_below q n) b n) (h n (omega arith))

-- nothing is read before the first
pub read_start : {g : Graph} {kinds : List ℕ} {r : List Bool} {found : Found} → IsRead g kinds r 0 found found
unfolding counted_by first_below
read_start {found = found} = grind arith

-- the first parent, one directory further
first_step : (p : ℕ → Bool) (s o q q' : ℕ) (a : Bool) → p 0 ≡ false → (a ≡ true → o ≡ 0) → p s ≡ a →
    q ≡ unwrap_or (first_below p s) o → q' ≡ cond ((q == 0) && a) s q → q' ≡ unwrap_or (first_below p (suc s)) o
unfolding first_below
first_step p s o q q' a z k e h w = grind (arith, first_below-some)

-- a directory without a mark is read
pub read_on : {old mid new : Found} (kinds : List ℕ) (entries : ℕ → List RoledEntry) (r : List Bool) (s : ℕ) →
    is_unreached_dir kinds r s ≡ true → ((x : ℕ) → is_unreached_dir kinds r x ≡ true → number_at old.parents x ≡ 0) →
    IsRead (graph_with kinds entries) kinds r s old mid →
    AreCountedOn (length kinds) (count_in (entries s)) (any_in (entries s)) mid new →
    ((x : ℕ) → x < length kinds → number_at new.parents x
    ≡ cond ((number_at mid.parents x == 0) && (is_unreached_dir kinds r x && any_in (entries s) x)) s
    (number_at mid.parents x)) →
    IsRead (graph_with kinds entries) kinds r (s + 1) old new
unfolding counted_by
read_on {old = old} {mid = mid} {new = new} kinds entries r s unreached blank i c u =
    subst (λ n. IsRead g kinds r n old new) one (record {
      counts = λ x l.
          let one : cond (not (bool_at r s)) (counted_in g s x) 0 ≡ count_in (entries s) x = grind arith in
          omega (arith, i.counts x l, c.counts x l, one);
      names = λ x l.
          let was = i.names x l in let now = c.names x l in let one = share x in
          let more = some_below-suc (λ t. not (bool_at r t) && is_naming_dir g t x) s in
          grind arith;
      parent = λ x l.
          first_step (is_unreached_edge g kinds r x) s (number_at old.parents x) (number_at mid.parents x)
          (number_at new.parents x)
          (is_unreached_dir kinds r x && any_in (entries s) x)
          (and_right (is_unreached_dir kinds r x) _ (and_right (not (bool_at r 0)) (is_naming_dir g 0 x) refl))
          (λ t. blank x (and_parts (is_unreached_dir kinds r x) (any_in (entries s) x) t).0)
          (ap (λ y. is_unreached_dir kinds r x && y) (sym (share x))) (i.parent x l) (u x l);
    })
  where
    g : Graph
    g = graph_with kinds entries

    one : suc s ≡ s + 1
    one = omega arith

    share : (x : ℕ) → any_in (entries s) x ≡ (not (bool_at r s) && is_naming_dir g s x)
    share x = grind arith

-- any other is passed over
pub read_skip : {old new : Found} (kinds : List ℕ) (entries : ℕ → List RoledEntry) (r : List Bool) (s : ℕ) →
    is_unreached_dir kinds r s ≡ false → IsRead (graph_with kinds entries) kinds r s old new →
    IsRead (graph_with kinds entries) kinds r (s + 1) old new
unfolding counted_by first_below
read_skip {old = old} {new = new} kinds entries r s taken i = grind arith

-- where none is unreached nothing is read
pub read_none : {found : Found} (kinds : List ℕ) (entries : ℕ → List RoledEntry) (r : List Bool) (n : ℕ) →
    ((x : ℕ) → x < n → is_unreached_dir kinds r x ≡ false) →
    IsRead (graph_with kinds entries) kinds r n found found
read_none kinds entries r zero none = read_start
read_none {found = found} kinds entries r (suc n) none =
    let one : n + 1 ≡ suc n = omega arith in
    subst (λ k. IsRead (graph_with kinds entries) kinds r k found found) one
    (read_skip kinds entries r n (none n (omega arith)) (read_none kinds entries r n (λ x low. none x (omega (arith, low)))))

-- a reached directory has no edge to an unreached one
unreached_edges : (kinds : List ℕ) (entries : ℕ → List RoledEntry) (r : List Bool) (x s : ℕ) → s < length kinds →
    x < length kinds → ((y : ℕ) → bool_at r y ≡ reached (graph_with kinds entries) y) → bool_at r x ≡ false
    → is_unreached_edge (graph_with kinds entries) kinds r x s ≡ edge (graph_with kinds entries) s x
unreached_edges kinds entries r x s ls lx h off =
    let g = graph_with kinds entries in
    let none : bool_at r s ≡ true → edge g s x ≡ false = λ y. false_from_ne_true (edge g s x)
    (λ t. both_ways (reached g x) (sym (h x) ∙ off) (reached-edge g s x ls lx (sym (h s) ∙ y) t)) in
    grind arith

-- both parts
pub survey_whole : {given starts : List ℕ} {r : List Bool} {old new : Found} (kinds : List ℕ)
    (entries : ℕ → List RoledEntry) → IsSane (graph_with kinds entries) → length r ≡ length kinds →
    length new.parents ≡ length kinds → ((x : ℕ) → number_at starts x ≡ start_in given x) →
    IsReachedPart (graph_with kinds entries) starts old.references old.named r old.parents →
    IsRead (graph_with kinds entries) kinds r (length kinds) old new →
    IsSurvey (graph_with kinds entries) given new.references new.named r new.parents
survey_whole {r = r} {old = old} {new = new} kinds entries sane lr lp begins i k = record {
  counts = λ x l. omega (arith, k.counts x l, i.counts x l, counted_both (bool_at r) g x (length kinds), begins x);
  names = λ x l. k.names x l
      ∙ (ap (λ b. b || some_below (λ s. not (bool_at r s) && is_naming_dir g s x) (length kinds)) (i.names x l)
      ∙ some_both (bool_at r) (λ s. is_naming_dir g s x) (length kinds));
  reaches = i.reaches;
  parent_is = λ x. elim (cases_lt x (length kinds)) [ inl l ↦ below x l | inr b ↦ past x b ];
}
  where
    g : Graph
    g = graph_with kinds entries

    unreached_first : (x : ℕ) → bool_at r x ≡ false → parent g x ≡ first_below (λ s. edge g s x) (length kinds)
    unreached_first x off = parent-unreached g x
        (λ y. both_ways (reached g 2) (subst (λ z. reached g z ≡ false) y (sym (i.reaches x) ∙ off))
        (reached-root g sane.some)) (sym (i.reaches x) ∙ off)

    past : (x : ℕ) → length kinds ≤ x → number_at new.parents x ≡ unwrap_or (parent g x) 0
    past x b =
        let off : bool_at r x ≡ false = get_or_past r x false (omega arith) in
        let dry = false_from_ne_true (is_dir_at kinds x) (λ t. absurd (omega (arith, dir_below kinds x t))) in
        let none = first_below-is_none (λ s. edge g s x) (length kinds)
        (λ s l. and_left (is_dir_at kinds x) (is_naming_dir g s x) dry) in
        get_or_past new.parents x 0 (omega arith) ∙ sym (ap (λ o. unwrap_or o 0) (unreached_first x off ∙ none))

    below : (x : ℕ) → x < length kinds → number_at new.parents x ≡ unwrap_or (parent g x) 0
    below x l =
        let a = k.parent x l in
        let b = i.parent x in
        let c = i.reaches x in
        elim (cases_Bool (bool_at r x)) [
          | inl on ↦
              let none = first_below-is_none (is_unreached_edge g kinds r x) (length kinds)
              (λ s b. and_left (is_unreached_dir kinds r x) _ (and_right (is_dir_at kinds x) _ (ap not on))) in
              grind arith
          | inr off ↦
              let same = first_same (is_unreached_edge g kinds r x) (λ s. edge g s x) (length kinds)
              (λ s b. unreached_edges kinds entries r x s b l i.reaches off) in
              let first = unreached_first x off in
              grind arith
        ]
