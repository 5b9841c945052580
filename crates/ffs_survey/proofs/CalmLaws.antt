-- Directories that are called calm are calm, and stay so.
use Rattle.std.proofs.Common.{◌≡◌, ℕ, suc, ◌+◌, ◌<◌, ◌==◌, Bool, true, false, ◌&&◌, nat_le, List, [], ◌∷◌, length}
use Rattle.std.proofs.{Common.{Option, arith, ◌∙◌, ap, inl, get_or, inr}, lemmas.Bool.{both_ways, eqb-true, and_parts}}
use Rattle.std.{proofs.lemmas.{Bool.{or_cases, or_parts}, List.get_or_past}, specs.List.list_any}
use mathlib.Core.Path.{fun_ext}
use Rattle.ffs_volume.specs.Directories.{Graph.{Graph, is_naming_entry}, Roles.{RoledEntry, is_plain}}
use Rattle.ffs_volume.specs.declared.Role.TheVariants.{Empty, Dot, Dotdot, Extra, Plain}
use Rattle.ffs_volume.{proofs.SearchLaws.first_below-is_none, specs.{declared.Role.Role, Costs.Calm.CurrentDir}}
use Rattle.ffs_volume.specs.Costs.Calm.{is_calm_role, is_calm_entry, reached_after, are_calm}
use Rattle.ffs_volume.specs.Encodings.Kinds.{is_dir_at}
use Rattle.ffs_survey.specs.{Calm.{dir_by, AreCalm, IsCalm, IsFlagged}, Discover.{from_entries, IsFrontier}}
use Rattle.ffs_survey.specs.{Discover.{LevelsKnown, Found, IsRead}, Survey.{bool_at, number_at}}
use Rattle.ffs_survey.proofs.{Frontiers.frontier_within, Remaining.{nothing, SameResult}}

-- a calm plain entry that names a directory is before any other that reaches it
pub calm_names_new : (s : CurrentDir) (reached : ℕ → Bool) (i x : ℕ) (role : Role) (number kind : ℕ) →
    is_calm_role s reached i role number kind ≡ true → is_dir_at s.kinds x ≡ true → (is_plain role && (number == x)) ≡ true
    → reached x ≡ false
calm_names_new s reached i x Empty number kind c d n = absurd (cc)
calm_names_new s reached i x Dot number kind c d n = absurd (cc)
calm_names_new s reached i x Dotdot number kind c d n = absurd (cc)
calm_names_new s reached i x Extra number kind c d n = absurd (cc)
calm_names_new s reached i x Plain number kind c d n = grind arith

-- directories that calm entries name weren't reached before them
pub calm_new : (s : CurrentDir) (reached : ℕ → Bool) (i x : ℕ) (es : List RoledEntry) → are_calm s reached i es ≡ true →
    is_dir_at s.kinds x ≡ true → list_any (is_naming_entry x) es ≡ true → reached x ≡ false
calm_new s reached i x [] c d n = absurd (cc)
calm_new s reached i x (e ∷ es) c d n =
    let p = and_parts (is_calm_entry s reached i e) _ c in
    elim (or_cases (is_naming_entry x e) (list_any (is_naming_entry x) es) n) [
      | inl here ↦ calm_names_new s reached i x e.role e.entry.number e.entry.kind p.0 d here
      | inr later ↦ (or_parts (reached x) _ (calm_new s (reached_after s.kinds reached e) (suc i) x es p.1 d later)).0
    ]

-- what was reached, and its parents, stay
pub record Stays (r : List Bool) (p : List ℕ) (r' : List Bool) (p' : List ℕ) : Type 0 where
  pub reached : (x : ℕ) → bool_at r x ≡ true → bool_at r' x ≡ true
  pub parents : (x : ℕ) → bool_at r x ≡ true → number_at p' x ≡ number_at p x

pub same_result_stays : {a : ℕ → Option ℕ} {r r' : List Bool} {p p' q q' : List ℕ} →
    SameResult a r p q nothing r' p' q' → Stays r p r' p'
same_result_stays c = grind arith

calm_stays : {kinds : List ℕ} {m r r' : List Bool} {p p' : List ℕ} {es : List RoledEntry} {right_shape : Bool} {d : ℕ} →
    Stays r p r' p' → IsCalm (dir_by kinds m p d) r p es right_shape → IsCalm (dir_by kinds m p' d) r' p' es right_shape
calm_stays {d = d} s c = grind arith

-- all entries of d are calm, by what was reached before it was read
abbrev pub all_calm : List ℕ → List Bool → List Bool → List ℕ → ℕ → List RoledEntry → Bool
all_calm kinds m r p d es =
    are_calm (record { kinds = kinds; marked = m; dir = d; parent = number_at p d }) (bool_at r) 0 es

-- a directory is calm once it is read, by its entries and its shape
calm_found : {kinds : List ℕ} {r r' : List Bool} {p p' q q' : List ℕ} {right_shape : Bool} (m : List Bool) (d : ℕ)
    (es : List RoledEntry) → SameResult (from_entries kinds d es) r p q nothing r' p' q' → bool_at r d ≡ true →
    all_calm kinds m r p d es ≡ true → right_shape ≡ true → IsCalm (dir_by kinds m p' d) r' p' es right_shape
calm_found {kinds = kinds} {r = r} {p = p} m d es c h calm right =
    let s = same_result_stays c in
    record {
      before = bool_at r;
      begins = h;
      entries_right = rw (s.parents d h) calm;
      shape_right = right;
      is_reached = s.reached d h;
      below = λ x dir n.
          let new = calm_new (record { kinds = kinds; marked = m; dir = d; parent = number_at p d }) (bool_at r) 0 x es
          calm dir n in
          let now = c.reaches x in
          let up = c.parent x in
          (grind arith, grind arith);
    }

-- no entry is left
none_left : (kinds : List ℕ) (s x : ℕ) → from_entries kinds s [] x ≡ nothing x
none_left kinds s x = grind arith

-- a directory is read
pub record IsReadWhole (kinds : List ℕ) (m r r' : List Bool) (p p' q q' : List ℕ) (es : List RoledEntry) (d : ℕ)
    (calm_so_far : Bool) : Type 0 where
  pub same_result : SameResult (from_entries kinds d es) r p q nothing r' p' q'
  pub calm_is : calm_so_far ≡ all_calm kinds m r p d es

pub read_whole : {r r' : List Bool} {p p' q q' : List ℕ} (kinds : List ℕ) (m : List Bool) (es rest : List RoledEntry)
    (d parent count : ℕ) (calm_so_far : Bool) → parent ≡ number_at p d → rest ≡ [] →
    SameResult (from_entries kinds d es) r p q (from_entries kinds d rest) r' p' q' →
    (calm_so_far && are_calm (record { kinds = kinds; marked = m; dir = d; parent = parent }) (bool_at r') count rest)
    ≡ are_calm (record { kinds = kinds; marked = m; dir = d; parent = parent }) (bool_at r) 0 es →
    IsReadWhole kinds m r r' p p' q q' es d (calm_so_far && nat_le 2 count)
read_whole kinds m es rest d parent count calm_so_far up none c e = grind arith

-- the flags after a directory is read: one that is set is an old one, or the one that was set now
pub calm_read : {kinds : List ℕ} {m r r' : List Bool} {p p' q q' : List ℕ} (entries : ℕ → List RoledEntry)
    (right_shape : ℕ → Bool) (d : ℕ) (f f' : List Bool) →
    SameResult (from_entries kinds d (entries d)) r p q nothing r' p' q' → bool_at r d ≡ true →
    IsFlagged d (all_calm kinds m r p d (entries d)) (right_shape d) f f' →
    AreCalm kinds m r p entries right_shape f → AreCalm kinds m r' p' entries right_shape f'
calm_read {kinds = kinds} {m = m} {r' = r'} {p' = p'} entries right_shape d f f' c h flagged old x set =
    grind (arith, or_cases, eqb-true, calm_found)

-- the step of the loop over a directory
pub calm_step : {r r' : List Bool} {p p' q q' : List ℕ} {calm_so_far' total : Bool} (s : CurrentDir) (i : ℕ)
    (e : RoledEntry) (es : List RoledEntry) (calm_so_far : Bool) →
    SameResult (from_entries s.kinds s.dir (e ∷ [])) r p q nothing r' p' q' →
    calm_so_far' ≡ (calm_so_far && is_calm_entry s (bool_at r) i e) →
    (calm_so_far && are_calm s (bool_at r) i (e ∷ es)) ≡ total →
    (calm_so_far' && are_calm s (bool_at r') (i + 1) es) ≡ total
calm_step {r = r} {r' = r'} {calm_so_far' = calm_so_far'} s i e es calm_so_far c step old =
    let same : bool_at r' ≡ reached_after s.kinds (bool_at r) e = fun_ext (λ x. let now = c.reaches x in grind arith) in
    let next : i + 1 ≡ suc i = omega arith in
    let after = ap (λ z. are_calm s z (i + 1) es) same
    ∙ ap (λ n. are_calm s (reached_after s.kinds (bool_at r) e) n es) next in
    grind arith

-- no flag is set
pub calm_none : {kinds : List ℕ} {m r : List Bool} {p : List ℕ} (entries : ℕ → List RoledEntry) (right_shape : ℕ → Bool)
    (f : List Bool) → ((x : ℕ) → bool_at f x ≡ false) → AreCalm kinds m r p entries right_shape f
calm_none entries right_shape f none x set = absurd (both_ways (bool_at f x) (none x) set)

-- the parents of directories that aren't reached don't matter
pub calm_unreached : {kinds : List ℕ} {m r : List Bool} {p p' : List ℕ} {entries : ℕ → List RoledEntry}
    {right_shape : ℕ → Bool} (f : List Bool) → ((x : ℕ) → bool_at r x ≡ true → number_at p' x ≡ number_at p x) →
    AreCalm kinds m r p entries right_shape f → AreCalm kinds m r p' entries right_shape f
calm_unreached f same old x set = calm_stays (record { reached = λ y h. h; parents = same }) (old x set)

-- the directories of a level are reached
pub frontier_reached : {v : Graph} {k : ℕ} {xs : List ℕ} {r : List Bool} {p q : List ℕ} → IsFrontier v k xs →
    LevelsKnown v k r p q → (i d : ℕ) → i < length xs → bool_at r (get_or xs i d) ≡ true
frontier_reached {xs = xs} f l i d h = l.reaches (get_or xs i d) ∙ frontier_within f i d h

-- reading the directories that aren't reached leaves the parents of those that are
pub read_stays : {g : Graph} {kinds : List ℕ} {r : List Bool} {n : ℕ} {old new : Found} → IsRead g kinds r n old new →
    length r ≡ g.count → (x : ℕ) → bool_at r x ≡ true → number_at new.parents x ≡ number_at old.parents x
read_stays {g = g} {kinds = kinds} {r = r} {n = n} {old = old} read long x h =
    grind (arith, first_below-is_none, get_or_past)
