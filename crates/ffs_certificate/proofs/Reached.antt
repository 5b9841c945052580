-- Which directories are reached, and that lines UNREF DIR and EXTRANEOUS HARD LINK say so.
use Rattle.std.proofs.Common.{arith, ◌≡◌, ◌≢◌, ℕ, Bool, true, false, ◌↔◌, Some, sym, ◌∙◌, inl, inr, zero, suc}
use Rattle.std.proofs.{Common.{List, [], ◌∷◌}, lemmas.Bool.{both_ways, cases_Bool, and_parts, and_from, or_cases}}
use Rattle.std.{proofs.lemmas.Bool.{or_right, false_from_ne_true, ne_eqb, eqb-true}, specs.List.list_any}
use Rattle.ffs_volume.specs.{Disk.Search.some_below, Directories.Graph.{Graph, edge, reached, parent, level}}
use Rattle.ffs_volume.specs.Directories.Graph.{level_edge, first_index, test_at, is_naming_entry_at}
use Rattle.ffs_volume.specs.Directories.Connectivity.{is_lost_in, is_dead_in, none_or_dead, is_unref_dir_in}
use Rattle.ffs_volume.{specs.Directories.Roles.RoledEntry, proofs.Graphs.{IsSane, AllReached, NoneDead, NoUnrefDir}}
use Rattle.ffs_volume.proofs.{Graphs.{IsParentEntry, NoExtraneous, LinksRight}, Unreached.{IsLost, lost-true}}
use Rattle.ffs_volume.proofs.{Unreached.parent-unreached, SearchLaws.{some_below-gives, some_below-false}}
use Rattle.ffs_volume.proofs.{SearchLaws.{first_below-some, some_below-from, first_below-is}, LevelLaws.reached-edge}
use Rattle.ffs_volume.proofs.LevelLaws.{reached-root, within-zero, level-some, level-before, level-is, reached-level}
use Rattle.ffs_volume.proofs.ClimbLaws.{StaysBelow, some_leader, is_value-from}

-- a lost directory without a line has a lost parent
lost-next : (v : Graph) (suspect : ℕ → Bool) (d : ℕ) → IsSane v → IsLost v suspect d → is_unref_dir_in v suspect d ≡
    false
    → (s : ℕ) × (parent v d ≡ Some s) × (is_lost_in v suspect s ≡ true)
lost-next v suspect d sane l u = grind (arith, first_below-some, parent-unreached, reached-edge, reached-root)

-- where some directory is lost, one has a line
pub lost-reported : (v : Graph) (suspect : ℕ → Bool) (d : ℕ) → IsSane v → is_lost_in v suspect d ≡ true →
    (e : ℕ) × (is_unref_dir_in v suspect e ≡ true)
lost-reported v suspect d sane h =
    elim (cases_Bool (some_below (is_unref_dir_in v suspect) v.count)) [
      | inl y ↦ let w = some_below-gives (is_unref_dir_in v suspect) v.count y in (w.0, w.1.passes)
      | inr y ↦
          let quiet = some_below-false (is_unref_dir_in v suspect) v.count y in
          let g : StaysBelow (parent v) (is_lost_in v suspect) v.count = grind (arith, lost-next, lost-true) in
          let w = some_leader (parent v) (is_lost_in v suspect) v.count d g h in
          (w.0, and_from (is_lost_in v suspect w.0) _ w.1 (or_right (none_or_dead v suspect (parent v w.0)) _ w.2))
    ]

-- the law: with nothing dead, phase 3 is silent exactly where each directory is reached
pub silent-reached : (v : Graph) (suspect : ℕ → Bool) → IsSane v → NoneDead v suspect →
    NoUnrefDir v suspect ↔ AllReached v
silent-reached v suspect sane quiet = (
  (λ none d h. elim (cases_Bool (reached v d)) [
    | inl y ↦ y
    | inr y ↦ absurd (elim (or_cases (is_dead_in v suspect d) (is_lost_in v suspect d)
        (grind (arith, reached-root))) [
          | inl a ↦ both_ways (is_dead_in v suspect d) (quiet d) a
          | inr b ↦ let w = lost-reported v suspect d sane b in both_ways (is_unref_dir_in v suspect w.0) (none w.0) w.1
        ])
  ]),
  (λ all d. false_from_ne_true (is_unref_dir_in v suspect d) (λ t.
      let l = lost-true v suspect d (and_parts (is_lost_in v suspect d) _ t).0 in
      both_ways (reached v d) l.unreached (all d l.dir))),
)

-- a reached directory has a parent, with an edge
pub parent_edge : (v : Graph) (d : ℕ) → d ≢ 2 → reached v d ≡ true → (s : ℕ) × (parent v d ≡ Some s)
    × (edge v s d ≡ true)
unfolding parent
parent_edge v d n r =
    let k = reached-level v d r in go k.0 k.1
  where
    go : (k : ℕ) → level v d ≡ Some k → (s : ℕ) × (parent v d ≡ Some s) × (edge v s d ≡ true)
    go zero e = absurd (n (eqb-true d 2 (sym (within-zero v d) ∙ (level-some v 0 d e).0.within_k)))
    go (suc k) e =
        let b = level-before v k d (level-some v (suc k) d e).0 in
        let w = some_below-gives (λ s. level_edge v k s d) v.count
        (some_below-from (λ s. level_edge v k s d) v.count b.0 b.1 (grind (arith, is_value-from, level-is))) in
        let first = first_below-is (λ s. level_edge v k s d) v.count w.0 w.1 in
        (w.0, grind (arith, ne_eqb), grind arith)

pub place_of : (p : RoledEntry → Bool) (es : List RoledEntry) → list_any p es ≡ true →
    (j : ℕ) × (first_index p es ≡ Some j) × (test_at p j es ≡ true)
place_of p [] h = absurd (cc)
place_of p (e ∷ es) h =
    elim (cases_Bool (p e)) [
      | inl y ↦ (0, grind arith, y)
      | inr n ↦ let r = place_of p es (grind arith) in (suc r.0, grind arith, r.2)
    ]

-- a reached directory has a parent entry, which names it
pub has_parent_entry : (v : Graph) (d : ℕ) → d ≢ 2 → reached v d ≡ true → (s : ℕ) × (j : ℕ) × IsParentEntry v s j d
    × (is_naming_entry_at v s j d ≡ true)
has_parent_entry v d n r = grind (arith, parent_edge, place_of)

pub links-right : (v : Graph) → v.is_dir 2 ≡ true → AllReached v → NoExtraneous v ↔ LinksRight v
links-right v two all = grind (arith, has_parent_entry)
