-- The way from a directory up to the root.
use Rattle.std.proofs.Common.{◌≡◌, ◌≢◌, ℕ, zero, suc, ◌+◌, ◌<◌, Bool, false, true, List, [], ◌∷◌, ◌++◌, Some, refl, sym, ap}
use Rattle.std.proofs.Common.{subst, ◌∙◌, arith, append_assoc, ◌*◌, cond, length, ltb-false, ltb-true, ◌≤◌, unwrap_or, option_map}
use Rattle.std.{specs.List.list_any, proofs.lemmas.Bool.{both_ways, and_parts, ne_eqb, cond-false, eq-eqb}}
use Rattle.ffs_volume.{proofs.LevelLaws.{level-some, within-zero, reached-level}, specs.Directories.Graph.Graph}
use Rattle.ffs_volume.specs.Directories.{Graph.{level, is_naming_entry, is_naming_dir, parent}, Naming.graph_of}
use Rattle.ffs_volume.specs.Directories.Paths.{joined, longest_end, names_down, path_bytes, dir_path, dir_path_of_names, entry_path}
use Rattle.ffs_volume.{specs.Directories.{Roles.RoledEntry}, proofs.PathBound.path_text-fits}
use Rattle.ffs_volume.specs.{Directories.Volumes.{volume_of, volume_with}, declared.Layout.Layout}
use Rattle.ffs_paths.{specs.Climbing.{in_room, name_in, IsNameIn, IsParentOf}, proofs.{Held.first_cut, LongestEnds.end_within}}
use Rattle.ffs_paths.{proofs.NoSlashes.down_single, specs.{Buffers.HoldsNames, DirectoryPaths.{HoldsPath, IsPathOf}}}
use Rattle.ffs_paths.specs.{KeptParents.{IsKeptParent, LeadsTo}, NameTexts.name_bytes, Slashes.HaveNoSlash}
use Rattle.ffs_paths.specs.declared.{buffer.PathBuffer.PathBuffer, kept_parent.KeptParent.KeptParent}
use Rattle.ffs_paths.specs.declared.path.DirectoryPath.{DirectoryPath}
use Rattle.ffs_survey.proofs.ParentLaws.{parent_above, root_level}
use Rattle.ffs_workspace.{proofs.PlaceLaws.name_in-cons, specs.Holds.HoldsSurvey}
use Rattle.ffs_workspace.specs.declared.workspace.Workspace.{Workspace}

-- the first name, by whether the first entry has it
pub name_in-by : {b : Bool} (d : ℕ) (e : RoledEntry) (es : List RoledEntry) → is_naming_entry d e ≡ b →
    name_in d (e ∷ es) ≡ cond b e.entry.name (name_in d es)
name_in-by d e es h = name_in-cons d e es ∙ ap (λ b. cond b e.entry.name (name_in d es)) h

-- the climb from d, of level k, has reached a directory, with the names below it
pub record IsOnWay (g : Graph) (k d at step : ℕ) (p : PathBuffer) : Type 0 where
  pub left : ℕ
  pub level : level g at ≡ Some left
  pub steps : left + step ≡ k
  pub following : List (List ℕ)
  pub count : length following ≡ step
  pub held : HoldsNames p following
  pub whole : names_down g left at ++ following ≡ names_down g k d
  pub read : step ≤ suc (length (longest_end 1024 (names_down g k d)))

-- while its names have room, they are in the longest end
pub way_room : {g : Graph} {k d at step : ℕ} {p : PathBuffer} → IsOnWay g k d at step p → p.cut ≡ false →
    step ≤ length (longest_end 1024 (names_down g k d))
way_room {g = g} {at = at} w room =
    let within = subst (λ names. length w.following ≤ length (longest_end 1024 names)) w.whole
    (end_within 1024 (names_down g w.left at) w.following (ltb-false 1024 _ (sym w.held.cut ∙ room))) in
    omega (arith, w.count, within)

-- a path that is cut holds any names above, too
above_cut : (p : PathBuffer) (above names : List (List ℕ)) → p.cut ≡ true → HoldsNames p names →
    HoldsNames p (above ++ names)
above_cut p [] names c h = h
above_cut p (name ∷ above) names c h =
    let r = above_cut p above names c h in
    let over = ltb-true 1024 (length (joined (above ++ names))) (sym r.cut ∙ c) in
    first_cut p p name (above ++ names) r c (omega arith) refl

pub way_cut : {g : Graph} {k d at step : ℕ} {p : PathBuffer} → IsOnWay g k d at step p → p.cut ≡ true →
    HoldsNames p (names_down g k d)
way_cut {g = g} {at = at} {p = p} w c =
    subst (HoldsNames p) w.whole (above_cut p (names_down g w.left at) w.following c w.held)

names_root : (g : Graph) (k : ℕ) → level g 2 ≡ Some k → names_down g k 2 ≡ []
unfolding names_down
names_root g zero h = refl
names_root g (suc k) h = absurd
    (both_ways _ ((level-some g (suc k) 2 h).0.least 0 (omega arith)) (within-zero g 2 ∙ eq-eqb 2 2 refl))

pub way_root : {g : Graph} {k d at step : ℕ} {p : PathBuffer} → IsOnWay g k d at step p → at ≡ 2 →
    HoldsNames p (names_down g k d)
way_root {g = g} {p = p} w e = grind (arith, names_root)

-- a level is below the number of inodes
pub way_long : {g : Graph} {k d at step : ℕ} {p : PathBuffer} → IsOnWay g k d at step p → level g d ≡ Some k →
    step < g.count
way_long {g = g} {k = k} {d = d} w h = let l = (level-some g k d h).1 in let s = w.steps in omega arith

-- s is above the directory d of level k, which isn't the root
pub record HasParent (g : Graph) (k d s : ℕ) : Type 0 where
  pub is : parent g d ≡ Some s
  pub below : s < g.count
  pub dir : g.is_dir s ≡ true
  pub left : ℕ
  pub step : k ≡ left + 1
  pub level : level g s ≡ Some left
  pub down : names_down g k d ≡ names_down g left s ++ name_in d (g.entries s) ∷ []

down_is : (g : Graph) (j at s : ℕ) → at ≢ 2 → parent g at ≡ Some s → names_down g (suc j) at ≡ names_down g j s
    ++ name_in at (g.entries s) ∷ []
unfolding names_down
down_is g j at s n e = grind (arith, cond-false, ne_eqb)

pub parent_is : (g : Graph) (k d s : ℕ) → level g d ≡ Some k → d ≢ 2 → s ≡ unwrap_or (parent g d) 0 → HasParent g k d s
parent_is g zero d s l n e = absurd (n (root_level g d l))
parent_is g (suc j) d s l n e =
    let a = parent_above g j d l in
    let linked = and_parts (g.is_dir d) (is_naming_dir g a.0 d) a.1.linked in
    subst (HasParent g (suc j) d) (sym (e ∙ ap (λ o. unwrap_or o 0) a.1.is)) (record {
      is = a.1.is;
      below = a.1.below;
      dir = (and_parts (g.is_dir a.0) (list_any (is_naming_entry d) (g.entries a.0)) linked.1).0;
      left = j;
      step = omega arith;
      level = a.1.near;
      down = down_is g j d a.0 n a.1.is;
    })

pub way_up : {g : Graph} {k d at step : ℕ} {p : PathBuffer} (s : ℕ) (q : PathBuffer) (w : IsOnWay g k d at step p) →
    p.cut ≡ false → HasParent g w.left at s
    → ((following : List (List ℕ)) → HoldsNames p following → HoldsNames q (name_in at (g.entries s) ∷ following)) →
    IsOnWay g k d s (step + 1) q
way_up {g = g} {at = at} s q w room above f = let more = way_room w room in grind (arith, append_assoc)

-- the numbers of the graph are those of the inodes
pub count_is : (v : Layout) (b : List ℕ) → (graph_of (volume_of v b)).count ≡ v.ncg * v.ipg
unfolding volume_of volume_with
count_is v b = refl

-- ---- a child of a directory whose path is kept
-- a path is kept, and the name of a child by its parent
pub kept_parent_is : (v : Layout) (b : List ℕ) (w : Workspace) (s : KeptParent) → HoldsSurvey v b w →
    IsParentOf w s.child s.parent → IsPathOf (graph_of (volume_of v b)) s.parent s.path →
    IsNameIn (graph_of (volume_of v b)) s.child s.parent (name_bytes s.name) → IsKeptParent (graph_of (volume_of v b)) s
kept_parent_is v b w s survey of path name =
    let g = graph_of (volume_of v b) in
    let l = reached-level g s.child (sym (survey.tree.reached s.child) ∙ of.reached) in
    let above = parent_is g l.0 s.child s.parent l.1 (omega (arith, of.below)) (of.is ∙ survey.tree.parents s.child) in
    record {
      path = λ some. path;
      parent = λ some. of.some;
      child = λ some. subst (LeadsTo g s.parent s.child) (sym (name above.is above.dir)) (record {
        names = names_down g above.left s.parent;
        to_parent = ap (option_map (λ j. names_down g j s.parent)) above.level;
        to_child = ap (option_map (λ j. names_down g j s.child)) l.1 ∙ ap Some above.down;
        single = subst HaveNoSlash above.down (down_single v b l.0 s.child);
      });
    }

-- the path that is made of that of the parent
pub child_made : (g : Graph) (s : KeptParent) (made : DirectoryPath) → IsKeptParent g s → 0 < s.child →
    ((names : List (List ℕ)) → HoldsPath s.path (Some names)
    → HaveNoSlash (names ++ name_bytes s.name ∷ []) → HoldsPath made (Some (names ++ name_bytes s.name ∷ [])))
    → IsPathOf g s.child made
child_made g s made kept some makes = grind arith

-- a path of at least one name
path_of_some : (names : List (List ℕ)) (name : List ℕ) →
    path_bytes (names ++ name ∷ []) ≡ dir_path_of_names (Some (names ++ name ∷ []))
path_of_some [] name = refl
path_of_some (x ∷ names) name = refl

-- the path that is written as that of an entry of the parent
pub child_put : (g : Graph) (s : KeptParent) (text : List ℕ) → IsKeptParent g s → 0 < s.child →
    ((g : Graph) (d : ℕ) → IsPathOf g d s.path → text ≡ in_room (entry_path g d (name_bytes s.name))) →
    text ≡ dir_path g s.child
unfolding dir_path entry_path
child_put g s text kept some put = grind (arith, path_text-fits, path_of_some)
