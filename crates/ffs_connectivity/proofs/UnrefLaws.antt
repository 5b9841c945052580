-- The test of an unreferenced directory, from what a workspace holds of each inode.
use Rattle.std.proofs.Common.{◌≡◌, ◌≢◌, ℕ, zero, suc, ◌<◌, ◌==◌, false, ◌||◌, nat_le, List, length}
use Rattle.std.proofs.Common.{Option, None, Some, unwrap_or, refl, arith, ◌∙◌, ap, inl, inr, ◌⊎◌}
use Rattle.std.proofs.lemmas.Bool.Decides.{nat_tests}
use mathlib.Core.Path.{fun_ext}
use Rattle.ffs_volume.specs.Directories.{Climb.is_leader_within, Graph.{Graph, parent, parent_by}, Naming.graph_of}
use Rattle.ffs_volume.specs.Directories.{Connectivity.{is_dead, is_unref_dir, none_or_dead}, Roles.{is_dir, is_suspect}}
use Rattle.ffs_volume.specs.{declared.Layout.Layout, Blocks.Inodes.inodes_of, Encodings.Kinds.is_dir_at}
use Rattle.ffs_volume.{specs.Directories.Volumes.{volume_of, volume_with}, proofs.{Graphs.IsSane, SearchLaws.first_below-some}}
use Rattle.ffs_survey.specs.Survey.{bool_at, number_at}
use Rattle.ffs_workspace.specs.{declared.workspace.Workspace.Workspace, Holds.{HoldsBlockCheck, HoldsSurvey}, Lengths.IsFor}
use Rattle.ffs_workspace.proofs.KindLaws.{dir_is, suspect_is}
use Rattle.ffs_connectivity.specs.{Cycles.parent_in, Leaders.HasLeaders, Phase3.{is_dead_inode, is_unref_by}}

-- what a parent is
record IsParent (v : Graph) (s : ℕ) : Type 0 where
  some : s ≢ 0
  below : s < v.count

parent_by-dir : (v : Graph) (x s : ℕ) (o : Option ℕ) → v.is_dir 0 ≡ false → parent_by v x o ≡ Some s → IsParent v s
parent_by-dir v x s None z h = grind (arith, first_below-some)
parent_by-dir v x s (Some zero) z h = absurd (cc)
parent_by-dir v x s (Some (suc k)) z h = grind (arith, first_below-some)

-- a list holds the parent of d, 0 for none
abbrev Holds : Graph → List ℕ → ℕ → Type 0
Holds v p d = ((parent v d ≡ None) × (number_at p d ≡ 0))
    ⊎ ((parent v d ≡ Some (number_at p d)) × IsParent v (number_at p d))

holds : (v : Graph) (p : List ℕ) (d : ℕ) → IsSane v → v.is_dir 0 ≡ false → number_at p d ≡ unwrap_or (parent v d) 0 →
    Holds v p d
unfolding parent
holds v p d sane z h = grind (arith, parent_by-dir)

up_is_parent : (v : Graph) (p : List ℕ) (x : ℕ) → length p ≡ v.count → Holds v p x → parent_in p x ≡ parent v x
up_is_parent v p x l h = grind (arith, nat_tests)

pub count_is : (v : Layout) (b : List ℕ) → (graph_of (volume_of v b)).count ≡ inodes_of v
unfolding volume_of volume_with
count_is v b = refl

module _ (v : Layout) (b : List ℕ) (w : Workspace) (h : HoldsBlockCheck v b w) (s : HoldsSurvey v b w) where
  pub dir_held : (x : ℕ) → is_dir_at w.kinds.items x ≡ is_dir (volume_of v b) x
  dir_held x = grind (arith, dir_is)

  dead_held : (x : ℕ) → x < inodes_of v → is_dead_inode w x ≡ is_dead (volume_of v b) x
  dead_held x l = grind (arith, suspect_is, count_is)

  sane : 2 < inodes_of v → IsSane (graph_of (volume_of v b))
  sane l = record { some = omega (arith, count_is v b); dirs = λ d e. grind (arith, nat_tests) }

  parent_held : (d : ℕ) → 2 < inodes_of v → Holds (graph_of (volume_of v b)) w.parents.items d
  parent_held d l = holds (graph_of (volume_of v b)) w.parents.items d (sane l) refl (s.tree.parents d)

  -- without a parent, with a dead one, or the least on a cycle
  cut_off : (d : ℕ) → 2 < inodes_of v → IsFor v w → HasLeaders w → let p = number_at w.parents.items d in
      ((p == 0) || (nat_le (length w.kinds.items) p || (is_dead_inode w p || bool_at w.flags.items d)))
      ≡ (none_or_dead (graph_of (volume_of v b)) (is_suspect (volume_of v b)) (parent (graph_of (volume_of v b)) d)
      || is_leader_within (parent (graph_of (volume_of v b))) (graph_of (volume_of v b)).count d)
  cut_off d l for leads =
      let g = graph_of (volume_of v b) in
      let full : length w.parents.items ≡ g.count = omega (arith, for.parents, count_is v b) in
      let up : parent_in w.parents.items ≡ parent g = fun_ext (λ x. up_is_parent g w.parents.items x full (parent_held x l)) in
      let leader : bool_at w.flags.items d ≡ is_leader_within (parent g) g.count d =
      leads.cycles d ∙ (ap (λ f. is_leader_within f (length w.parents.items) d) up ∙ ap (λ n. is_leader_within (parent g) n d) full) in
      elim (parent_held d l) [
        | inl none ↦ rw (none.0, none.1) refl
        | inr some ↦ rw (some.0, leader) (grind (arith, nat_tests, dead_held, count_is))
      ]

  pub unref_held : (d : ℕ) → 2 < inodes_of v → d < inodes_of v → IsFor v w → HasLeaders w →
      is_unref_by w d ≡ is_unref_dir (volume_of v b) d
  unfolding is_unref_by
  unref_held d l low for leads = rw (cut_off d l for leads, dir_held d, s.tree.reached d, dead_held d low) (grind arith)
