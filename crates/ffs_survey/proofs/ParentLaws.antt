-- The parent of a reached directory is one level nearer to inode 2.
use Rattle.std.{specs.Prelude.{◌≡◌, ◌≢◌, ℕ, suc, ◌<◌, ◌==◌, true, Option, Some, None, refl}, proofs.Common.{arith, sym}}
use Rattle.std.proofs.{Common.{◌∙◌, ap}, lemmas.Bool.{both_ways, and_parts, and_from, ne_eqb, cond-false, eq-eqb}}
use Rattle.std.proofs.lemmas.Bool.{eqb-true}
use Rattle.ffs_volume.{specs.Disk.Search.first_below, proofs.SearchLaws.{first_below-some, first_below-none}}
use Rattle.ffs_volume.{specs.Directories.{Climb.is_value, Graph.Graph}, proofs.ClimbLaws.{is_value-true, is_value-from}}
use Rattle.ffs_volume.specs.Directories.Graph.{level, level_edge, edge, parent, parent_by}
use Rattle.ffs_volume.proofs.LevelLaws.{level-some, level-is, level-before, within-zero}

-- the parent of a directory of level k + 1 is the least one of level k with an edge to it
pub record IsAbove (g : Graph) (k d s : ℕ) : Type 0 where
  pub is : parent g d ≡ Some s
  pub below : s < g.count
  pub near : level g s ≡ Some k
  pub linked : edge g s d ≡ true

pub parent_above : (g : Graph) (k d : ℕ) → level g d ≡ Some (suc k) → (s : ℕ) × IsAbove g k d s
unfolding parent
parent_above g k d h = go (first_below (λ s. level_edge g k s d) g.count) refl
  where
    not_root : d ≢ 2
    not_root = λ e. let l = level-some g (suc k) d h in
        both_ways _ (l.0.least 0 (omega arith)) (within-zero g d ∙ eq-eqb d 2 e)

    is_by : parent g d ≡ first_below (λ s. level_edge g k s d) g.count
    is_by = cond-false (d == 2) (Some 2) (parent_by g d (level g d)) (ne_eqb d 2 not_root) ∙ ap (parent_by g d) h

    go : (o : Option ℕ) → first_below (λ s. level_edge g k s d) g.count ≡ o → (s : ℕ) × IsAbove g k d s
    go (Some s) e =
        let f = first_below-some (λ s. level_edge g k s d) g.count s e in
        let p = and_parts (is_value (level g s) k) (edge g s d) f.passes in
        (s, record { is = is_by ∙ e; below = f.below; near = is_value-true (level g s) k p.0; linked = p.1 })
    go None e =
        let b = level-before g k d (level-some g (suc k) d h).0 in
        absurd (both_ways (level_edge g k b.0 d) (first_below-none (λ s. level_edge g k s d) g.count e b.0 b.1)
        (and_from (is_value (level g b.0) k) (edge g b.0 d) (is_value-from (level g b.0) k (level-is g k b.0 b.1 b.2))
        b.3))

-- level 0 is inode 2 alone
pub root_level : (g : Graph) (d : ℕ) → level g d ≡ Some 0 → d ≡ 2
root_level g d h = eqb-true d 2 (sym (within-zero g d) ∙ (level-some g 0 d h).0.within_k)
