-- Entries count only where they are those of a directory.
use Rattle.std.proofs.Common.{◌≡◌, ◌∙◌, ℕ, zero, suc, ◌+◌, ◌==◌, Bool, true, false, ◌&&◌, ◌||◌, List, Option, Some}
use Rattle.std.{proofs.Common.{None, ap, ap₂, count_by, if◌then◌else◌, is_some, refl, unwrap_or}, specs.List.list_any}
use mathlib.Core.Path.{fun_ext}
use Rattle.ffs_volume.specs.Directories.{Climb.is_value, Roles.{RoledEntry, refers}, Graph.{Graph, edge, is_naming_dir}}
use Rattle.ffs_volume.specs.Directories.Graph.{is_naming_entry, level, parent, parent_by, within}
use Rattle.ffs_volume.specs.Disk.Search.{first_below, some_below}
use Rattle.ffs_survey.specs.Survey.{counted_in, counted_below, start_in, IsSurvey}

abbrev graph : ℕ → (ℕ → Bool) → (ℕ → List RoledEntry) → Graph
graph n d e = record { count = n; is_dir = d; entries = e }

module _ (n : ℕ) (d : ℕ → Bool) (e f : ℕ → List RoledEntry) (h : (s : ℕ) → d s ≡ true → e s ≡ f s) where
  names_same : (s x : ℕ) → is_naming_dir (graph n d e) s x ≡ is_naming_dir (graph n d f) s x
  names_same s x = one (d s) refl
    where
      one : (b : Bool) → d s ≡ b →
          (d s && list_any (is_naming_entry x) (e s)) ≡ (d s && list_any (is_naming_entry x) (f s))
      one true b = rw (h s b) refl
      one false b = rw b refl

  edge_same : (s x : ℕ) → edge (graph n d e) s x ≡ edge (graph n d f) s x
  edge_same s x = ap (λ b. d x && b) (names_same s x)

  within_same : (k x : ℕ) → within (graph n d e) k x ≡ within (graph n d f) k x
  unfolding within
  within_same zero x = refl
  within_same (suc k) x = ap₂ (λ b p. b || some_below p n) (within_same k x)
      (fun_ext (λ s. ap₂ ◌&&◌ (within_same k s) (edge_same s x)))

  level_same : (x : ℕ) → level (graph n d e) x ≡ level (graph n d f) x
  unfolding level
  level_same x = ap (λ p. first_below p n) (fun_ext (λ k. within_same k x))

  parent_by_same : (x : ℕ) (o : Option ℕ) → parent_by (graph n d e) x o ≡ parent_by (graph n d f) x o
  parent_by_same x None = ap (λ p. first_below p n) (fun_ext (λ s. edge_same s x))
  parent_by_same x (Some zero) = refl
  parent_by_same x (Some (suc k)) = ap (λ p. first_below p n)
      (fun_ext (λ s. ap₂ (λ o b. is_value o k && b) (level_same s) (edge_same s x)))

  parent_same : (x : ℕ) → parent (graph n d e) x ≡ parent (graph n d f) x
  unfolding parent
  parent_same x = ap (λ o. if x == 2 then Some 2 else o)
      (ap (parent_by (graph n d e) x) (level_same x) ∙ parent_by_same x (level (graph n d f) x))

  counted_same : (s x : ℕ) → counted_in (graph n d e) s x ≡ counted_in (graph n d f) s x
  counted_same s x = one (d s) refl
    where
      one : (b : Bool) → d s ≡ b →
          (if d s then count_by (refers x) (e s) else 0) ≡ (if d s then count_by (refers x) (f s) else 0)
      one true b = rw (h s b) refl
      one false b = rw b refl

  references_same : (x k : ℕ) → counted_below (graph n d e) x k ≡ counted_below (graph n d f) x k
  unfolding counted_below
  references_same x zero = refl
  references_same x (suc k) = ap₂ ◌+◌ (references_same x k) (counted_same k x)

  -- a survey of a graph is one of each graph with the same entries of directories
  pub survey_same : {starts counts : List ℕ} {flags marks : List Bool} {parents : List ℕ} →
      IsSurvey (graph n d e) starts counts flags marks parents → IsSurvey (graph n d f) starts counts flags marks parents
  survey_same {starts = starts} s = record {
    counts = λ x l. s.counts x l ∙ ap (λ k. start_in starts x + k) (references_same x n);
    names = λ x l. s.names x l ∙ ap (λ p. some_below p n) (fun_ext (λ k. names_same k x));
    reaches = λ x. s.reaches x ∙ ap (λ o. is_some o) (level_same x);
    parent_is = λ x. s.parent_is x ∙ ap (λ o. unwrap_or o 0) (parent_same x);
  }
