-- A survey fills a workspace.
use Rattle.std.proofs.Common.{◌≡◌, ◌∙◌, ◌+◌, ◌≤◌, ℕ, Bool, true, false, List, Option, Some, None, IfNone, ap, arith}
use Rattle.std.{proofs.{Common.{length, min, slice_index, sym, refl}, lemmas.Bool.and_parts}, specs.Result.is_ok}
use Rattle.std.specs.Prelude.{Result, Ok, Err, OnOk, OnErr}
use Rattle.ffs_volume.specs.{declared.Layout.Layout, Encodings.Kinds.kind_at, Directories.Naming.graph_of}
use Rattle.ffs_volume.specs.Directories.{Roles.{references_below, roled_entries}, Volumes.{volume_of, volume_with}}
use Rattle.ffs_volume.specs.{Encodings.Links.start_at, Blocks.Inodes.inodes_of, Costs.Calm.is_directory_of_right_shape}
use Rattle.ffs_workspace.specs.{Holds.{HoldsReferences, HoldsTree}, declared.workspace.Workspace.Workspace}
use Rattle.ffs_survey.specs.{Calm.AreCalm, Survey.{IsSurvey, counted_below, graph_with, most_start, references_to}}
use Rattle.ffs_names.specs.{Readers.{Base, dir_entries, dir_right_shape}, Surveys.FlagsOnlyCalm}
use Rattle.ffs_names.proofs.{DirLaws.kind_dirs, SameGraphs.survey_same}

pub none_ended : {T A : Type 0} {K : A → Type 0} (o : Option T) (P : A → Type 0) → ((b : A) → K b → IfNone o (P b))
    → IfNone o ((b : A) → K b → P b)
none_ended None P f = f
none_ended (Some x) P f = tt

-- the survey of the directories of a volume
pub volume_survey : (t : Base) (b kinds : List ℕ) {starts counts : List ℕ} {flags marks : List Bool} {parents : List ℕ} →
    length kinds ≡ inodes_of t.layout → ((x : ℕ) → slice_index kinds x ≡ kind_at t.layout b x)
    → IsSurvey (graph_with kinds (dir_entries t b)) starts counts flags marks parents →
    IsSurvey (graph_of (volume_of t.layout b)) starts counts flags marks parents
unfolding volume_of volume_with
volume_survey t b kinds n k s = grind (arith, kind_dirs, survey_same)

-- lists that hold what a survey of a volume finds of each inode
pub holds_tree : (v : Layout) (b : List ℕ) (w : Workspace) (starts counts : List ℕ) (flags marks : List Bool)
    (parents : List ℕ) → w.named.items ≡ flags → w.reached.items ≡ marks → w.parents.items ≡ parents
    → IsSurvey (graph_of (volume_of v b)) starts counts flags marks parents → HoldsTree v b w
unfolding volume_of volume_with
holds_tree v b w starts counts flags marks parents f m u s = grind arith

-- no start is past the greatest one
start_low : (v : Layout) (b : List ℕ) (x : ℕ) → start_at v b x ≤ most_start
unfolding start_at
start_low v b x = grind arith

-- and counts that continue from where they start
pub holds_references : (v : Layout) (b : List ℕ) (old new : Workspace) {starts counts : List ℕ} {flags marks : List Bool}
    {parents : List ℕ} → old.references.items ≡ starts → new.references.items ≡ counts
    → ((x : ℕ) → slice_index old.references.items x ≡ start_at v b x)
    → IsSurvey (graph_of (volume_of v b)) starts counts flags marks parents → HoldsReferences v b new
unfolding volume_of volume_with counted_below references_below
holds_references v b old new {starts = starts} e c h s = record {
  counts = λ x l.
      let begun : slice_index starts x ≡ start_at v b x = sym (ap (λ xs. slice_index xs x) e) ∙ h x in
      let low : min (slice_index starts x) most_start ≡ start_at v b x = omega (arith, begun, start_low v b x) in
      ap (λ xs. slice_index xs x) c ∙ s.counts x l ∙ ap (λ k. k + references_to (graph_of (volume_of v b)) x) low
      ∙ ap (λ k. start_at v b x + k) (grind arith);
}

-- whether an answer is Ok is said of one that is not
pub on_err_is : {T E : Type 0} (r : Result T E) (b : Bool) → b ≡ is_ok r → OnErr r (b ≡ false)
on_err_is (Ok x) b e = tt
on_err_is (Err x) b e = e

-- a fact of an Ok answer, known to be one
pub on_ok_is : {T E : Type 0} (r : Result T E) (P Q : Type 0) → (is_ok r ≡ true → P → Q) → OnOk r P → OnOk r Q
on_ok_is (Ok x) P Q f h = f refl h
on_ok_is (Err e) P Q f h = h

-- flags of a survey of a volume
pub volume_calm : (t : Base) (b kinds : List ℕ) (marked marks : List Bool) (parents : List ℕ) (flags : List Bool) →
    AreCalm kinds marked marks parents (dir_entries t b) (dir_right_shape t b) flags → AreCalm kinds marked marks
    parents (roled_entries (volume_of t.layout b)) (is_directory_of_right_shape (volume_of t.layout b)) flags
volume_calm t b kinds marked marks parents flags h d set = grind (arith, and_parts)

-- flags in a workspace
pub holds_calm : (v : Layout) (b : List ℕ) (w : Workspace) (kinds : List ℕ) (marked marks : List Bool) (parents : List
    ℕ) (flags : List Bool) → w.kinds.items ≡ kinds → w.marked.items ≡ marked → w.reached.items ≡ marks → w.parents.items
    ≡ parents → w.flags.items ≡ flags → AreCalm kinds marked marks parents (roled_entries (volume_of v b))
    (is_directory_of_right_shape (volume_of v b)) flags → FlagsOnlyCalm v b w
holds_calm v b w kinds marked marks parents flags k m r p f h = record { calm = rw (k, m, r, p, f) h }
