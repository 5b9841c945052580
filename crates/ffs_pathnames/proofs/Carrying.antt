-- What is known between two directories, carried from one to the next.
use Rattle.std.proofs.Common.{◌≡◌, ◌-◌, ◌==◌, refl, sym, ap, ◌∙◌, ℕ, suc, Bool, true, false, ◌||◌, if◌then◌else◌, List}
use Rattle.std.proofs.Common.{[], ◌++◌, map, get_or, Option, Some, arith, slice_index, Result, Ok, Err, IfOk, inl, inr}
use Rattle.std.proofs.{Common.◌≤◌, lemmas.{Bool.{Decides.nat_tests, cases_Bool}, List.{get_or_default, map-append}}}
use Rattle.ffs_volume.specs.{declared.{Layout.Layout, Class.{Class, TheVariants.Dir}}, Laws.Geometry.IsAcceptedLayout}
use Rattle.ffs_volume.specs.Directories.{Roles.{Volume, is_suspect}, PathnameCheck.sized_dir_lines}
use Rattle.ffs_volume.specs.Directories.PathnameCheck.{continues_after_root, directory_lines, pathname_lines}
use Rattle.ffs_volume.specs.Directories.{PathnameCheck.{root_lines, root_lines_of}, Volumes.{volume_of, volume_with}}
use Rattle.ffs_volume.specs.{Messages.Kinds.{TreeMessage, of_tree, lines_below, lines_from}, Blocks.Inodes.is_directory}
use Rattle.ffs_volume.specs.{Blocks.Inodes.{is_allocated, inodes_of}, Encodings.Kinds.{is_dir_kind, is_empty_dir_kind}}
use Rattle.ffs_volume.{specs.Encodings.Kinds.is_allocated_kind, proofs.SearchLaws.some_below-none}
use Rattle.ffs_volume.proofs.{Numbered.all_from_root, Sizes.some_inodes}
use Rattle.ffs_workspace.specs.{declared.workspace.Workspace.Workspace, Lengths.IsFor, Holds.{bool_at, HoldsBlockCheck}}
use Rattle.ffs_workspace.{specs.{Holds.{HoldsReferences, HoldsSurvey}, Leaves.LeavesSurvey}, proofs.KindLaws.reports_at}
use Rattle.ffs_workspace.proofs.{KindLaws.suspect_is, Leaving.{claims_left, survey_left, leaves_all}}
use Rattle.ffs_pathnames.specs.{KnowsAtDirectory.KnowsAtDirectory, Before.{IsNonePassed, KnowsBefore, KnowsBeforeWithPlaces}}
use Rattle.ffs_pathnames.specs.{Sees.passed_of, Silent.IsSilentDirectory, RootAnswers.root_reported}
use Rattle.ffs_pathnames.specs.{ChecksNeeded.needs_check, PassedRight.RemembersBefore, Stamps.KeepParts}
use Rattle.ffs_pathnames.proofs.{Begun.{directory_is, quiet_parts}, StampLaws.{noted_kept, stamps_length}}
use Rattle.ffs_pathnames.proofs.{BetweenLaws.{other_next, silent_next, silent_quiet}, EmptyLaws.{looked_is, looked_dir}}
use Rattle.ffs_pathnames.proofs.EmptyLaws.{names_none}
use Rattle.ffs_survey.specs.Survey.{suspect_at}

-- what follows from two facts of each value that is answered
pub if_both : {T E : Type 0} (r : Result T E) (P Q R : T → Type 0) → ((x : T) → P x → Q x → R x) → IfOk r P → IfOk r Q
    → IfOk r R
if_both (Ok x) P Q R f p q = f x p q
if_both (Err e) P Q R f p q = tt

-- references are counted where their list stays
pub references_on : (v : Layout) (b : List ℕ) (old new : Workspace) → new.references ≡ old.references →
    HoldsReferences v b old → HoldsReferences v b new
references_on v b old new e h = record { counts = λ x l. rw e (h.counts x l) }

-- which inodes are suspect, by the lists
suspect_shown : (v : Layout) (b : List ℕ) (w : Workspace) (x : ℕ) → HoldsBlockCheck v b w →
    suspect_at w.kinds.items w.marked.items x ≡ is_suspect (volume_of v b) x
suspect_shown v b w x h = rw (h.kinds x, h.marked x) (sym (suspect_is v b x))

-- where no name is passed, all is right before the first directory
clear_right : (v : Layout) (b : List ℕ) (old w : Workspace) → HoldsBlockCheck v b old → IsFor v w → IsNonePassed old w →
    ((x : ℕ) → bool_at old.flags.items x ≡ true → IsSilentDirectory (volume_of v b) x) →
    RemembersBefore (volume_of v b) 2 (passed_of w)
unfolding volume_of volume_with
clear_right v b old w k m c silent = grind (arith, suspect_shown, some_below-none, stamps_length)

pub before_first : (v : Layout) (contents : Option (List ℕ)) (b : List ℕ) (old w : Workspace) → contents ≡ Some b →
    HoldsBlockCheck v b old → HoldsSurvey v b old → IsFor v w → IsNonePassed old w →
    ((x : ℕ) → bool_at old.flags.items x ≡ true → IsSilentDirectory (volume_of v b) x) → KnowsBefore v contents w 2 b
before_first v contents b old w t h s m c silent = grind (arith, claims_left, survey_left, clear_right)

-- the next inode, or an image that gives the same
pub before_next : {v : Layout} {contents contents' : Option (List ℕ)} {old new : Workspace} {d d' : ℕ} {b : List ℕ} →
    contents' ≡ contents → LeavesSurvey old new → RemembersBefore (volume_of v b) d' (passed_of new) →
    KnowsBefore v contents old d b → KnowsBefore v contents' new d' b
before_next {v = v} {b = b} e s r k = record {
  gives_bytes = e ∙ k.gives_bytes;
  block_check = claims_left v b _ _ s k.block_check;
  survey = survey_left v b _ _ s k.survey;
  passed = r;
}

-- the same, where places are noted
pub noted_next : {v : Layout} {contents contents' : Option (List ℕ)} {old new : Workspace} {d d' : ℕ} {b : List ℕ} →
    contents' ≡ contents → LeavesSurvey old new → KeepParts old.words.items new.words.items →
    RemembersBefore (volume_of v b) d' (passed_of new) → KnowsBeforeWithPlaces v contents old d b →
    KnowsBeforeWithPlaces v contents' new d' b
noted_next {v = v} {b = b} e s keep r k = record {
  before = before_next e s r k.before;
  noted = noted_kept v b _ _ keep k.noted;
}

pub noted_reported : {v : Layout} {contents contents' : Option (List ℕ)} {w : Workspace} {d : ℕ} {b : List ℕ} →
    contents' ≡ contents → KnowsBeforeWithPlaces v contents w d b → KnowsBeforeWithPlaces v contents' w d b
noted_reported {w = w} e k = noted_next e (leaves_all w) (λ x. refl) k.before.passed k

module _ {v : Layout} {contents : Option (List ℕ)} {w : Workspace} {d : ℕ} {b : List ℕ} where
  -- what is known of a directory that is looked at
  pub directory_context : (slice_index w.kinds.items d == 4) ≡ true → KnowsBeforeWithPlaces v contents w d b →
      KnowsAtDirectory v contents w d b
  directory_context e k = grind (arith, looked_dir)

  pub lines_looked : (slice_index w.kinds.items d == 4) ≡ true → KnowsBefore v contents w d b →
      directory_lines (volume_of v b) d ≡ sized_dir_lines (volume_of v b) d
  lines_looked e k = rw (looked_is v b d, ← k.block_check.kinds d, e) refl

  -- a directory that isn't looked at is calm
  calm_shown : needs_check w d ≡ false → (slice_index w.kinds.items d == 4) ≡ true → KnowsBefore v contents w d b →
      IsSilentDirectory (volume_of v b) d
  calm_shown h e k =
      let suspect = suspect_shown v b w d k.block_check in
      let calm = k.passed.calm d in
      grind (arith, nat_tests)

  -- an inode that isn't looked at, or is left out
  pub lines_skipped : 2 ≤ d → needs_check w d ≡ false → KnowsBefore v contents w d b →
      map of_tree (directory_lines (volume_of v b) d) ≡ []
  lines_skipped two h k = elim (cases_Bool (slice_index w.kinds.items d == 4)) [
    | inl e ↦
        let silent = calm_shown h e k in
        let dir = directory_is (volume_of v b) d two (looked_dir v b d (rw (← k.block_check.kinds d) e)) in
        ap (map of_tree) (lines_looked e k) ∙ sym (quiet_parts (volume_of v b) d (passed_of w) dir k.passed
        (silent_quiet (volume_of v b) d (passed_of w) silent k.passed)) ∙ ap (map of_tree) silent.starts
    | inr e ↦ rw (looked_is v b d, ← k.block_check.kinds d, e) refl
  ]

  pub before_skipped : IsAcceptedLayout v → needs_check w d ≡ false → KnowsBefore v contents w d b →
      KnowsBefore v contents w (suc d) b
  before_skipped g h k = before_next refl (leaves_all w) (elim (cases_Bool (slice_index w.kinds.items d == 4)) [
    | inl e ↦ silent_next (volume_of v b) d (passed_of w) (calm_shown h e k) k.passed
    | inr e ↦ other_next (volume_of v b) d (passed_of w)
        (λ x q n. names_none v b d g (rw (← k.block_check.kinds d) e) x) k.passed
  ]) k

-- what is reported of the root
root_by : (vol : Volume) (c : Class) (k : ℕ) (m : Bool) → is_directory c ≡ is_dir_kind k →
    is_allocated c ≡ is_allocated_kind k → is_suspect vol 2 ≡ (m || is_empty_dir_kind k) →
    root_reported k m ≡ root_lines_of vol c
unfolding root_reported
root_by vol Dir k m d a s = grind (arith, nat_tests)
root_by vol c k m d a s = grind (arith, nat_tests)

pub root_is : (v : Layout) (b : List ℕ) (w : Workspace) (k : ℕ) (m : Bool) → k ≡ slice_index w.kinds.items 2 →
    m ≡ bool_at w.marked.items 2 → HoldsBlockCheck v b w →
    root_reported k m ≡ root_lines (volume_of v b)
unfolding root_lines volume_of volume_with
root_is v b w k m e f h = let t = reports_at v b 2 in grind (arith, root_by, suspect_is)

-- the kind and the mark of the root, as they are read
pub root_kind_is : (v : Layout) (w : Workspace) (k : ℕ) → IsAcceptedLayout v → IsFor v w → k ≡ get_or w.kinds.items 2 k
    → k ≡ slice_index w.kinds.items 2
root_kind_is v w k g made e = e ∙ get_or_default w.kinds.items 2 k 0 (omega (arith, some_inodes v g))

pub root_marked_is : (v : Layout) (w : Workspace) (m : Bool) → IsAcceptedLayout v → IsFor v w →
    m ≡ get_or w.marked.items 2 m → m ≡ bool_at w.marked.items 2
root_marked_is v w m g made e = e ∙ get_or_default w.marked.items 2 m false (omega (arith, some_inodes v g))

pub goes_is : (v : Layout) (b : List ℕ) (w : Workspace) (k : ℕ) → k ≡ slice_index w.kinds.items 2 →
    HoldsBlockCheck v b w →
    is_dir_kind k ≡ continues_after_root (volume_of v b)
unfolding volume_of volume_with
goes_is v b w k e h = ap is_dir_kind (e ∙ h.kinds 2) ∙ sym (reports_at v b 2).dir

-- all that is reported
abbrev pub tree_lines : Layout → List ℕ → Bool → List TreeMessage
tree_lines v b goes = if goes then lines_from (directory_lines (volume_of v b)) 2 (inodes_of v - 2) else []

lines_begin : (v : Layout) (b : List ℕ) → lines_below (directory_lines (volume_of v b)) (volume_of v b).count
    ≡ lines_from (directory_lines (volume_of v b)) 2 (inodes_of v - 2)
unfolding volume_of volume_with
lines_begin v b = all_from_root (directory_lines (volume_of v b)) (inodes_of v) refl refl

pub tree_is : (v : Layout) (b : List ℕ) (w : Workspace) (k : ℕ) (m goes : Bool) → k ≡ slice_index w.kinds.items 2 →
    m ≡ bool_at w.marked.items 2 → HoldsBlockCheck v b w → goes ≡ is_dir_kind k →
    map of_tree (pathname_lines (volume_of v b)) ≡ map of_tree (root_reported k m) ++ map of_tree (tree_lines v b goes)
unfolding pathname_lines
tree_is v b w k m goes e f h q = grind (arith, root_is, goes_is, lines_begin, map-append)
