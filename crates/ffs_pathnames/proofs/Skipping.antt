-- Inodes that aren't looked at, before the first directory that is.
use Rattle.std.proofs.Common.{◌≡◌, ◌<◌, ◌≤◌, ◌-◌, ◌+◌, refl, ap, ◌∙◌, ℕ, zero, suc, false, List, map, Option, arith}
use Rattle.std.proofs.Common.{slice_index}
use Rattle.ffs_volume.specs.{declared.Layout.Layout, Laws.Geometry.IsAcceptedLayout, Directories.Volumes.volume_with}
use Rattle.ffs_volume.specs.{Directories.{Volumes.volume_of, PathnameCheck.directory_lines}, Messages.Kinds.of_tree}
use Rattle.ffs_volume.{specs.{Messages.Kinds.lines_from, Encodings.Places.is_due}, proofs.Numbered.from_next}
use Rattle.ffs_workspace.specs.{declared.workspace.Workspace.Workspace, Lengths.IsFor, Holds.HoldsSurvey}
use Rattle.ffs_workspace.proofs.Leaving.{findings_claims}
use Rattle.ffs_pathnames.{specs.Before.KnowsBefore, proofs.Carrying.{before_skipped, lines_skipped}}
use Rattle.ffs_pathnames.specs.ChecksNeeded.{needs_check}
use Rattle.ffs_pathnames.proofs.{Findings.findings_noted, StampLaws.{none_stamped, stamps_length}}

-- none of the inodes from 2 to before n is looked at
abbrev pub IsUnseen : Workspace → ℕ → Type 0
IsUnseen w n = (x : ℕ) → 2 ≤ x → x < n → needs_check w x ≡ false

-- what is known before the first inode is known before n, and nothing is reported before n
pub unseen : (v : Layout) (contents : Option (List ℕ)) (w : Workspace) (b : List ℕ) (n end : ℕ) → IsAcceptedLayout v →
    2 ≤ n → n ≤ end → IsUnseen w n → KnowsBefore v contents w 2 b →
    KnowsBefore v contents w n b × (map of_tree (lines_from (directory_lines (volume_of v b)) 2 (end - 2))
    ≡ map of_tree (lines_from (directory_lines (volume_of v b)) n (end - n)))
unseen v contents w b (suc (suc zero)) end g two le h k = (k, refl)
unseen v contents w b (suc (suc (suc n))) end g two le h k =
    let before = unseen v contents w b (suc (suc n)) end g (omega arith) (omega arith)
    (λ x low below. h x low (omega arith)) k in
    let here = h (suc (suc n)) (omega arith) (omega arith) in
    let next : suc (suc n) + 1 ≡ suc (suc (suc n)) = omega arith in
    let lines = from_next (directory_lines (volume_of v b)) (suc (suc n)) end (omega arith) in
    (before_skipped g here before.0, before.1 ∙ rw (lines, lines_skipped (omega arith) here before.0, next) refl)
unseen v contents w b n end g two le h k = absurd (omega arith)

-- once places are noted, and no entry is due, all is right before the inode that was next
pub noted_before : (v : Layout) (contents contents' : Option (List ℕ)) (old new : Workspace) (n : ℕ) (b : List ℕ) →
    2 ≤ n → contents' ≡ contents → new ≡ record old { windows = new.windows; words = new.words } → IsFor v new →
    HoldsSurvey v b new → ((x : ℕ) → is_due (slice_index new.words.items x) ≡ false) →
    KnowsBefore v contents old n b → KnowsBefore v contents' new n b
unfolding volume_of volume_with
noted_before v contents contents' old new n b two same lists made survey none k = record {
  gives_bytes = same ∙ k.gives_bytes;
  block_check = findings_claims v b old new (findings_noted old new lists) k.block_check;
  survey = survey;
  passed = grind (arith, ap, none_stamped, stamps_length);
}
