-- A report has no defect exactly where the volume is consistent.
use Rattle.std.proofs.Common.{arith, ◌≡◌, ◌↔◌, ℕ, true, false, if◌then◌else◌, List, [], ◌∷◌, ◌++◌, map, sym, ◌∙◌, ap}
use Rattle.std.proofs.{Common.refl, lemmas.{Bool.{or_parts, or_from}, List.Folds.list_any-append}}
use Rattle.ffs_volume.specs.declared.{Class.Class, BlockMessage.BlockMessage, End.TheVariants.Consistent}
use Rattle.ffs_volume.specs.Blocks.{BlockCheck.{phase1_lines, phase1b_lines}, Owners.owners_of, Inodes.is_directory}
use Rattle.ffs_volume.specs.Consistent.{BlocksRight.BlocksRight, Volume.{AreSettingsRight, IsConsistent}}
use Rattle.ffs_volume.specs.{Consistent.GroupsRight.{AreGroupsRight, is_free_of_runs}, Groups.GroupCheck.phase5_lines}
use Rattle.ffs_volume.specs.Groups.GroupCheck.{is_free_of_kept}
use Rattle.ffs_volume.specs.Messages.Kinds.{Message, TreeMessage, of_blocks, of_tree, is_defect, has_defect}
use Rattle.ffs_volume.specs.{Disk.Superblock.Superblock, Laws.Geometry.IsAcceptedLayout, Report.Opening.setting_lines}
use Rattle.ffs_volume.specs.Report.{Opening.super_lines, Whole.{later_phase_lines, phase_lines, report_lines, end_of}}
use Rattle.ffs_volume.specs.Directories.PathnameCheck.{root_lines_of, root_lines, pathname_lines, continues_after_root}
use Rattle.ffs_volume.specs.Directories.{Volumes.{class_at, volume_of, whole_volume}, Connectivity.connectivity_lines}
use Rattle.ffs_volume.specs.Directories.{ReferenceCheck.reference_lines, Roles.Volume}
use Rattle.ffs_volume.proofs.{AcceptedLaws.accepted_sound, Silence.nil-left}
use Rattle.ffs_certificate.specs.{DirsCertificate.{IsSilent, AreDirectoriesRight}, ReportRight.ReportIsRight}
use Rattle.ffs_certificate.{specs.ReportRight.StopIsReported, proofs.BlocksSilent.{phase1_silent, phase1b_silent}}
use Rattle.ffs_certificate.proofs.{VolumeLaws.{whole_is_volume, whole_unmarked, same_whole}, GroupLaws.phase5_silent}
use Rattle.ffs_certificate.proofs.{GroupLaws.same_free, DirsCertificate.silent_right}

-- LISTS OF LINES
quiet_left : (xs ys : List Message) → has_defect (xs ++ ys) ≡ false → has_defect xs ≡ false
quiet_left xs ys h = (or_parts (has_defect xs) (has_defect ys) (sym (list_any-append is_defect xs ys) ∙ h)).0

quiet_right : (xs ys : List Message) → has_defect (xs ++ ys) ≡ false → has_defect ys ≡ false
quiet_right xs ys h = (or_parts (has_defect xs) (has_defect ys) (sym (list_any-append is_defect xs ys) ∙ h)).1

quiet_from : (xs ys : List Message) → has_defect xs ≡ false → has_defect ys ≡ false → has_defect (xs ++ ys) ≡ false
quiet_from xs ys g h = list_any-append is_defect xs ys ∙ or_from (has_defect xs) (has_defect ys) g h

silent_blocks : (ms : List BlockMessage) → has_defect (map of_blocks ms) ≡ false → ms ≡ []
silent_blocks [] h = refl
silent_blocks (m ∷ ms) h = absurd (cc)

silent_names : (ms : List TreeMessage) → has_defect (map of_tree ms) ≡ false → ms ≡ []
silent_names [] h = refl
silent_names (m ∷ ms) h = absurd (cc)

ruleset parts = (quiet_left, quiet_right, silent_blocks, silent_names)

ruleset whole = (quiet_from)

settings_say : (super : Superblock) → has_defect (setting_lines super) ≡ false → AreSettingsRight super
unfolding setting_lines
settings_say super h = grind arith

settings_silent : (super : Superblock) → AreSettingsRight super → setting_lines super ≡ []
unfolding setting_lines
settings_silent super r = let a = r.optimization in let b = r.minfree in rw (a, b) refl

-- nothing is reported of the settings exactly where they are right
pub settings_reported : (super : Superblock) → (setting_lines super ≡ []) ↔ AreSettingsRight super
settings_reported super = ((λ h. settings_say super (ap has_defect h)), settings_silent super)

-- THE ROOT: a run that stops after it has reported so
reported_root : (v : Volume) (c : Class) → root_lines_of v c ≡ [] → is_directory c ≡ true
reported_root v c h = grind arith

root_there : (v : Volume) → pathname_lines v ≡ [] → continues_after_root v ≡ true
unfolding pathname_lines root_lines
root_there v h = reported_root v (v.class 2) (nil-left (root_lines_of v (v.class 2)) _ h)

-- THE PHASES
record IsWholeSilent (image : List ℕ) (super : Superblock) : Type 0 where
  blocks : phase1_lines super.layout (owners_of super.layout image) ≡ []
  dirs : IsSilent (volume_of super.layout image)
  groups : phase5_lines super.layout image super.cstotal (is_free_of_kept super.layout (owners_of super.layout image))
      (class_at super.layout image) ≡ []

text_root : (image : List ℕ) (super : Superblock) → has_defect (phase_lines image super) ≡ false →
    continues_after_root (volume_of super.layout image) ≡ true
unfolding phase_lines
text_root image super h = root_there (volume_of super.layout image) (search parts depth 9)

later_say : (image : List ℕ) (super : Superblock) → has_defect (later_phase_lines image super) ≡ false →
    (connectivity_lines (volume_of super.layout image) ≡ []) × (reference_lines (volume_of super.layout image) ≡ [])
    × (phase5_lines super.layout image super.cstotal (is_free_of_kept super.layout (owners_of super.layout image))
    (class_at super.layout image) ≡ [])
unfolding later_phase_lines
later_say image super h = search parts depth 9

text_say : (image : List ℕ) (super : Superblock) → has_defect (phase_lines image super) ≡ false →
    IsWholeSilent image super
unfolding phase_lines
text_say image super h =
    let root = text_root image super h in
    let tail : has_defect (if continues_after_root (volume_of super.layout image)
    then later_phase_lines image super else []) ≡ false = search parts depth 9 in
    let later = later_say image super (rw root at tail) in
    let blocks : phase1_lines super.layout (owners_of super.layout image) ≡ [] = search parts in
    let pathnames : pathname_lines (volume_of super.layout image) ≡ [] = search parts depth 9 in
    grind arith

text_quiet : (image : List ℕ) (super : Superblock) → phase1b_lines super.layout (owners_of super.layout image) ≡ [] →
    IsWholeSilent image super → has_defect (phase_lines image super) ≡ false
unfolding phase_lines later_phase_lines
text_quiet image super again s = grind arith

-- THE WHOLE
same_groups : (image : List ℕ) (super : Superblock) → BlocksRight super.layout (owners_of super.layout image) →
    (phase5_lines super.layout image super.cstotal (is_free_of_kept super.layout (owners_of super.layout image))
    (class_at super.layout image) ≡ [])
    ↔ AreGroupsRight super.layout image super.cstotal (is_free_of_runs super.layout (owners_of super.layout image))
    (class_at super.layout image)
same_groups image super blocks = grind (arith, same_free, phase5_silent)

same_dirs : (image : List ℕ) (super : Superblock) → IsAcceptedLayout super.layout →
    BlocksRight super.layout (owners_of super.layout image) →
    IsSilent (volume_of super.layout image) ↔ AreDirectoriesRight (whole_volume super.layout image)
same_dirs image super g blocks = rw (same_whole super.layout image blocks)
    (silent_right (whole_volume super.layout image) (whole_is_volume super.layout image g)
    (whole_unmarked super.layout image blocks))

forward : (image : List ℕ) (super : Superblock) → IsAcceptedLayout super.layout → has_defect (report_lines image super)
    ≡ false → IsConsistent image super
unfolding report_lines
forward image super g h =
    let s = text_say image super (quiet_right (super_lines super) _ h) in
    let settings = settings_say super (quiet_left (setting_lines super) _ (quiet_left (super_lines super) _ h)) in
    grind (arith, phase1_silent, same_dirs, same_groups)

backward : (image : List ℕ) (super : Superblock) → IsAcceptedLayout super.layout → IsConsistent image super →
    has_defect (report_lines image super) ≡ false
unfolding report_lines
backward image super g c =
    grind (arith, settings_silent, text_quiet, phase1b_silent, phase1_silent, same_dirs, same_groups)

quiet_continues : (image : List ℕ) (super : Superblock) → has_defect (report_lines image super) ≡ false →
    continues_after_root (volume_of super.layout image) ≡ true
unfolding report_lines
quiet_continues image super h = text_root image super (quiet_right (super_lines super) _ h)

end_consistent : (image : List ℕ) (super : Superblock) → (has_defect (report_lines image super) ≡ false)
    ↔ (end_of image super ≡ Consistent)
unfolding end_of
end_consistent image super = grind (arith, quiet_continues)

-- a run that stops after the root has reported a defect
pub stop_reported : StopIsReported
unfolding end_of
stop_reported image super h = grind (arith, text_root)

pub certified : ReportIsRight
certified image sector s e =
    let g = (accepted_sound image sector s e).geometry in
    record {
      silent = (forward image s g, backward image s g);
      end_is = (
        (λ e. forward image s g ((end_consistent image s).1 e)),
        (λ c. (end_consistent image s).0 (backward image s g c)),
      );
    }
