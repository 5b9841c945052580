-- The lines of an entry, one at least, for which texts were gathered.
use Rattle.std.proofs.Common.{◌≡◌, ◌≤◌, ap, append-nil, ℕ, IsTrue, List, [], ◌∷◌, length, map, Result, Ok, Err}
use Rattle.ffs_image.specs.{Device.Device, declared.image.ImageFault.ImageFault, Known.ForBytes}
use Rattle.ffs_volume.specs.{declared.Layout.Layout, Directories.{Roles.{RoledEntry, Volume}, Volumes.volume_of}}
use Rattle.ffs_volume.specs.{Messages.Kinds.{TreeMessage, of_tree}, Report.Reads.line_reads}
use Rattle.ffs_report.specs.{Paid.Paid, PhaseOutcome.PhaseReports, Progress.{Progress, Said, Stopped}}
use Rattle.ffs_report.proofs.{Paying.{paid_reads, paid_says, paid_stops}, Reporting.{reads_first, says_all, stops_all}}
use Rattle.ffs_report.specs.declared.fault.RunFault.{RunFault, TheVariants.{Read, Out}}
use Rattle.ffs_workspace.specs.declared.workspace.Workspace.{Workspace}
use Rattle.ffs_paths.specs.{declared.kept_parent.KeptParent.KeptParent, Reads.KnowsPlaces}
use Rattle.ffs_pathnames.specs.{KnowsAtDirectory.{KnowsAtDirectory, KeepsPath, KnowsPath}, Ready.LimitedPathLeaves}
use Rattle.ffs_pathnames.specs.{EntryLines.SaysEntryLines, Moments.LinesMoment}
use Rattle.ffs_pathnames.specs.{declared.entry_texts.EntryTexts.EntryTexts, PassedNames.{PassedNames, entries_reported}}
use Rattle.ffs_pathnames.{specs.{PassedNames.roled_reported, LineReads.ReadsPathOnce}, proofs.PathOnce.by_once}
use Rattle.ffs_pathnames.proofs.LineCounts.{by_line, knows_places, some_said}

-- the moment at which an image, how often it was read, a workspace, a report and the texts are these
abbrev pub entries_at : Device → ℕ → Workspace → Progress → EntryTexts → LinesMoment EntryTexts
entries_at d reads w said t = record { at = record { image = d; reads = reads; workspace = w }; report = said; kept = t }

module _ {S : Type 0} {v : Layout} {d d' : Device} {w w' : Workspace} {x : ℕ} {t t' : EntryTexts} {s : KeptParent}
    {lines : Volume → List TreeMessage} {reads reads' : ℕ} {r : Result S ImageFault}
    (keeps : KeepsPath v d w x t t') (left : LimitedPathLeaves v line_reads (record { image = d; reads = reads; workspace = w })
    (record { image = d'; reads = reads'; workspace = w' }) s r)
    (stays : IsTrue t.path_settled → IsTrue t'.path_settled)
    (once : (bytes : List ℕ) → KnowsPlaces v d.contents w bytes → ReadsPathOnce 1 t t' reads reads')
    (some : ForBytes (KnowsAtDirectory v d.contents w x) (λ bytes. 1 ≤ length (lines (volume_of v bytes)))) where
  -- what is said, and read for it, is by the texts that were gathered
  entry_by : {T : Type 0} {a b : Progress} {said : Result T RunFault} →
      PhaseReports (KnowsPath v d.contents w x t) (λ bytes. map of_tree (lines (volume_of v bytes))) a b said →
      Paid line_reads a b reads reads' said →
      SaysEntryLines v x lines (entries_at d reads w a t) (entries_at d' reads' w' b t') said
  entry_by text paid = record {
    text = text;
    path = keeps;
    settled = stays;
    once = λ bytes k noted. by_once t t' reads reads' _ (once bytes (knows_places _ _ _ _ bytes k noted)) (some bytes k);
    counted = λ bytes k noted. by_line _ (left.path.counted bytes (knows_places _ _ _ _ bytes k noted)) (some bytes k);
    paid = paid;
  }

  -- a read failed
  pub entry_unread : {T : Type 0} {a : Progress} {fault : _} →
      SaysEntryLines {T = T} v x lines (entries_at d reads w a t) (entries_at d' reads' w' a t') (Err (Read fault))
  entry_unread = entry_by reads_first (paid_reads left.most)

  -- the lines were said, or the output failed among them
  pub entry_said : {T : Type 0} {a b : Progress} {y : T} (ms : List TreeMessage) → 1 ≤ length ms →
      ForBytes (KnowsPath v d.contents w x t) (λ bytes. lines (volume_of v bytes) ≡ ms) → Said a b (map of_tree ms) →
      SaysEntryLines v x lines (entries_at d reads w a t) (entries_at d' reads' w' b t') (Ok y)
  entry_said ms many right said = entry_by (says_all (λ bytes k. ap (map of_tree) (right bytes k)) said)
      (paid_says _ said (some_said _ many) left.most)

  pub entry_stopped : {T : Type 0} {a b : Progress} {fault : _} (ms : List TreeMessage) → 1 ≤ length ms →
      ForBytes (KnowsPath v d.contents w x t) (λ bytes. lines (volume_of v bytes) ≡ ms) → Stopped a b (map of_tree ms) →
      SaysEntryLines {T = T} v x lines (entries_at d reads w a t) (entries_at d' reads' w' b t') (Err (Out fault))
  entry_stopped ms many right stopped = entry_by (stops_all (λ bytes k. ap (map of_tree) (right bytes k)) stopped)
      (paid_stops _ stopped (some_said _ many) left.most)

-- the lines of an entry alone are its lines
pub one_entry : {T : Type 0} {v : Layout} {x : ℕ} {old new : LinesMoment EntryTexts} {r : Result T RunFault}
    (m : PassedNames) (e : RoledEntry) → SaysEntryLines v x (λ vol. roled_reported vol x m e) old new r →
    SaysEntryLines v x (λ vol. entries_reported vol x m (e ∷ [])) old new r
one_entry m e lines = simp append-nil lines
