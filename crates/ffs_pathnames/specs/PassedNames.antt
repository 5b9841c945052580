-- What the pathname check remembers of the names that it has passed, and what it reports by that.
use Rattle.std.specs.Prelude.{ℕ, ◌==◌, Bool, true, false, not, ◌&&◌, nat_lt, if◌then◌else◌, List, [], ◌∷◌, ◌++◌}
use Rattle.std.specs.{Prelude.{slice_index, slice_set}, List.slice_index_or}
use Rattle.ffs_volume.specs.{declared.{constants.TheConstants.ROOTINO, verdict.Verdict.Verdict}}
use Rattle.ffs_volume.specs.{Messages.Kinds.TreeMessage, Directories.{Entries.Entry, Climb.is_value, Graph.parent}}
use Rattle.ffs_volume.specs.Directories.{Naming.graph_of, Roles.{Volume, RoledEntry, is_dir, is_suspect, is_plain}}
use Rattle.ffs_volume.specs.Directories.{Roles.roled_entries, PathnameCheck.{is_role_silent, role_lines, verdict_on}}

-- `flags`: of a suspect inode, whether a plain entry has named it; of any other, whether it is
-- calm. `stamps`: of an inode, its parent, once the first look at the parent has met its entry
-- there, and until the second reading passes it, else 0.
pub record PassedNames : Type 0 where
  pub flags : List Bool
  pub stamps : List ℕ

abbrev pub is_flagged : PassedNames → ℕ → Bool
is_flagged m x = slice_index_or m.flags x false

-- x isn't suspect, and its flag says that it is a calm directory
abbrev pub is_flagged_calm : Volume → PassedNames → ℕ → Bool
is_flagged_calm vol m x = not (is_suspect vol x) && is_flagged m x

-- the parent entry of x is due in `dir`: for the second reading of `dir` it is still to come
abbrev pub is_stamped : ℕ → PassedNames → ℕ → Bool
is_stamped dir m x = slice_index m.stamps x == dir

-- a plain entry of `dir` that names x is passed
abbrev pub after_name : Volume → ℕ → PassedNames → ℕ → PassedNames
after_name vol dir m x = record {
  flags = if is_suspect vol x then slice_set m.flags x true else m.flags;
  stamps = if is_stamped dir m x then slice_set m.stamps x 0 else m.stamps;
}

abbrev pub after_roled : Volume → ℕ → PassedNames → RoledEntry → PassedNames
after_roled vol dir m e =
    if is_plain e.role && nat_lt e.entry.number vol.count then after_name vol dir m e.entry.number else m

-- the verdict on a plain entry of `dir` by the names that were passed, for the second reading of `dir`. The flag of
-- an inode that isn't suspect says nothing of names: `verdict_on` doesn't depend on it there
abbrev pub verdict_at_reading : Volume → ℕ → PassedNames → Entry → Verdict
verdict_at_reading vol dir m e = verdict_on vol (not (is_flagged m e.number)) (is_stamped dir m e.number) e

-- what is reported of an entry
unfoldable pub roled_reported : Volume → ℕ → PassedNames → RoledEntry → List TreeMessage
roled_reported vol dir m e = role_lines vol dir e.role e.entry (verdict_at_reading vol dir m e.entry)

-- some entries of `dir`, one after another
abbrev pub after_entries : Volume → ℕ → PassedNames → List RoledEntry → PassedNames
after_entries vol dir m [] = m
after_entries vol dir m (e ∷ es) = after_entries vol dir (after_roled vol dir m e) es

abbrev pub entries_reported : Volume → ℕ → PassedNames → List RoledEntry → List TreeMessage
entries_reported vol dir m [] = []
entries_reported vol dir m (e ∷ es) =
    roled_reported vol dir m e ++ entries_reported vol dir (after_roled vol dir m e) es

-- all entries of `dir`
abbrev pub after_directory : Volume → ℕ → PassedNames → PassedNames
after_directory vol dir m = after_entries vol dir m (roled_entries vol dir)

abbrev pub directory_reported : Volume → ℕ → PassedNames → List TreeMessage
directory_reported vol dir m = entries_reported vol dir m (roled_entries vol dir)

-- x is a directory other than the root, with the parent `dir`
abbrev pub belongs : Volume → (dir x : ℕ) → Bool
belongs vol dir x = is_dir vol x && (not (x == ROOTINO) && is_value (parent (graph_of vol) x) dir)

-- a first look at the entries of `dir` stamps each inode that belongs to `dir`
abbrev pub after_look : Volume → ℕ → List ℕ → RoledEntry → List ℕ
after_look vol dir stamps e =
    if is_plain e.role && belongs vol dir e.entry.number then slice_set stamps e.entry.number dir else stamps

abbrev pub after_looks : Volume → ℕ → List ℕ → List RoledEntry → List ℕ
after_looks vol dir stamps [] = stamps
after_looks vol dir stamps (e ∷ es) = after_looks vol dir (after_look vol dir stamps e) es

-- the verdict on a plain entry of `dir` by the names that were passed, for the first look: the parent
-- entry of what belongs to `dir` is the first that the look meets
abbrev pub verdict_at_look : Volume → ℕ → PassedNames → Entry → Verdict
verdict_at_look vol dir m e =
    verdict_on vol (not (is_flagged m e.number)) (belongs vol dir e.number && not (is_stamped dir m e.number)) e

-- a first look is sure that nothing is reported of an entry of `dir`, by the flags before `dir` and the
-- stamps before the entry
unfoldable pub is_quiet : Volume → ℕ → List Bool → List ℕ → RoledEntry → Bool
is_quiet vol dir flags stamps e =
    is_role_silent e.role (verdict_at_look vol dir (record { flags = flags; stamps = stamps }) e.entry)

abbrev pub are_quiet : Volume → ℕ → List Bool → List ℕ → List RoledEntry → Bool
are_quiet vol dir flags stamps [] = true
are_quiet vol dir flags stamps (e ∷ es) =
    is_quiet vol dir flags stamps e && are_quiet vol dir flags (after_look vol dir stamps e) es
