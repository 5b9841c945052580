-- What is remembered of the names that were passed, from one directory to the next.
use Rattle.std.proofs.Common.{◌≡◌, ◌≢◌, ℕ, suc, ◌≤◌, true, false, refl, List, [], ◌∷◌, ◌++◌, length, slice_index}
use Rattle.std.{proofs.Common.{slice_set, arith, sym, ◌∙◌, append_assoc, append-nil}, specs.List.list_any}
use Rattle.std.proofs.lemmas.{List.{get_or-set_other, get_or-set_same, set_past}, Bool.Decides.nat_tests}
use Rattle.std.proofs.{Math.Bool.or-false, lemmas.Bool.{and_parts, both_ways}}
use Rattle.ffs_pathnames.proofs.{FirstTwo.parent_edge, PassedLaws.{IsDirectory, calm_roled, right_after}}
use Rattle.ffs_pathnames.{specs.Silent.IsSilentDirectory, proofs.LookLaws.{AreStamped, stamped_all, looks_all_long}}
use Rattle.ffs_pathnames.{proofs.LookLaws.suspects_flagged, specs.PassedNames.{PassedNames, is_flagged_calm}}
use Rattle.ffs_pathnames.specs.PassedNames.{is_flagged, after_roled, after_entries, belongs, after_look, after_looks}
use Rattle.ffs_pathnames.specs.{PassedNames.are_quiet, PassedRight.{RemembersWithin, RemembersBefore}}
use Rattle.ffs_volume.specs.Directories.Roles.{Volume, RoledEntry, is_dir, is_suspect, roled_entries}
use Rattle.ffs_volume.specs.Directories.{Naming.graph_of, Graph.{is_naming_entry, is_naming_dir, parent}}
use Rattle.ffs_volume.proofs.{ClimbLaws.is_value-true, SearchLaws.some_below-suc}

-- the parent of a directory names it
belongs_named : (vol : Volume) (s x : ℕ) → belongs vol s x ≡ true → list_any (is_naming_entry x) (roled_entries vol s) ≡ true
belongs_named vol s x h =
    let named = parent_edge (graph_of vol) x s in
    let value = is_value-true (parent (graph_of vol) x) s in
    grind (arith, nat_tests)

-- nothing is stamped before s is looked at
pub unstamped : (vol : Volume) (s : ℕ) (m : PassedNames) → RemembersBefore vol s m → AreStamped vol s [] m.stamps
unstamped vol s m r x h = let low = r.stamps x h in grind (arith, nat_tests)

abbrev pub looked : Volume → ℕ → PassedNames → PassedNames
looked v s m = record m { stamps = after_looks v s m.stamps (roled_entries v s) }

-- once s is looked at, what is remembered is right before its first entry
pub looked_right : (vol : Volume) (s : ℕ) (m : PassedNames) → RemembersBefore vol s m → RemembersWithin vol s [] (looked vol s m)
looked_right vol s m r =
    let all = stamped_all vol s [] (roled_entries vol s) m.stamps r.stamps_length (unstamped vol s m r) in
    grind (arith, belongs_named, looks_all_long, or-false, nat_tests)

-- ---- stamps stay small, and calm directories stay so
set_small : (s n a x : ℕ) (stamps : List ℕ) → a ≤ s → slice_index stamps x ≤ s →
    slice_index (slice_set stamps n a) x ≤ s
set_small s n a x stamps la lx = grind (arith, get_or-set_other, get_or-set_same, set_past)

looks_small : (vol : Volume) (s : ℕ) (es : List RoledEntry) (stamps : List ℕ) (x : ℕ) → slice_index stamps x ≤ s →
    slice_index (after_looks vol s stamps es) x ≤ s
looks_small vol s [] stamps x h = h
looks_small vol s (e ∷ es) stamps x h =
    let l = set_small s e.entry.number s x stamps (omega arith) h in
    looks_small vol s es (after_look vol s stamps e) x (grind (arith, nat_tests))

roled_small : (vol : Volume) (s : ℕ) (e : RoledEntry) (m : PassedNames) (x : ℕ) → slice_index m.stamps x ≤ s →
    slice_index (after_roled vol s m e).stamps x ≤ s
roled_small vol s e m x h = let l = set_small s e.entry.number 0 x m.stamps (omega arith) h in grind (arith, nat_tests)

entries_small : (vol : Volume) (s : ℕ) (es : List RoledEntry) (m : PassedNames) (x : ℕ) → slice_index m.stamps x ≤ s →
    slice_index (after_entries vol s m es).stamps x ≤ s
entries_small vol s [] m x h = h
entries_small vol s (e ∷ es) m x h = entries_small vol s es (after_roled vol s m e) x (roled_small vol s e m x h)

entries_calm : (vol : Volume) (s : ℕ) (es : List RoledEntry) (m : PassedNames) (x : ℕ) →
    is_flagged_calm vol (after_entries vol s m es) x ≡ is_flagged_calm vol m x
entries_calm vol s [] m x = refl
entries_calm vol s (e ∷ es) m x = entries_calm vol s es (after_roled vol s m e) x ∙ calm_roled vol s e x m

-- ---- the next directory
right_end : {vol : Volume} {s : ℕ} (done es : List RoledEntry) (m : PassedNames) → 2 ≤ s → RemembersWithin vol s done m →
    RemembersWithin vol s (done ++ es) (after_entries vol s m es)
right_end done [] m two r = rw (append-nil done) r
right_end {vol = vol} {s = s} done (e ∷ es) m two r =
    rw (← append_assoc done (e ∷ []) es)
    (right_end (done ++ e ∷ []) es (after_roled vol s m e) two (right_after e two r))

-- after an inode, the suspects that it names being flagged
abbrev FlagsNamed : Volume → ℕ → PassedNames → Type 0
FlagsNamed v s m = (x : ℕ) → is_suspect v x ≡ true → x ≢ 1 → x ≢ 2 → is_naming_dir (graph_of v) s x ≡ true →
    is_flagged m x ≡ true

next : (vol : Volume) (s : ℕ) (m : PassedNames) (stamps : List ℕ) → RemembersBefore vol s m → FlagsNamed vol s m →
    ((x : ℕ) → slice_index m.stamps x ≤ s → slice_index stamps x ≤ s) → length stamps ≡ length m.stamps →
    RemembersBefore vol (suc s) (record m { stamps = stamps })
next vol s m stamps r flagged small long = grind (arith, some_below-suc, nat_tests)

-- after a directory of which all entries were passed
pub reported_next : (vol : Volume) (s : ℕ) (m : PassedNames) → IsDirectory vol s → RemembersBefore vol s m →
    RemembersBefore vol (suc s) (after_entries vol s (looked vol s m) (roled_entries vol s))
reported_next vol s m d r =
    let whole = right_end [] (roled_entries vol s) (looked vol s m) d.from_two (looked_right vol s m r) in
    record {
      named = λ x h q n o. let a = whole.named x h q n o in grind (arith, some_below-suc, nat_tests);
      stamps = λ x h. let a = r.stamps x h in grind (arith, entries_small, looks_small);
      flags_length = whole.flags_length;
      stamps_length = whole.stamps_length;
      calm = λ x h. r.calm x (sym (entries_calm vol s (roled_entries vol s) (looked vol s m) x) ∙ h);
    }

-- so they are of a directory with quiet entries
quiet_flagged : (vol : Volume) (s : ℕ) (m : PassedNames) →
    are_quiet vol s m.flags m.stamps (roled_entries vol s) ≡ true → FlagsNamed vol s m
quiet_flagged vol s m h x q n two named =
    suspects_flagged vol s m.flags (roled_entries vol s) m.stamps x h q n two (and_parts (is_dir vol s) _ named).1

-- after a directory of which nothing is reported
pub quiet_next : (vol : Volume) (s : ℕ) (m : PassedNames) → RemembersBefore vol s m →
    are_quiet vol s m.flags m.stamps (roled_entries vol s) ≡ true → RemembersBefore vol (suc s) (looked vol s m)
quiet_next vol s m r h = search (arith, next, quiet_flagged, looks_small, looks_all_long)

-- after an inode that names no suspect, and isn't looked at
pub other_next : (vol : Volume) (s : ℕ) (m : PassedNames) →
    ((x : ℕ) → is_suspect vol x ≡ true → x ≢ 1 → is_naming_dir (graph_of vol) s x ≡ false) → RemembersBefore vol s m →
    RemembersBefore vol (suc s) m
other_next vol s m none r = next vol s m m.stamps r
    (λ x q n two named. absurd (both_ways (is_naming_dir (graph_of vol) s x) (none x q n) named)) (λ x h. h) refl

-- nothing is stamped by s before it is looked at
pub silent_quiet : (vol : Volume) (s : ℕ) (m : PassedNames) → IsSilentDirectory vol s → RemembersBefore vol s m →
    are_quiet vol s m.flags m.stamps (roled_entries vol s) ≡ true
silent_quiet vol s m silent r = silent.entries m.flags m.stamps (λ y h. let low = r.stamps y h in grind (arith, nat_tests))

-- after a directory that is left out
pub silent_next : (vol : Volume) (s : ℕ) (m : PassedNames) → IsSilentDirectory vol s → RemembersBefore vol s m →
    RemembersBefore vol (suc s) m
silent_next vol s m silent r = next vol s m m.stamps r (quiet_flagged vol s m (silent_quiet vol s m silent r)) (λ x h. h) refl
