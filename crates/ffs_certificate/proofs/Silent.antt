-- When the checks of directories are silent: pathnames, connectivity and references.
use Rattle.std.proofs.Common.{◌≡◌, ◌≢◌, ℕ, zero, suc, ◌+◌, ◌<◌, Bool, true, false, ◌&&◌, refl, List, [], ◌∷◌, Option}
use Rattle.std.proofs.{Common.{Some, IsSomeAnd, arith, subst}, lemmas.Bool.{not-true, Decides.nat_tests}}
use Rattle.ffs_volume.specs.declared.{Class.{TheVariants.Dir, Class}, Role.TheVariants.{Extra, Plain}}
use Rattle.ffs_volume.specs.Directories.{Entries.{Entry, is_live}, Roles.{Volume, RoledEntry, is_dir, is_suspect}}
use Rattle.ffs_volume.specs.Directories.Roles.{roled_entries, dot, dotdot, is_allocated_inode, references, entry_if}
use Rattle.ffs_volume.specs.Directories.{Roles.{start_entry, is_one_dot, is_two_dots}, Graph.is_naming_entry_at}
use Rattle.ffs_volume.specs.Directories.{Graph.{test_at, parent}, PathnameCheck.{attributes, entry_lines}}
use Rattle.ffs_volume.specs.Directories.PathnameCheck.{lines_of_entries, plain_lines, plain_verdict, root_lines}
use Rattle.ffs_volume.specs.Directories.PathnameCheck.{root_lines_of, is_short, has_partial_chunk, are_sound}
use Rattle.ffs_volume.specs.Directories.PathnameCheck.{dot_defects, dotdot_defects, is_dot_silent, is_wrong_parent}
use Rattle.ffs_volume.specs.Directories.PathnameCheck.{header_defects, header_of, dir_header_lines, sized_dir_lines}
use Rattle.ffs_volume.specs.Directories.{PathnameCheck.{directory_lines, pathname_lines}, Naming.is_first_naming_entry}
use Rattle.ffs_volume.specs.Directories.Naming.{is_parent_entry, graph_of, nth_roled}
use Rattle.ffs_volume.proofs.VerdictLaws.{IsPlainSilent, silent_parts, silent_of, silent_from, silent_lines}
use Rattle.ffs_volume.{proofs.VerdictLaws.{header_silent_from, header_silent}, specs.Directories.Connectivity.is_dead}
use Rattle.ffs_volume.specs.Directories.Connectivity.{is_unref_dir, connectivity_lines}
use Rattle.ffs_volume.specs.Directories.ReferenceCheck.{inode_reference_lines, reference_lines_at, reference_lines}
use Rattle.ffs_volume.specs.{Messages.Kinds.{lines_below, of_reference}, Disk.Numbers.equals_natural}
use Rattle.ffs_volume.proofs.Silence.{nil-left, nil-right, nil-both, reported-quiet, then-silent, lines-quiet}
use Rattle.ffs_volume.{proofs.Silence.lines-silent, specs.declared.tree_lines.ReferenceLine.TheVariants.UnrefDir}

-- ENTRIES: a plain entry
abbrev pub IsPlainQuiet : (v : Volume) (s j : ℕ) (e : Entry) → Type 0
IsPlainQuiet v s j e =
    IsPlainSilent v (is_first_naming_entry (graph_of v) s j e.number) (is_parent_entry (graph_of v) s j e.number) e

plain-quiet : (v : Volume) (s j : ℕ) (e : Entry) → plain_lines v s e (plain_verdict v s j e) ≡ [] →
    IsPlainQuiet v s j e
unfolding plain_verdict
plain-quiet v s j e h = silent_parts v _ _ e (silent_from (plain_verdict v s j e) e.number _ _ _ h)

plain-silent : (v : Volume) (s j : ℕ) (e : Entry) → IsPlainQuiet v s j e →
    plain_lines v s e (plain_verdict v s j e) ≡ []
unfolding plain_verdict
plain-silent v s j e q = silent_lines (plain_verdict v s j e) e.number _ _ _ (silent_of v _ _ e q)

-- an entry: not extra, and quiet if it is plain
pub record IsEntryQuiet (v : Volume) (s j : ℕ) (e : RoledEntry) : Type 0 where
  pub no_extra : e.role ≢ Extra
  pub plain : e.role ≡ Plain → IsPlainQuiet v s j e.entry

entry-quiet : (v : Volume) (s j : ℕ) (e : RoledEntry) → entry_lines v s j e ≡ [] → IsEntryQuiet v s j e
unfolding entry_lines
entry-quiet v s j e h = record { no_extra = grind arith; plain = λ x. plain-quiet v s j e.entry (rw x at h) }

entry-silent : (v : Volume) (s j : ℕ) (e : RoledEntry) → IsEntryQuiet v s j e → entry_lines v s j e ≡ []
unfolding entry_lines
entry-silent v s j e q = grind (arith, plain-silent)

-- the entries of a list that is from the place j on
entries-quiet : (v : Volume) (s j : ℕ) (es : List RoledEntry) → lines_of_entries v s j es ≡ [] →
    (k i : ℕ) (e : RoledEntry) → nth_roled es k ≡ Some e → j + k ≡ i → IsEntryQuiet v s i e
unfolding lines_of_entries
entries-quiet v s j [] h k i e x z = absurd (cc)
entries-quiet v s j (f ∷ es) h zero i e x z =
    let first = entry-quiet v s j f (nil-left (entry_lines v s j f) _ h) in grind arith
entries-quiet v s j (f ∷ es) h (suc k) i e x z =
    entries-quiet v s (suc j) es (nil-right (entry_lines v s j f) _ h) k i e x (omega arith)

entries-silent : (v : Volume) (s j : ℕ) (es : List RoledEntry) →
    ((k i : ℕ) (e : RoledEntry) → nth_roled es k ≡ Some e → j + k ≡ i → IsEntryQuiet v s i e) →
    lines_of_entries v s j es ≡ []
unfolding lines_of_entries
entries-silent v s j [] h = refl
entries-silent v s j (f ∷ es) h =
    let more = entries-silent v s (suc j) es (λ k i e x z. h (suc k) i e x (omega arith)) in
    grind (arith, entry-silent, h 0 j f)

-- an entry as the graph sees it
test-gives : (p : RoledEntry → Bool) (j : ℕ) (es : List RoledEntry) → test_at p j es ≡ true → (e : RoledEntry)
    × (nth_roled es j ≡ Some e) × (p e ≡ true)
test-gives p j [] h = absurd (cc)
test-gives p zero (e ∷ es) h = (e, refl, h)
test-gives p (suc j) (e ∷ es) h = test-gives p j es h

test-from : (p : RoledEntry → Bool) (j : ℕ) (es : List RoledEntry) (e : RoledEntry) → nth_roled es j ≡ Some e →
    p e ≡ true → test_at p j es ≡ true
test-from p j [] e x h = absurd (cc)
test-from p zero (f ∷ es) e x h = let q : e ≡ f = cc in subst (λ y. p y ≡ true) q h
test-from p (suc j) (f ∷ es) e x h = test-from p j es e x h

-- the entry at j of the directory s is a plain one that names x
pub record IsNamer (v : Volume) (s j x : ℕ) : Type 0 where
  pub dir : is_dir v s ≡ true
  pub entry : RoledEntry
  pub there : nth_roled (roled_entries v s) j ≡ Some entry
  pub role : entry.role ≡ Plain
  pub number : entry.entry.number ≡ x

pub names_at-gives : (v : Volume) (s j x : ℕ) → is_naming_entry_at (graph_of v) s j x ≡ true → IsNamer v s j x
names_at-gives v s j x h = grind (arith, test-gives)

pub names_at-from : (v : Volume) (s j x : ℕ) → IsNamer v s j x → is_naming_entry_at (graph_of v) s j x ≡ true
names_at-from v s j x n = grind (arith, test-from)

-- DIRECTORIES: the size, Gaps and chunks of one
pub record IsShapeQuiet (v : Volume) (d : ℕ) : Type 0 where
  pub short : is_short (v.inode d).size ≡ false
  pub broken : has_partial_chunk (v.inode d).size ≡ false
  pub gap : v.gap d ≡ false
  pub sound : are_sound (v.chunks d) ≡ true

-- `.` is there, with its own number and type
abbrev pub IsDotQuiet : ℕ → Option Entry → Type 0
IsDotQuiet d o = IsSomeAnd o (λ e. (e.number ≡ d) × (e.kind ≡ 4))

dot-quiet : (d : ℕ) (first : Option Entry) → is_dot_silent (dot_defects d first) ≡ true →
    IsDotQuiet d (entry_if (λ e. is_live e && is_one_dot e.name) first)
dot-quiet d first h = grind (arith, nat_tests)

dot-silent : (d : ℕ) (first : Option Entry) → IsDotQuiet d (entry_if (λ e. is_live e && is_one_dot e.name) first) →
    is_dot_silent (dot_defects d first) ≡ true
dot-silent d first h = grind (arith, nat_tests)

-- `..` is there, with its type, and it is the parent if there is one
pub record IsDotdotQuiet (v : Volume) (d : ℕ) (o : Option Entry) : Type 0 where
  pub same : IsSomeAnd o (λ e. is_wrong_parent (parent (graph_of v) d) e.number ≡ false)
  pub kind : IsSomeAnd o (λ e. e.kind ≡ 4)

dotdot-quiet : (v : Volume) (d : ℕ) (second : Option Entry) →
    is_dot_silent (dotdot_defects (parent (graph_of v) d) second) ≡ true →
    IsDotdotQuiet v d (entry_if (λ e. is_live e && is_two_dots e.name) second)
dotdot-quiet v d second h = grind (arith, nat_tests)

dotdot-silent : (v : Volume) (d : ℕ) (second : Option Entry) →
    IsDotdotQuiet v d (entry_if (λ e. is_live e && is_two_dots e.name) second) →
    is_dot_silent (dotdot_defects (parent (graph_of v) d) second) ≡ true
dotdot-silent v d second q = grind (arith, nat_tests)

-- a directory
pub record IsDirQuiet (v : Volume) (d : ℕ) : Type 0 where
  pub shape : IsShapeQuiet v d
  pub dot_there : IsDotQuiet d (dot v d)
  pub dotdot_there : IsDotdotQuiet v d (dotdot v d)
  pub entries : (j : ℕ) (e : RoledEntry) → nth_roled (roled_entries v d) j ≡ Some e → IsEntryQuiet v d j e

dir-quiet : (v : Volume) (d : ℕ) → sized_dir_lines v d ≡ [] → IsDirQuiet v d
unfolding sized_dir_lines dir_header_lines header_defects dot dotdot
dir-quiet v d h =
    let none = header_silent_from (header_of v d) _ _ (nil-left (dir_header_lines v d) _ h) in
    record {
      shape = grind (arith, nat_tests);
      dot_there = dot-quiet d (start_entry v d 0) (grind (arith, nat_tests));
      dotdot_there = dotdot-quiet v d (start_entry v d 1) (grind (arith, nat_tests));
      entries = λ j e x. entries-quiet v d 0 (roled_entries v d) (nil-right (dir_header_lines v d) _ h) j j e x
          (omega arith);
    }

dir-silent : (v : Volume) (d : ℕ) → IsDirQuiet v d → sized_dir_lines v d ≡ []
unfolding sized_dir_lines dir_header_lines header_defects dot dotdot
dir-silent v d q =
    let entries = entries-silent v d 0 (roled_entries v d)
    (λ j i e x z. let same : j ≡ i = omega arith in rw (← same) (q.entries j e x)) in
    let dot = dot-silent d (start_entry v d 0) q.dot_there in
    let dotdot = dotdot-silent v d (start_entry v d 1) q.dotdot_there in
    nil-both _ _ (header_silent (header_of v d) _ _ (grind (arith, nat_tests))) entries

-- PATHNAMES: the root, and each directory that isn't empty
pub record IsPathnameQuiet (v : Volume) : Type 0 where
  pub root : v.class 2 ≡ Dir
  pub suspect : is_suspect v 2 ≡ false
  pub each : (d : ℕ) → is_dir v d ≡ true → (v.inode d).size ≢ 0 → IsDirQuiet v d

root-quiet : (v : Volume) (c : Class) → root_lines_of v c ≡ [] → (c ≡ Dir) × (is_suspect v 2 ≡ false)
root-quiet v c h = grind arith

pub dir-below : (v : Volume) (d : ℕ) → is_dir v d ≡ true → d < v.count
dir-below v d h = grind (arith, nat_tests)

pub pathname-quiet : (v : Volume) → pathname_lines v ≡ [] → IsPathnameQuiet v
unfolding pathname_lines root_lines
pathname-quiet v h =
    let r = root-quiet v (v.class 2) (nil-left (root_lines v) _ h) in
    let a : lines_below (directory_lines v) v.count ≡ [] = grind (arith, nil-right) in
    record {
      root = r.0;
      suspect = r.1;
      each = λ d k n.
          let quiet = lines-quiet (directory_lines v) v.count a d (dir-below v d k) in
          dir-quiet v d (grind (arith, nat_tests));
    }

pub pathname-silent : (v : Volume) → IsPathnameQuiet v → pathname_lines v ≡ []
unfolding pathname_lines root_lines
pathname-silent v q = grind (arith, lines-silent, dir-silent, not-true)

-- CONNECTIVITY
pub connectivity-quiet : (v : Volume) → connectivity_lines v ≡ [] → (d : ℕ) → d < v.count → is_unref_dir v d ≡ false
unfolding connectivity_lines
connectivity-quiet v h d l = reported-quiet _ (of_reference (UnrefDir (attributes v d))) (lines-quiet _ v.count h d l)

pub connectivity-silent : (v : Volume) → ((d : ℕ) → is_unref_dir v d ≡ false) → connectivity_lines v ≡ []
unfolding connectivity_lines
connectivity-silent v h = grind (arith, lines-silent)

-- REFERENCES: an inode that is allocated
pub record IsCountQuiet (v : Volume) (i : ℕ) : Type 0 where
  pub alive : is_dead v i ≡ false
  pub some : references v i ≢ 0
  pub same : equals_natural (v.inode i).nlink (references v i) ≡ true

count-quiet : (v : Volume) (i : ℕ) → inode_reference_lines v i ≡ [] → IsCountQuiet v i
unfolding inode_reference_lines
count-quiet v i h = grind arith

count-silent : (v : Volume) (i : ℕ) → IsCountQuiet v i → inode_reference_lines v i ≡ []
unfolding inode_reference_lines
count-silent v i q = grind arith

pub reference-quiet : (v : Volume) → reference_lines v ≡ [] → (i : ℕ) → is_allocated_inode v i ≡ true → IsCountQuiet v i
unfolding reference_lines
reference-quiet v h i k =
    let quiet = lines-quiet (reference_lines_at v) v.count h i (grind (arith, nat_tests)) in
    count-quiet v i (grind arith)

pub reference-silent : (v : Volume) → ((i : ℕ) → is_allocated_inode v i ≡ true → IsCountQuiet v i) →
    reference_lines v ≡ []
unfolding reference_lines
reference-silent v h = simp (lines-silent, then-silent, count-silent)
