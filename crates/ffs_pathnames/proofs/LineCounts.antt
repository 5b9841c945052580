-- How many lines there are, and how many reads they make.
use Rattle.std.proofs.Common.{◌≡◌, ◌≤◌, ◌+◌, ◌*◌, ℕ, refl, ap, subst, ◌∙◌, arith, List, [], ◌∷◌, ◌++◌, length}
use Rattle.std.proofs.{Common.{append-nil, length-append, Ok, Option, map}, lemmas.Bool.Decides.nat_tests}
use Rattle.std.proofs.lemmas.List.{length-map}
use Rattle.ffs_image.specs.Device.{Device}
use Rattle.ffs_volume.specs.{declared.{Attr.Attr, Layout.Layout}, Report.Reads.line_reads, Directories.Entries.Entry}
use Rattle.ffs_volume.specs.Directories.{PathnameCheck.extra_lines, Roles.{RoledEntry, Volume}}
use Rattle.ffs_volume.specs.{Messages.Kinds.{TreeMessage, of_tree}, Encodings.Places.PlacesAreNoted}
use Rattle.ffs_workspace.{specs.declared.workspace.Workspace.Workspace, proofs.Leaving.{claims_held, survey_held}}
use Rattle.ffs_paths.{specs.Reads.{KnowsPlaces, OnlyReads, ReadsFew}, proofs.Climbed.few_more}
use Rattle.ffs_pathnames.specs.{KnowsAtDirectory.KnowsAtDirectory, PassedNames.{PassedNames, after_roled}}
use Rattle.ffs_pathnames.specs.PassedNames.{entries_reported, roled_reported}

-- ---- where there is a line
pub knows_places : (v : Layout) (contents : Option (List ℕ)) (w : Workspace) (d : ℕ) (b : List ℕ) →
    KnowsAtDirectory v contents w d b → PlacesAreNoted v b w.words.items → KnowsPlaces v contents w b
knows_places v contents w d b k noted = grind arith

-- where nothing is read there are as few reads as one likes
pub few_none : {n reads : ℕ} {w : Workspace} → ReadsFew n reads reads w w
few_none = record { count = omega arith; blocks = refl }

-- and so after a call that only read
pub places_on : {T : Type 0} {v : Layout} {d d' : Device} {w w' : Workspace} {x : T} (b : List ℕ) →
    OnlyReads v d d' w w' (Ok x) → KnowsPlaces v d.contents w b → KnowsPlaces v d'.contents w' b
places_on b r k = grind (arith, ap, claims_held, survey_held, subst)

pub by_line : {reads reads' : ℕ} {w w' : Workspace} (n : ℕ) → ReadsFew line_reads reads reads' w w' → 1 ≤ n →
    ReadsFew (line_reads * n) reads reads' w w'
by_line n few some = few_more few (omega arith)

-- so much was read for some lines, and the rest are to come
pub record HasRead (all rest reads reads' : ℕ) (before after : Workspace) : Type 0 where
  pub count : reads' + line_reads * rest ≤ reads + line_reads * all
  pub blocks : after.windows.blocks ≡ before.windows.blocks

pub has_begun : (all reads : ℕ) (w : Workspace) → HasRead all all reads reads w w
has_begun all reads w = record { count = omega arith; blocks = refl }

pub read_more : {all rest reads reads' reads'' : ℕ} {w w' w'' : Workspace} (n more : ℕ) →
    HasRead all rest reads reads' w w' → rest ≡ n + more → ReadsFew (line_reads * n) reads' reads'' w' w''
    → HasRead all more reads reads'' w w''
read_more n more has is few = record { count = omega arith; blocks = few.blocks ∙ has.blocks }

pub read_all : {all rest reads reads' : ℕ} {w w' : Workspace} → HasRead all rest reads reads' w w' →
    ReadsFew (line_reads * all) reads reads' w w'
read_all has = record { count = omega arith; blocks = has.blocks }

-- ---- how many lines there are
-- where there is a line, there is its message
pub some_said : (ms : List TreeMessage) → 1 ≤ length ms → 1 ≤ length (map of_tree ms)
some_said ms some = rw (length-map ms of_tree) some

-- an extra entry has a line
pub extra_some : (attr : Attr) (path : List ℕ) (e : Entry) → 1 ≤ length (extra_lines attr path e)
extra_some attr path e = grind (arith, nat_tests)

-- those of an entry, and those of the entries after it
pub entry_counted : (vol : Volume) (s : ℕ) (m : PassedNames) {m' : PassedNames} (e : RoledEntry)
    (es es' : List RoledEntry) →
    es ≡ e ∷ es' → after_roled vol s m e ≡ m' →
    length (entries_reported vol s m es)
    ≡ length (entries_reported vol s m (e ∷ [])) + length (entries_reported vol s m' es')
entry_counted vol s m e es es' is after =
    rw (is, ← after, append-nil (roled_reported vol s m e)) (length-append (roled_reported vol s m e) _)

-- those of two parts
pub lines_long : (all one more : List TreeMessage) → map of_tree all ≡ map of_tree one ++ map of_tree more →
    length all ≡ length one + length more
lines_long all one more e = simp (length-append, length-map) at (ap length e)

-- ---- the most reads
-- a directory is begun, and reported, with k reads for each line
pub checked_twice : (k reads reads' reads'' cost runs here more all : ℕ) → reads' ≤ reads + (cost + k * here)
    → reads'' ≤ reads' + (runs + k * more) → cost ≡ 1 + runs → all ≡ here + more
    → reads'' ≤ reads + (2 * cost + k * all)
checked_twice k reads reads' reads'' cost runs here more all one two is e = rw e (omega (arith, one, two, is))
