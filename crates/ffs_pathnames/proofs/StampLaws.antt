-- Stamps, where one word changes.
use Rattle.std.proofs.Common.{arith, ◌≡◌, ℕ, zero, suc, Bool, true, false, if◌then◌else◌, refl, List, [], ◌∷◌, length}
use Rattle.std.proofs.Common.{slice_index, slice_set, not, ◌&&◌, ◌==◌, ◌<◌, ◌≤◌, ◌∙◌, ap, eqb-true, eq-eqb, lt-ltb}
use Rattle.std.{proofs.lemmas.Bool.{and_from, and_parts}, specs.declared.{alloc.Global.Global, vec.Vec.Vec}}
use Rattle.ffs_workspace.specs.{Leaves.LeavesSurvey, declared.workspace.Workspace.Workspace}
use Rattle.ffs_volume.specs.{Encodings.Places.{is_due, part_in, PlacesAreNoted}, declared.{Layout.Layout, Role.Role}}
use Rattle.ffs_volume.specs.{Encodings.Kinds.is_dir_kind, Directories.{Entries.Entry, Roles.{Volume, is_plain}}}
use Rattle.ffs_pathnames.specs.{DirectoryLooks.LeavesAllButDue, declared.inodes.Inodes.Inodes, Sees.{Sees, passed_in}}
use Rattle.ffs_pathnames.specs.{Sees.stamps_in, Stamps.{stamp_of, stamps_of, KeepParts, KeepsWords}}
use Rattle.ffs_pathnames.specs.PassedNames.{after_look, after_roled}
use Rattle.ffs_survey.specs.Survey.{suspect_at}

pub stamps_length : (ps ws : List ℕ) → length (stamps_of ps ws) ≡ length ws
stamps_length ps [] = refl
stamps_length [] (w ∷ ws) = ap suc (stamps_length [] ws)
stamps_length (p ∷ ps) (w ∷ ws) = ap suc (stamps_length ps ws)

pub stamp_at : (ps ws : List ℕ) (x : ℕ) →
    slice_index (stamps_of ps ws) x ≡ stamp_of (slice_index ps x) (slice_index ws x)
stamp_at ps [] x = refl
stamp_at [] (w ∷ ws) zero = grind arith
stamp_at [] (w ∷ ws) (suc x) = stamp_at [] ws x
stamp_at (p ∷ ps) (w ∷ ws) zero = refl
stamp_at (p ∷ ps) (w ∷ ws) (suc x) = stamp_at ps ws x

stamps_set : (ps ws : List ℕ) (x word : ℕ) →
    stamps_of ps (slice_set ws x word) ≡ slice_set (stamps_of ps ws) x (stamp_of (slice_index ps x) word)
stamps_set ps [] x word = refl
stamps_set [] (w ∷ ws) zero word = grind arith
stamps_set [] (w ∷ ws) (suc x) word = ap (λ l. 0 ∷ l) (stamps_set [] ws x word)
stamps_set (p ∷ ps) (w ∷ ws) zero word = refl
stamps_set (p ∷ ps) (w ∷ ws) (suc x) word = ap (λ l. stamp_of p w ∷ l) (stamps_set ps ws x word)

-- the word of an inode is due, or passed
pub stamped : (ps ws ws' : List ℕ) (x word s : ℕ) → ws' ≡ slice_set ws x word → is_due word ≡ true →
    slice_index ps x ≡ s → stamps_of ps ws' ≡ slice_set (stamps_of ps ws) x s
stamped ps ws ws' x word s set due parent = rw (set, stamps_set ps ws x word, due, parent) refl

pub unstamped : (ps ws ws' : List ℕ) (x word : ℕ) → ws' ≡ slice_set ws x word → is_due word ≡ false →
    stamps_of ps ws' ≡ slice_set (stamps_of ps ws) x 0
unstamped ps ws ws' x word set due = rw (set, stamps_set ps ws x word, due) refl

-- where no word is due, nothing is stamped
pub none_stamped : (ps ws : List ℕ) (x : ℕ) → is_due (slice_index ws x) ≡ false → slice_index (stamps_of ps ws) x ≡ 0
none_stamped ps ws x h = rw (stamp_at ps ws x, h) refl

pub keep_more : (a b c : List ℕ) → KeepParts a b → KeepParts b c → KeepParts a c
keep_more a b c p q x = q x ∙ p x

pub words_more : {a b c : Vec ℕ Global} → KeepsWords a b → KeepsWords b c → KeepsWords a c
words_more p q = record { places = λ x. q.places x ∙ p.places x; long = q.long ∙ p.long }

-- where the windows alone have changed
pub windows_keep : (old new : Workspace) → new ≡ record old { windows = new.windows } →
    KeepParts old.words.items new.words.items
windows_keep old new e x = ap (λ (w : Workspace). part_in (slice_index w.words.items x)) e

-- a place is noted of the same directories
pub noted_kept : (v : Layout) (b : List ℕ) (old new : List ℕ) → KeepParts old new → PlacesAreNoted v b old → PlacesAreNoted v b new
noted_kept v b old new keep noted x k reached = grind arith

-- where the flags, the words and the windows alone have changed
pub names_leave : (old new : Workspace) →
    new ≡ record old { flags = new.flags; words = new.words; windows = new.windows } →
    KeepParts old.words.items new.words.items → LeavesSurvey old new
names_leave old new e keep = grind arith

-- the words and windows alone
pub words_leave : (old new : Workspace) → new ≡ record old { words = new.words; windows = new.windows } →
    KeepParts old.words.items new.words.items → LeavesAllButDue old new
words_leave old new e keep = grind (arith, ap, names_leave)

-- a word that is 0 isn't due
pub none_due : (ws : List ℕ) (x : ℕ) → slice_index ws x ≡ 0 → is_due (slice_index ws x) ≡ false
none_due ws x e = rw e refl

-- the inode that an entry names is stamped where it belongs to the directory
pub after_stamp : (vol : Volume) (i : Inodes) (s word : ℕ) (ws ws' : List ℕ) (role : Role) (e : Entry) → Sees vol i → 2 ≤ s
    → is_plain role ≡ true
    → (is_dir_kind (slice_index i.kinds.now e.number)
    && (not (e.number == 2) && (slice_index i.parents.now.items e.number == s))) ≡ true
    → ws' ≡ slice_set ws e.number word → is_due word ≡ true →
    stamps_in i ws' ≡ after_look vol s (stamps_in i ws) (record { role = role; entry = e })
after_stamp vol i s word ws ws' role e sees two plain mine set due = grind (arith, and_parts, and_from, stamped, eqb-true)

-- an entry that names an inode due in s is passed
pub after_pass : (vol : Volume) (i : Inodes) (s word : ℕ) (suspect : Bool) (flags flags' : List Bool) (ws ws' : List ℕ)
    (role : Role) (e : Entry) → Sees vol i → is_plain role ≡ true → e.number < length i.kinds.now
    → suspect ≡ suspect_at i.kinds.now i.marked.now.items e.number
    → flags' ≡ (if suspect then slice_set flags e.number true else flags)
    → slice_index (stamps_in i ws) e.number ≡ s → ws' ≡ slice_set ws e.number word → is_due word ≡ false →
    after_roled vol s (passed_in i flags ws) (record { role = role; entry = e }) ≡ passed_in i flags' ws'
after_pass vol i s word suspect flags flags' ws ws' role e sees plain below shown flagged stamp set due =
    grind (arith, lt-ltb, unstamped, eq-eqb)
