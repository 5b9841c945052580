-- What is noted of places, entry by entry, chunk by chunk and directory by directory.
use Rattle.std.proofs.Common.{◌≡◌, ◌≢◌, ℕ, zero, suc, ◌+◌, ◌*◌, ◌/◌, ◌<◌, ◌≤◌, ◌==◌, Bool, true, false, not, ◌&&◌, ◌⊎◌}
use Rattle.std.proofs.Common.{List, [], ◌∷◌, length, Option, Some, None, refl, sym, ap, ◌∙◌, arith, inl, inr, flat_map}
use Rattle.std.{proofs.Common.{if◌then◌else◌, slice_index, slice_set, unwrap_or}, specs.List.list_any}
use Rattle.std.proofs.{Math.Bool.and-false, lemmas.Bool.{Decides.nat_tests, and_from, and_parts, both_ways, cases_eq}}
use Rattle.std.proofs.lemmas.Bool.{cond-false, eq-eqb, eqb-true, leb-true, ltb-true, ne_eqb, not_from_false, not-true}
use Rattle.std.proofs.lemmas.List.{Folds.list_any-append, get_or-set_other, get_or-set_same}
use Rattle.std.specs.declared.{vec.Vec.Vec, alloc.Global.Global}
use Rattle.ffs_volume.proofs.{LevelLaws.{level-some, within-zero}, SearchLaws.first_below-some, Unreached.edge-parts}
use Rattle.ffs_volume.specs.{declared.Layout.Layout, Disk.Numbers.piece, Encodings.Lists.bool_at}
use Rattle.ffs_volume.specs.{Laws.Geometry.IsAcceptedLayout, Directories.Entries.{Chunk, Entry, chunk_of, entries_of}}
use Rattle.ffs_volume.specs.Directories.Graph.{Graph, edge, is_naming_dir, is_naming_entry, level, parent, parent_by}
use Rattle.ffs_volume.specs.Directories.{Naming.graph_of, Roles.{RoledEntry, is_dir, role_of, roled_chunk}}
use Rattle.ffs_volume.specs.Directories.{Roles.{roled_entries, roled_from}, Volumes.{volume_of, volume_with}}
use Rattle.ffs_volume.specs.{Blocks.Inodes.inodes_of, Encodings.Places.{entries_in_chunk, entries_in_part}}
use Rattle.ffs_volume.specs.Encodings.Places.{is_due as is_to_be_read, name_in, part_size, part_in, AreParts, PlacesAreNoted}
use Rattle.ffs_volume.specs.Encodings.Places.{PlaceIsNoted}
use Rattle.ffs_survey.proofs.ParentLaws.{parent_above, IsAbove}
use Rattle.ffs_workspace.proofs.{Leaving.counts_same, PlaceLaws.{any_naming-roled, name_in-after, name_in-among}}
use Rattle.ffs_workspace.{proofs.PlaceLaws.name_in-roled, specs.Holds.{HoldsBlockCheck, HoldsSurvey}}
use Rattle.ffs_workspace.proofs.PartLaws.{begins_part, lies_in_part, BeginsPart}
use Rattle.ffs_workspace.specs.declared.workspace.Workspace.{Workspace}
use Rattle.ffs_names.{proofs.InParts.named_in_part, specs.{Fits.CursorFits, RunCursors.{last_place, StepsOn}}}
use Rattle.ffs_names.specs.{declared.run_cursor.RunCursor.RunCursor, Noting.{is_child_of, is_found, BeginsNotes}}
use Rattle.ffs_names.specs.Noting.{IsParent, KeepsToRead, NotesChildren, NotesChunk, NotesEach, NotesRight}

-- ---- entries of a chunk
-- an entry, and those after it
notes_then : {parents old mid new : List ℕ} {p place : ℕ} {e : RoledEntry} {es : List RoledEntry} → 0 < place →
    NotesChunk parents old mid p place (e ∷ []) → NotesChunk parents mid new p place es →
    NotesChunk parents old new p place (e ∷ es)
notes_then {parents = parents} {p = p} {place = place} {e = e} {es = es} low one more = grind (arith, nat_tests)

-- where other entries name the same inodes
notes_alike : {parents old new : List ℕ} {p place : ℕ} {es fs : List RoledEntry} →
    ((x : ℕ) → list_any (is_naming_entry x) es ≡ list_any (is_naming_entry x) fs) →
    NotesChunk parents old new p place es → NotesChunk parents old new p place fs
notes_alike same h = record { places = λ x. rw (← same x) (h.places x); to_read = h.to_read }

-- an entry of a chunk, and those after it
pub notes_next : {parents old mid new : List ℕ} {p place : ℕ} {all rest : List Entry} {e : Entry} → 0 < place → all ≡ e
    ∷ rest → NotesChunk parents old mid p place (record { role = role_of false 0 e; entry = e } ∷ []) → NotesChunk
    parents mid new p place (roled_from false 0 rest) → NotesChunk parents old new p place (roled_from false 0 all)
unfolding roled_from
notes_next {rest = rest} low is one more =
    rw is (notes_then low one (notes_alike (λ x. any_naming-roled x false false 0 1 rest) more))

pub notes_end : {parents ws : List ℕ} {p place : ℕ} {all : List Entry} → all ≡ [] →
    NotesChunk parents ws ws p place (roled_from false 0 all)
unfolding roled_from
notes_end {parents = parents} {ws = ws} {p = p} {place = place} is = rw is (grind (arith, and-false))

-- ---- chunks of a directory
-- of an inode with the parent p of which no place is noted, the entries to come have the first one of p
abbrev pub AreToCome : (parents ws : List ℕ) (p : ℕ) (all rest : List RoledEntry) → Type 0
AreToCome parents ws p all rest = (x : ℕ) → is_child_of parents p x ≡ true → part_in (slice_index ws x) ≡ 0 →
    name_in x all ≡ name_in x rest

-- of an inode with the parent p that some entries of p name, a place is noted, or one of those to
-- come names it
abbrev pub AreWaiting : (v : Layout) (b parents first ws : List ℕ) (p : ℕ) (all rest : List RoledEntry) → Type 0
AreWaiting v b parents first ws p all rest = (x : ℕ) → is_child_of parents p x ≡ true →
    list_any (is_naming_entry x) all ≡ true → (part_in (slice_index first x) ≡ 0) ⊎ PlaceIsNoted v b first x →
    PlaceIsNoted v b ws x ⊎ ((part_in (slice_index ws x) ≡ 0) × (list_any (is_naming_entry x) rest ≡ true))

-- a place that is right stays so where the word keeps it
noted_still : {v : Layout} {b old new : List ℕ} {x : ℕ} →
    part_in (slice_index new x) ≡ part_in (slice_index old x) → PlaceIsNoted v b old x → PlaceIsNoted v b new x
noted_still same h = record { part = h.part; place = same ∙ h.place; inside = h.inside; named = h.named }

kept_place : (m y : Bool) (a b place j : ℕ) → a ≡ suc j → b ≡ (if m && ((a == 0) && y) then place else a) → b ≡ a
kept_place m y a b place j some e = grind (arith, nat_tests)

unnoted : (m y : Bool) (a b place : ℕ) → place ≢ 0 → m ≡ true → b ≡ (if m && ((a == 0) && y) then place else a) →
    b ≡ 0 → (a ≡ 0) × (y ≡ false)
unnoted m y a b place some child e none = grind (arith, nat_tests)

-- an inode with the parent p of which no place is noted is named in no chunk of the current Run that
-- was given
abbrev pub AreUnnamed : Layout → (b parents ws : List ℕ) (p : ℕ) → RunCursor → Type 0
AreUnnamed v b parents ws p cursor = (x : ℕ) → is_child_of parents p x ≡ true → part_in (slice_index ws x) ≡ 0 →
    (i : ℕ) → i < cursor.next →
    list_any (is_naming_entry x) (entries_in_chunk v.order (piece (cursor.place + 512 * i) 512 b)) ≡ false

-- the next one of the chunks to come is noted
pub record NotesNext (v : Layout) (b parents old new : List ℕ) (p place at offset : ℕ) (bytes : List ℕ)
    (rest later : List Chunk) (before after : RunCursor) : Type 0 where
  pub sound : IsAcceptedLayout v
  pub last : at ≡ last_place after
  pub fits : CursorFits v after
  pub steps : StepsOn before after
  pub unnamed : AreUnnamed v b parents old p before
  pub number : place ≡ at / part_size v + 1
  pub inside : at + 512 ≤ v.size * v.fsize
  pub held : bytes ≡ piece at 512 b
  pub next : rest ≡ chunk_of v.order offset bytes ∷ later
  pub noted : NotesChunk parents old new p place (entries_in_chunk v.order bytes)

module _ {v : Layout} {b parents old new : List ℕ} {p place at offset : ℕ} {bytes : List ℕ} {rest later : List Chunk}
    {cursor cursor' : RunCursor}
    (k : NotesNext v b parents old new p place at offset bytes rest later cursor cursor') where
  named_here : (x : ℕ) → list_any (is_naming_entry x) (entries_in_chunk v.order bytes) ≡ true →
      name_in x (flat_map roled_chunk rest) ≡ name_in x (entries_in_chunk v.order bytes)
  named_here x e =
      ap (λ (cs : List Chunk). name_in x (flat_map roled_chunk cs)) k.next
      ∙ (name_in-among x (roled_chunk (chunk_of v.order offset bytes)) (flat_map roled_chunk later)
      (any_naming-roled x (offset == 0) false 0 0 (entries_of v.order bytes) ∙ e)
      ∙ name_in-roled x (offset == 0) false 0 0 (entries_of v.order bytes))

  -- the part of the image with the chunk: of an inode of which no place is noted it has the same name
  in_part : (x : ℕ) → is_child_of parents p x ≡ true → part_in (slice_index old x) ≡ 0 →
      list_any (is_naming_entry x) (entries_in_chunk v.order bytes) ≡ true →
      (name_in x (entries_in_part v b (at / part_size v)) ≡ name_in x (entries_in_chunk v.order bytes))
      × (list_any (is_naming_entry x) (entries_in_part v b (at / part_size v)) ≡ true)
  in_part x child none e = rw k.held (named_in_part v b x cursor'.place at k.sound k.inside k.fits.at_fragment
      (omega (arith, k.last)) (let whole = start.chunks in omega (arith, k.last, whole)) earlier (rw k.held at e))
    where
      start : BeginsPart v cursor'.place at
      start = begins_part v cursor'.place at k.sound k.fits.at_fragment (omega (arith, k.last))

      earlier : (i : ℕ) → cursor'.place + 512 * i < at →
          list_any (is_naming_entry x) (entries_in_chunk v.order (piece (cursor'.place + 512 * i) 512 b)) ≡ false
      earlier i before = elim k.steps [
        | inl first ↦ absurd (omega (arith, k.last, first, before))
        | inr on ↦
            ap (λ (n : ℕ). list_any (is_naming_entry x) (entries_in_chunk v.order (piece (n + 512 * i) 512 b))) on.0
            ∙ k.unnamed x child none i (omega (arith, k.last, on.1, before))
      ]

  unnamed_here : (x : ℕ) → list_any (is_naming_entry x) (entries_in_chunk v.order bytes) ≡ false →
      (name_in x (flat_map roled_chunk rest) ≡ name_in x (flat_map roled_chunk later))
      × (list_any (is_naming_entry x) (flat_map roled_chunk rest) ≡ list_any (is_naming_entry x) (flat_map roled_chunk later))
  unnamed_here x e = grind (arith, name_in-after, any_naming-roled, list_any-append)

  -- it has the first one of those whose place it is
  pub noted_chunk : (first : List ℕ) (all : List RoledEntry) → AreToCome parents old p all (flat_map roled_chunk rest) →
      NotesRight v b all first old → NotesRight v b all first new
  noted_chunk first all coming before x j h = one (is_found parents old p (entries_in_chunk v.order bytes) x) refl
    where
      one : (f : Bool) → is_found parents old p (entries_in_chunk v.order bytes) x ≡ f →
          (part_in (slice_index first x) ≡ suc j) ⊎ (name_in x (entries_in_part v b j) ≡ name_in x all)
      one true e =
          let outer = and_parts (is_child_of parents p x) _ e in
          let inner = and_parts (part_in (slice_index old x) == 0)
          (list_any (is_naming_entry x) (entries_in_chunk v.order bytes)) outer.1 in
          let none = eqb-true (part_in (slice_index old x)) 0 inner.0 in
          let there : place ≡ suc j = sym (rw e at (k.noted.places x)) ∙ h in
          let same : j ≡ at / part_size v = omega (arith, there, k.number) in
          inr (ap (λ (n : ℕ). name_in x (entries_in_part v b n)) same
          ∙ ((in_part x outer.0 none inner.1).0
          ∙ sym (coming x outer.0 none ∙ named_here x inner.1)))
      one false e = before x j (sym (rw e at (k.noted.places x)) ∙ h)

  -- an inode of which none is noted after it was not noted before, and the chunk doesn't name it
  still_none : (x : ℕ) → is_child_of parents p x ≡ true → part_in (slice_index new x) ≡ 0 →
      (part_in (slice_index old x) ≡ 0) × (list_any (is_naming_entry x) (entries_in_chunk v.order bytes) ≡ false)
  still_none x child none =
      unnoted (is_child_of parents p x) (list_any (is_naming_entry x) (entries_in_chunk v.order bytes)) _ _ place
      (λ z. absurd (omega (arith, z, k.number))) child (k.noted.places x) none

  -- those of which none is noted still have theirs to come
  pub coming_after : (all : List RoledEntry) → AreToCome parents old p all (flat_map roled_chunk rest) →
      AreToCome parents new p all (flat_map roled_chunk later)
  coming_after all coming x child none = grind (arith, still_none, unnamed_here)

  -- no chunk of the current Run that was given names an inode of which none is noted
  pub unnamed_after : AreUnnamed v b parents new p cursor'
  unnamed_after x child none i below = elim k.steps [
    | inl first ↦ here (omega (arith, k.last, first, below))
    | inr on ↦ elim (cases_eq i cursor.next) [
      | inl e ↦ here (omega (arith, k.last, on.1, e))
      | inr o ↦
          ap (λ (n : ℕ). list_any (is_naming_entry x) (entries_in_chunk v.order (piece (n + 512 * i) 512 b))) on.0
          ∙ k.unnamed x child was.0 i (omega (arith, on.1, o, below))
    ]
  ]
    where
      was : (part_in (slice_index old x) ≡ 0) × (list_any (is_naming_entry x) (entries_in_chunk v.order bytes) ≡ false)
      was = still_none x child none

      here : cursor'.place + 512 * i ≡ at →
          list_any (is_naming_entry x) (entries_in_chunk v.order (piece (cursor'.place + 512 * i) 512 b)) ≡ false
      here e =
          ap (λ (n : ℕ). list_any (is_naming_entry x) (entries_in_chunk v.order (piece n 512 b))) e
          ∙ (ap (λ (bs : List ℕ). list_any (is_naming_entry x) (entries_in_chunk v.order bs)) (sym k.held) ∙ was.1)

  pub waiting_after : (first : List ℕ) (all : List RoledEntry) → AreWaiting v b parents first old p all (flat_map
      roled_chunk rest) → AreWaiting v b parents first new p all (flat_map roled_chunk later)
  waiting_after first all waiting x child named before =
      elim (waiting x child named before) [
        | inl done ↦ inl (noted_still (kept_place (is_child_of parents p x)
            (list_any (is_naming_entry x) (entries_in_chunk v.order bytes)) _ _ place done.part done.place
            (k.noted.places x)) done)
        | inr w ↦ go w.0 w.1 (list_any (is_naming_entry x) (entries_in_chunk v.order bytes)) refl
      ]
    where
      placed : part_in (slice_index old x) ≡ 0 → (y : Bool) →
          list_any (is_naming_entry x) (entries_in_chunk v.order bytes) ≡ y →
          part_in (slice_index new x) ≡ (if y then place else 0)
      placed none y e = rw (k.noted.places x, child, eq-eqb (part_in (slice_index old x)) 0 none, e, none) refl

      go : part_in (slice_index old x) ≡ 0 → list_any (is_naming_entry x) (flat_map roled_chunk rest) ≡ true →
          (y : Bool) → list_any (is_naming_entry x) (entries_in_chunk v.order bytes) ≡ y →
          PlaceIsNoted v b new x ⊎ ((part_in (slice_index new x) ≡ 0)
          × (list_any (is_naming_entry x) (flat_map roled_chunk later) ≡ true))
      go none coming true e =
          inl (record {
            part = at / part_size v;
            place = placed none true e ∙ (k.number ∙ omega arith);
            inside = (lies_in_part v at k.sound k.inside).inside;
            named = (in_part x child none e).1;
          })
      go none coming false e = inr (placed none false e, sym (unnamed_here x e).1 ∙ coming)

-- where no chunk is left, all are noted
pub all_noted : (v : Layout) (b parents first ws : List ℕ) (p : ℕ) (all : List RoledEntry) (rest : List Chunk) →
    rest ≡ [] → AreWaiting v b parents first ws p all (flat_map roled_chunk rest) → (x : ℕ) →
    is_child_of parents p x ≡ true → list_any (is_naming_entry x) all ≡ true →
    (part_in (slice_index first x) ≡ 0) ⊎ PlaceIsNoted v b first x → PlaceIsNoted v b ws x
all_noted v b parents first ws p all rest none waiting x child named before = grind arith

-- what is noted of other inodes, and what is to be read
pub children_more : {parents first old new : List ℕ} {p place : ℕ} {es : List RoledEntry} →
    NotesChunk parents old new p place es → NotesChildren parents first old p → NotesChildren parents first new p
children_more noted before = grind arith

-- ---- directories
-- the parent of an inode other than the root is a directory
by_dir : (g : Graph) (x s : ℕ) (o : Option ℕ) → parent_by g x o ≡ Some s → g.is_dir s ≡ true
by_dir g x s None h = (edge-parts g s x (first_below-some (λ s. edge g s x) g.count s h).passes).1
by_dir g x s (Some zero) h = absurd (cc)
by_dir g x s (Some (suc k)) h = grind (arith, edge-parts, and_parts, first_below-some)

parent_dir : (g : Graph) (x s : ℕ) → (x == 2) ≡ false → parent g x ≡ Some s → g.is_dir s ≡ true
unfolding parent
parent_dir g x s other h = grind (arith, by_dir, cond-false)

-- places are right after the directory p is noted
pub places_after : {v : Layout} {b : List ℕ} {w : Workspace} {old new : List ℕ} {p : ℕ} → HoldsSurvey v b w →
    (is_dir (volume_of v b) p ≡ true → NotesRight v b (roled_entries (volume_of v b) p) old new) →
    NotesChildren w.parents.items old new p → AreParts v b old → AreParts v b new
places_after {v = v} {b = b} {w = w} {p = p} survey noted children right x q k there is =
    go (is_child_of w.parents.items p x) refl
  where
    go : (m : Bool) → is_child_of w.parents.items p x ≡ m →
        name_in x (entries_in_part v b k) ≡ name_in x (roled_entries (volume_of v b) q)
    go false e = right x q k (sym (children.others x e) ∙ there) is
    go true e =
        let parts = and_parts (slice_index w.parents.items x == p) (not (x == 2)) e in
        let up : q ≡ p = sym (survey.tree.parents x ∙ ap (λ (o : Option ℕ). unwrap_or o 0) is)
        ∙ eqb-true (slice_index w.parents.items x) p parts.0 in
        let dir = parent_dir (graph_of (volume_of v b)) x p (not-true (x == 2) parts.1) (is ∙ ap Some up) in
        elim (noted dir x k there) [
          | inl before ↦ right x q k before is
          | inr named ↦ named ∙ ap (λ (n : ℕ). name_in x (roled_entries (volume_of v b) n)) (sym up)
        ]

-- a directory was read: no place changes
pub places_same : (v : Layout) (b old new : List ℕ) →
    ((x : ℕ) → part_in (slice_index new x) ≡ part_in (slice_index old x)) → AreParts v b old → AreParts v b new
places_same v b old new same right x p k there is = right x p k (sym (same x) ∙ there) is

-- a word that is set changes nothing at another number, and nothing that it has in common with the
-- one before
pub set_other : {A : Type 0} (f : ℕ → A) (ws : List ℕ) (i word x : ℕ) → x ≢ i →
    f (slice_index (slice_set ws i word) x) ≡ f (slice_index ws x)
set_other f ws i word x o = ap f (get_or-set_other ws i x word 0 o)

pub set_same : {A : Type 0} (f : ℕ → A) (ws : List ℕ) (i word : ℕ) → i < length ws → f word ≡ f (slice_index ws i) →
    (x : ℕ) → f (slice_index (slice_set ws i word) x) ≡ f (slice_index ws x)
set_same f ws i word low same x = elim (cases_eq x i) [
  | inl e ↦ rw (e, get_or-set_same ws i word 0 low) same
  | inr o ↦ set_other f ws i word x o
]

-- what the survey found is held, with places that are right, and the claims are
pub survey_noted : {v : Layout} {b : List ℕ} {old new : Workspace} →
    new ≡ record old { windows = new.windows; words = new.words } → HoldsSurvey v b old →
    AreParts v b new.words.items → HoldsSurvey v b new
survey_noted e h right = grind arith

pub claims_noted : {v : Layout} {b : List ℕ} {old new : Workspace} →
    new ≡ record old { windows = new.windows; words = new.words } → HoldsBlockCheck v b old → HoldsBlockCheck v b new
claims_noted {v = v} {b = b} {old = old} e h = grind (arith, counts_same)

-- what was read, where the directory of the next word isn't to be read any more
pub read_next : (old new : List ℕ) (i word : ℕ) → i < length old → is_to_be_read word ≡ false →
    KeepsToRead (slice_set old i word) new → ((x : ℕ) → x < i → is_to_be_read (slice_index old x) ≡ false) → (x : ℕ) →
    x < i + 1 → is_to_be_read (slice_index new x) ≡ false
read_next old new i word low was_read keeps before x l = keeps x ∙ elim (cases_eq x i) [
  | inl e ↦ rw (e, get_or-set_same old i word 0 low) was_read
  | inr o ↦ set_other is_to_be_read old i word x o ∙ before x (omega arith)
]

-- ---- directories that are reached
-- a directory with a level above 0 isn't the root
not_root : (g : Graph) (x k : ℕ) → level g x ≡ Some (suc k) → (x == 2) ≡ false
not_root g x k h = sym (within-zero g x) ∙ (level-some g (suc k) x h).0.least 0 (omega arith)

-- a place is noted of each directory that is reached and isn't the root, or its parent is to be read
abbrev pub AreComing : Layout → List ℕ → (words : List ℕ) → Type 0
AreComing v b words = (x p k : ℕ) → level (graph_of (volume_of v b)) x ≡ Some (suc k) →
    IsAbove (graph_of (volume_of v b)) k x p →
    PlaceIsNoted v b words x ⊎ ((part_in (slice_index words x) ≡ 0) × (is_to_be_read (slice_index words p) ≡ true))

-- the number of a directory
dir_number : (v : Layout) (b : List ℕ) (x : ℕ) → is_dir (volume_of v b) x ≡ true → (2 ≤ x) × (x < inodes_of v)
unfolding volume_of volume_with
dir_number v b x h = grind (arith, and_parts, leb-true, ltb-true)

pub coming_first : {v : Layout} {b : List ℕ} {w : Workspace} {words : Vec ℕ Global} → length w.reached.items ≡ inodes_of v →
    BeginsNotes w.reached.items w.parents.items words → HoldsSurvey v b w → AreComing v b words.items
coming_first {v = v} {b = b} {w = w} {words = words} long begins survey x p k there under =
    grind (arith, not_root, dir_number, edge-parts)

-- after the directory d, which was to be read, is noted
pub coming_noted : {v : Layout} {b : List ℕ} {w : Workspace} {mid new : List ℕ} {d : ℕ} (old : List ℕ) → HoldsSurvey v b
    w → ((x : ℕ) → part_in (slice_index mid x) ≡ part_in (slice_index old x)) → ((x : ℕ) → x ≢ d
    → is_to_be_read (slice_index mid x) ≡ is_to_be_read (slice_index old x)) → (is_dir (volume_of v b) d ≡ true
    → NotesEach v b (is_child_of w.parents.items d) (roled_entries (volume_of v b) d) mid new) → NotesChildren w.parents.items mid new d →
    AreComing v b old → AreComing v b new
coming_noted {v = v} {b = b} {w = w} {mid = mid} {new = new} {d = d} old survey same others noted children coming
    x p k there under = go (cases_eq p d)
  where
    up : slice_index w.parents.items x ≡ p
    up = survey.tree.parents x ∙ ap (λ (o : Option ℕ). unwrap_or o 0) under.is

    before : PlaceIsNoted v b mid x ⊎ ((part_in (slice_index mid x) ≡ 0) × (is_to_be_read (slice_index old p) ≡ true))
    before = elim (coming x p k there under) [ inl is ↦ inl (noted_still (same x) is) | inr w ↦ inr (same x ∙ w.0, w.1) ]

    go : (p ≡ d) ⊎ (p ≢ d) →
        PlaceIsNoted v b new x ⊎ ((part_in (slice_index new x) ≡ 0) × (is_to_be_read (slice_index new p) ≡ true))
    go (inl e) =
        let link = and_parts (is_dir (volume_of v b) p) (list_any (is_naming_entry x) (roled_entries (volume_of v b) p))
        (and_parts (is_dir (volume_of v b) x) (is_naming_dir (graph_of (volume_of v b)) p x) under.linked).1 in
        let child : is_child_of w.parents.items d x ≡ true =
        and_from (slice_index w.parents.items x == d) (not (x == 2)) (eq-eqb (slice_index w.parents.items x) d (up ∙ e))
        (not_from_false (x == 2) (not_root (graph_of (volume_of v b)) x k there)) in
        inl (noted (rw e at link.0) x child (rw e at link.1)
        (elim before [ inl is ↦ inr is | inr w ↦ inl w.0 ]))
    go (inr o) =
        let child : is_child_of w.parents.items d x ≡ false =
        ap (λ (m : Bool). m && not (x == 2)) (ne_eqb (slice_index w.parents.items x) d (λ e. o (sym up ∙ e))) in
        elim before [
          | inl is ↦ inl (noted_still (children.others x child) is)
          | inr w ↦ inr (children.others x child ∙ w.0, children.to_read p ∙ (others p o ∙ w.1))
        ]

-- where nothing is to be read any more, all are noted
pub coming_end : (v : Layout) (b words : List ℕ) → ((x : ℕ) → x < inodes_of v → is_to_be_read (slice_index words x) ≡ false) →
    AreComing v b words → PlacesAreNoted v b words
coming_end v b words none coming x k h =
    let above = parent_above (graph_of (volume_of v b)) k x h in
    elim (coming x above.0 k h above.1) [
      | inl is ↦ is
      | inr w ↦
          let dir = (edge-parts (graph_of (volume_of v b)) above.0 x above.1.linked).1 in
          absurd (both_ways (is_to_be_read (slice_index words above.0)) (none above.0 (dir_number v b above.0 dir).1) w.1)
    ]

-- ---- what is to be read
-- only parents of reached inodes are to be read: one more of them is, and one isn't any more
abbrev pub OnlyParents : (reached : List Bool) (parents ws : List ℕ) → Type 0
OnlyParents reached parents ws = (p : ℕ) → is_to_be_read (slice_index ws p) ≡ true → IsParent reached parents p

pub only_more : (reached : List Bool) (parents ws : List ℕ) (child i word : ℕ) → 2 < child →
    bool_at reached child ≡ true → slice_index parents child ≡ i → 2 ≤ i → OnlyParents reached parents ws →
    OnlyParents reached parents (slice_set ws i word)
only_more reached parents ws child i word above is_reached up low only p h = elim (cases_eq p i) [
  | inl e ↦ record {
    child = child;
    after_root = above;
    is_reached = is_reached;
    parent_is = up ∙ sym e;
    from_root = rw e low;
  }
  | inr o ↦ only p (sym (set_other is_to_be_read ws i word p o) ∙ h)
]

pub only_fewer : (reached : List Bool) (parents old new : List ℕ) (i word : ℕ) → i < length old →
    is_to_be_read word ≡ false → KeepsToRead (slice_set old i word) new → OnlyParents reached parents old →
    OnlyParents reached parents new
only_fewer reached parents old new i word low was_read keeps only p h = elim (cases_eq p i) [
  | inl e ↦ absurd (both_ways (is_to_be_read word) was_read
      (sym (ap is_to_be_read (get_or-set_same old i word 0 low)) ∙ (sym (keeps i) ∙ (rw e at h))))
  | inr o ↦ only p (sym (set_other is_to_be_read old i word p o) ∙ (sym (keeps p) ∙ h))
]

-- a parent that the survey found is a directory
pub parent_is_dir : {v : Layout} {b : List ℕ} {w : Workspace} {p : ℕ} → HoldsSurvey v b w →
    IsParent w.reached.items w.parents.items p → is_dir (volume_of v b) p ≡ true
parent_is_dir {v = v} {b = b} {p = p} survey under =
    go (parent (graph_of (volume_of v b)) under.child) refl
  where
    found : (o : Option ℕ) → parent (graph_of (volume_of v b)) under.child ≡ o → unwrap_or o 0 ≡ p
    found o e = ap (λ (o : Option ℕ). unwrap_or o 0) (sym e) ∙ (sym (survey.tree.parents under.child) ∙ under.parent_is)

    other : (under.child == 2) ≡ false
    other = let above = under.after_root in grind (arith, nat_tests)

    go : (o : Option ℕ) → parent (graph_of (volume_of v b)) under.child ≡ o → is_dir (volume_of v b) p ≡ true
    go None e = let none : 0 ≡ p = found None e in let low = under.from_root in absurd (omega arith)
    go (Some s) e = parent_dir (graph_of (volume_of v b)) under.child p other (e ∙ ap Some (found (Some s) e))
