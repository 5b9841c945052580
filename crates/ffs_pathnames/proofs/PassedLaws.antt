-- What is reported by the names that were passed is what the pathname check reports.
use Rattle.std.proofs.Common.{◌≡◌, ◌≢◌, ℕ, suc, ◌<◌, ◌≤◌, ◌==◌, Bool, true, false, not, ◌&&◌, ◌||◌, nat_lt}
use Rattle.std.proofs.Common.{if◌then◌else◌, refl, List, [], ◌∷◌, ◌++◌, Option, None, Some, arith, sym, ◌∙◌, ap}
use Rattle.std.proofs.{Common.{append_assoc, ltb-true, zero, option_map}, lemmas.List.get_or-set_other}
use Rattle.std.proofs.lemmas.{List.get_or-set_same, Grind.common_steps, Bool.{Decides.nat_tests, and_parts}}
use Rattle.std.{proofs.Math.ListN.length-set, specs.List.list_any}
use Rattle.ffs_volume.{proofs.RoleLaws.plain-true, specs.{declared.Role.TheVariants.Plain, Directories.Climb.is_value}}
use Rattle.ffs_volume.specs.Directories.PathnameCheck.{plain_verdict, entry_lines, lines_of_entries}
use Rattle.ffs_volume.specs.Directories.PathnameCheck.{is_first_of_suspect, is_extraneous, defects_on}
use Rattle.ffs_volume.specs.Directories.Roles.{Volume, RoledEntry, is_dir, is_plain, roled_entries}
use Rattle.ffs_volume.specs.Directories.{Graph.{is_naming_entry, is_naming_dir, parent, first_index}, Naming.graph_of}
use Rattle.ffs_volume.specs.{Directories.Naming.{is_first_naming_entry, is_parent_entry}, Disk.Search.some_below}
use Rattle.ffs_volume.{specs.Disk.Search.first_below, proofs.SearchLaws.first_below-tells}
use Rattle.ffs_pathnames.specs.PassedNames.{PassedNames, is_flagged, is_flagged_calm, is_stamped, after_name, after_roled}
use Rattle.ffs_pathnames.specs.PassedNames.{verdict_at_reading, roled_reported, entries_reported}
use Rattle.ffs_pathnames.specs.PassedRight.{RemembersWithin}

-- ---- the place of an entry
-- how many entries there are
unfoldable pub size_of : List RoledEntry → ℕ
size_of [] = zero
size_of (e ∷ es) = suc (size_of es)

pub size_more : (done : List RoledEntry) (e : RoledEntry) → size_of (done ++ e ∷ []) ≡ suc (size_of done)
unfolding size_of
size_more [] e = refl
size_more (d ∷ ds) e = ap suc (size_more ds e)

value_suc : (o : Option ℕ) (k : ℕ) → is_value (option_map suc o) (suc k) ≡ is_value o k
value_suc None k = refl
value_suc (Some j) k = grind (arith, nat_tests)

-- an entry that passes is at its first place exactly where none before it passes
pub first_here : (p : RoledEntry → Bool) (done : List RoledEntry) (e : RoledEntry) (es : List RoledEntry) → p e ≡ true →
    is_value (first_index p (done ++ e ∷ es)) (size_of done) ≡ not (list_any p done)
unfolding size_of
first_here p [] e es h = rw h refl
first_here p (d ∷ ds) e es h =
    let more = first_here p ds e es h in
    let v = value_suc (first_index p (ds ++ e ∷ es)) (size_of ds) in
    grind (arith, nat_tests)

-- ---- one entry
-- the directory s is the first with a plain entry that names x exactly where none before it has one
first_in : (p : ℕ → Bool) (n s : ℕ) → s < n → p s ≡ true → is_value (first_below p n) s ≡ not (some_below p s)
first_in p n s h e = grind (arith, first_below-tells, nat_tests)

pub record IsDirectory (vol : Volume) (s : ℕ) : Type 0 where
  pub dir : is_dir vol s ≡ true
  pub below : s < vol.count
  pub from_two : 2 ≤ s

-- an entry of s: `done` are before it, `es` after it
pub record IsEntry (vol : Volume) (s : ℕ) (done : List RoledEntry) (e : RoledEntry) (es : List RoledEntry) : Type 0 where
  pub dir : IsDirectory vol s
  pub whole : roled_entries vol s ≡ done ++ e ∷ es

names_it : (e : RoledEntry) → e.role ≡ Plain → is_naming_entry e.entry.number e ≡ true
names_it e p = grind (arith, common_steps)

module _ {vol : Volume} {s : ℕ} {done es : List RoledEntry} {e : RoledEntry} (i : IsEntry vol s done e es)
    (p : e.role ≡ Plain) where
  names_in_it : is_naming_dir (graph_of vol) s e.entry.number ≡ true
  names_in_it = let n = names_it e p in grind (arith, common_steps, i.whole, i.dir.dir)

  place_is : is_value (first_index (is_naming_entry e.entry.number) (roled_entries vol s)) (size_of done)
      ≡ not (list_any (is_naming_entry e.entry.number) done)
  place_is = rw i.whole (first_here (is_naming_entry e.entry.number) done e es (names_it e p))

  pub first_name_is : is_first_naming_entry (graph_of vol) s (size_of done) e.entry.number
      ≡ not (some_below (λ t. is_naming_dir (graph_of vol) t e.entry.number) s
      || list_any (is_naming_entry e.entry.number) done)
  first_name_is = grind (arith, common_steps, first_in, place_is, names_in_it)

  pub from_parent_is : is_parent_entry (graph_of vol) s (size_of done) e.entry.number
      ≡ ((not (e.entry.number == 2) && is_value (parent (graph_of vol) e.entry.number) s)
      && not (list_any (is_naming_entry e.entry.number) done))
  from_parent_is = let place = place_is in grind (arith, common_steps)

  module _ {m : PassedNames} (r : RemembersWithin vol s done m) where
    suspect_same : e.entry.number < vol.count → e.entry.number ≢ 1 →
        is_first_of_suspect vol (is_first_naming_entry (graph_of vol) s (size_of done) e.entry.number) e.entry.number
        ≡ is_first_of_suspect vol (not (is_flagged m e.entry.number)) e.entry.number
    suspect_same h other = grind (arith, common_steps, first_name_is)

    extraneous_same : e.entry.number < vol.count →
        is_extraneous vol (is_parent_entry (graph_of vol) s (size_of done) e.entry.number) e.entry.number
        ≡ is_extraneous vol (is_stamped s m e.entry.number) e.entry.number
    extraneous_same h = grind (arith, common_steps, from_parent_is)

    named_same : e.entry.number < vol.count → e.entry.number ≢ 1 →
        defects_on vol (is_first_naming_entry (graph_of vol) s (size_of done) e.entry.number)
        (is_parent_entry (graph_of vol) s (size_of done) e.entry.number) e.entry
        ≡ defects_on vol (not (is_flagged m e.entry.number)) (is_stamped s m e.entry.number) e.entry
    named_same h other = rw (suspect_same h other, extraneous_same h) refl

    plain_same : plain_verdict vol s (size_of done) e.entry ≡ verdict_at_reading vol s m e.entry
    unfolding plain_verdict
    plain_same = let named = named_same in grind (arith, common_steps)

seen_same : {vol : Volume} {s : ℕ} {done es : List RoledEntry} {e : RoledEntry} {m : PassedNames} →
    IsEntry vol s done e es → RemembersWithin vol s done m → entry_lines vol s (size_of done) e ≡ roled_reported vol s m e
unfolding entry_lines roled_reported
seen_same i r = grind (arith, plain_same)

-- ---- after one entry more
pub any_more : (p : RoledEntry → Bool) (done : List RoledEntry) (e : RoledEntry) →
    list_any p (done ++ e ∷ []) ≡ (list_any p done || p e)
any_more p done e = grind (arith, common_steps)

skips : {vol : Volume} {s : ℕ} {done : List RoledEntry} {m : PassedNames} (e : RoledEntry) →
    (is_plain e.role && nat_lt e.entry.number vol.count) ≡ false → RemembersWithin vol s done m → RemembersWithin vol s (done ++ e ∷ []) m
skips e t r = grind (arith, nat_tests, any_more)

-- the flags of inodes that aren't suspect stay
pub calm_roled : (vol : Volume) (s : ℕ) (e : RoledEntry) (x : ℕ) (m : PassedNames) →
    is_flagged_calm vol (after_roled vol s m e) x ≡ is_flagged_calm vol m x
calm_roled vol s e x m = grind (arith, nat_tests, get_or-set_other)

passes : {vol : Volume} {s : ℕ} {done : List RoledEntry} {m : PassedNames} (e : RoledEntry) → 2 ≤ s → e.role ≡ Plain →
    e.entry.number < vol.count → RemembersWithin vol s done m → RemembersWithin vol s (done ++ e ∷ []) (after_name vol s m e.entry.number)
passes {done = done} e two p low r = record {
  named = λ x h q u n.
      let a = r.named x h q u n in
      let b = any_more (is_naming_entry x) done e in
      grind (arith, nat_tests, get_or-set_other, get_or-set_same);
  due = λ x h.
      let a = r.due x h in
      let b = any_more (is_naming_entry x) done e in
      grind (arith, nat_tests, get_or-set_other, get_or-set_same);
  flags_length = grind (arith, nat_tests, length-set);
  stamps_length = grind (arith, nat_tests, length-set);
}

pub right_after : {vol : Volume} {s : ℕ} {done : List RoledEntry} {m : PassedNames} (e : RoledEntry) → 2 ≤ s →
    RemembersWithin vol s done m → RemembersWithin vol s (done ++ e ∷ []) (after_roled vol s m e)
right_after {vol = vol} {s = s} {done = done} {m = m} e two r = one (is_plain e.role && nat_lt e.entry.number vol.count) refl
  where
    one : (b : Bool) → (is_plain e.role && nat_lt e.entry.number vol.count) ≡ b →
        RemembersWithin vol s (done ++ e ∷ []) (if b then after_name vol s m e.entry.number else m)
    one false t = skips e t r
    one true t =
        let q = and_parts (is_plain e.role) _ t in
        passes e two (plain-true e.role q.0) (ltb-true e.entry.number vol.count q.1) r

-- ---- all entries
pub right_reported : {vol : Volume} {s : ℕ} (done es : List RoledEntry) (m : PassedNames) → IsDirectory vol s →
    roled_entries vol s ≡ done ++ es → RemembersWithin vol s done m →
    lines_of_entries vol s (size_of done) es ≡ entries_reported vol s m es
unfolding lines_of_entries
right_reported done [] m d whole r = refl
right_reported {vol = vol} {s = s} done (e ∷ es) m d whole r =
    let i : IsEntry vol s done e es = record { dir = d; whole = whole } in
    let rest = right_reported (done ++ e ∷ []) es (after_roled vol s m e) d
    (whole ∙ sym (append_assoc done (e ∷ []) es)) (right_after e d.from_two r) in
    rw (seen_same i r, ← size_more done e, rest)
