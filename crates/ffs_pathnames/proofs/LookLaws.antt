-- What a first look at the entries of a directory finds.
use Rattle.std.proofs.Common.{◌≡◌, ◌≢◌, ℕ, ◌<◌, ◌==◌, Bool, true, false, not, ◌&&◌, ◌||◌, refl, List, [], ◌∷◌, ◌++◌}
use Rattle.std.proofs.Common.{length, slice_index, sym, ◌∙◌, subst, append_assoc, append-nil, arith, ltb-true, ne_eqb}
use Rattle.std.proofs.{Common.{eqb-true, inl, inr}, lemmas.{List.get_or-set_other, List.get_or-set_same}}
use Rattle.std.proofs.{lemmas.Bool.{Decides.nat_tests, and_parts, cases_Bool, eqb-false, or_cases}, Math.ListN.length-set}
use Rattle.std.specs.List.{list_any, slice_index_or}
use Rattle.ffs_volume.specs.{declared.Role.{Role, TheVariants.{Extra, Plain}}, Disk.Search.some_below}
use Rattle.ffs_volume.specs.Directories.{Entries.Entry, PathnameCheck.{entry_lines, is_silent, lines_of_entries}}
use Rattle.ffs_volume.specs.Directories.PathnameCheck.{plain_verdict, verdict_on}
use Rattle.ffs_volume.specs.Directories.{PathnameCheck.{is_role_silent, role_lines}, Climb.is_value, Naming.graph_of}
use Rattle.ffs_volume.specs.Directories.Graph.{is_naming_entry, is_naming_dir, parent}
use Rattle.ffs_volume.specs.Directories.Roles.{Volume, RoledEntry, is_dir, is_plain, is_suspect, roled_entries}
use Rattle.ffs_volume.proofs.{RoleLaws.plain-true, VerdictLaws.{silent_lines, silent_parts, silent_of}}
use Rattle.ffs_pathnames.specs.PassedNames.{belongs, after_look, after_looks, verdict_at_look, is_quiet, are_quiet}
use Rattle.ffs_pathnames.proofs.PassedLaws.{IsDirectory, IsEntry, size_of, size_more, first_name_is, from_parent_is}
use Rattle.ffs_pathnames.proofs.PassedLaws.{any_more}

-- the inodes that belong to s and are named by the entries of `done` are stamped
abbrev pub AreStamped : Volume → ℕ → List RoledEntry → List ℕ → Type 0
AreStamped v s done stamps = (x : ℕ) → x < v.count →
    (slice_index stamps x == s) ≡ (belongs v s x && list_any (is_naming_entry x) done)

stamped_after : (vol : Volume) (s : ℕ) (done : List RoledEntry) (e : RoledEntry) (stamps : List ℕ) →
    length stamps ≡ vol.count → AreStamped vol s done stamps →
    AreStamped vol s (done ++ e ∷ []) (after_look vol s stamps e)
stamped_after vol s done e stamps long r x h = grind (arith, any_more, nat_tests, get_or-set_other, get_or-set_same)

looks_long : (vol : Volume) (s : ℕ) (stamps : List ℕ) (e : RoledEntry) → length (after_look vol s stamps e) ≡ length stamps
looks_long vol s stamps e = grind (arith, nat_tests, length-set)

pub stamped_all : (vol : Volume) (s : ℕ) (done es : List RoledEntry) (stamps : List ℕ) → length stamps ≡ vol.count →
    AreStamped vol s done stamps → AreStamped vol s (done ++ es) (after_looks vol s stamps es)
stamped_all vol s done [] stamps long r = subst (λ l. AreStamped vol s l stamps) (sym (append-nil done)) r
stamped_all vol s done (e ∷ es) stamps long r =
    rw (← append_assoc done (e ∷ []) es)
    (stamped_all vol s (done ++ e ∷ []) es (after_look vol s stamps e) (looks_long vol s stamps e ∙ long)
    (stamped_after vol s done e stamps long r))

pub looks_all_long : (vol : Volume) (s : ℕ) (es : List RoledEntry) (stamps : List ℕ) → length (after_looks vol s stamps es)
    ≡ length stamps
looks_all_long vol s [] stamps = refl
looks_all_long vol s (e ∷ es) stamps = looks_all_long vol s es (after_look vol s stamps e) ∙ looks_long vol s stamps e

-- ---- quiet entries
-- the suspects that are named before s are flagged
abbrev pub AreFlagged : Volume → ℕ → List Bool → Type 0
AreFlagged v s flags = (x : ℕ) → x < v.count → is_suspect v x ≡ true → x ≢ 1 → x ≢ 2 →
    slice_index_or flags x false ≡ some_below (λ t. is_naming_dir (graph_of v) t x) s

-- a suspect that was named before isn't named first here
first_quiet : (suspect root first flagged below any : Bool) → (suspect && (not root && not flagged)) ≡ false →
    first ≡ not (below || any) → (suspect ≡ true → root ≡ false → flagged ≡ below) →
    (suspect && (not root && first)) ≡ false
first_quiet suspect root first flagged below any h f same = grind (arith, nat_tests)

-- the first entry in its parent that names a directory is the parent entry
own_quiet : (dir root value mine stamped any own : Bool) → (dir && not (mine && not stamped)) ≡ false →
    mine ≡ (dir && (not root && value)) → stamped ≡ (mine && any) → own ≡ ((not root && value) && not any) →
    (dir && not own) ≡ false
own_quiet dir root value mine stamped any own h m t o = grind (arith, nat_tests)

module _ {vol : Volume} {s : ℕ} {done es : List RoledEntry} {e : RoledEntry} (flags : List Bool) (stamps : List ℕ)
    (i : IsEntry vol s done e es) (flagged : AreFlagged vol s flags) (stamped : AreStamped vol s done stamps) where
  plain_quiet : e.role ≡ Plain →
      is_silent (verdict_at_look vol s (record { flags = flags; stamps = stamps }) e.entry) ≡ true →
      is_silent (plain_verdict vol s (size_of done) e.entry) ≡ true
  unfolding plain_verdict
  plain_quiet p h =
      let x = e.entry.number in
      let q = silent_parts vol _ _ e.entry h in
      let below : x < vol.count = ltb-true x vol.count q.below in
      silent_of vol _ _ e.entry (record {
        below = q.below;
        no_whiteout = q.no_whiteout;
        named = λ n.
            let k = q.named n in
            record {
              allocated = k.allocated;
              suspect = first_quiet (is_suspect vol x) (x == 2) _ (slice_index_or flags x false)
                  (some_below (λ t. is_naming_dir (graph_of vol) t x) s) (list_any (is_naming_entry x) done) k.suspect
                  (first_name_is i p) (λ t r. flagged x below t (eqb-false x 1 n) (eqb-false x 2 r));
              link = own_quiet (is_dir vol x) (x == 2) (is_value (parent (graph_of vol) x) s) (belongs vol s x)
                  (slice_index stamps x == s) (list_any (is_naming_entry x) done) _ k.link refl (stamped x below)
                  (from_parent_is i p);
              right_type = k.right_type;
            };
      })

  entry_quiet : is_quiet vol s flags stamps e ≡ true → entry_lines vol s (size_of done) e ≡ []
  unfolding entry_lines is_quiet
  entry_quiet h = one e.role refl h
    where
      one : (role : Role) → e.role ≡ role →
          is_role_silent role (verdict_at_look vol s (record { flags = flags; stamps = stamps }) e.entry) ≡ true →
          role_lines vol s role e.entry (plain_verdict vol s (size_of done) e.entry) ≡ []
      one Plain p k = silent_lines (plain_verdict vol s (size_of done) e.entry) e.entry.number _ _ _ (plain_quiet p k)
      one Extra p k = absurd (cc)
      one role p k = refl

-- where all entries are quiet, nothing is reported of them
pub quiet_silent : {vol : Volume} {s : ℕ} (done es : List RoledEntry) (flags : List Bool) (stamps : List ℕ) →
    IsDirectory vol s → roled_entries vol s ≡ done ++ es → length stamps ≡ vol.count → AreFlagged vol s flags →
    AreStamped vol s done stamps → are_quiet vol s flags stamps es ≡ true → lines_of_entries vol s (size_of done) es ≡ []
unfolding lines_of_entries
quiet_silent done [] flags stamps d whole long f r h = refl
quiet_silent {vol = vol} {s = s} done (e ∷ es) flags stamps d whole long f r h =
    let i : IsEntry vol s done e es = record { dir = d; whole = whole } in
    let h2 = and_parts (is_quiet vol s flags stamps e) _ h in
    let rest = quiet_silent (done ++ e ∷ []) es flags (after_look vol s stamps e) d
    (whole ∙ sym (append_assoc done (e ∷ []) es)) (looks_long vol s stamps e ∙ long) f
    (stamped_after vol s done e stamps long r) h2.1 in
    rw (entry_quiet flags stamps i f r h2.0, ← size_more done e, rest) refl

-- where nothing is reported of an entry, though it isn't the parent entry, it names no directory: so none is stamped
pub silent_unstamped : (vol : Volume) (s : ℕ) (first : Bool) (stamps : List ℕ) (e : Entry) →
    is_silent (verdict_on vol first false e) ≡ true →
    after_look vol s stamps (record { role = Plain; entry = e }) ≡ stamps
silent_unstamped vol s first stamps e h =
    let named = (silent_parts vol first false e h).named in
    elim (cases_Bool (e.number == 1)) [
      | inl e1 ↦ grind (arith, eqb-true)
      | inr e1 ↦ let link = (named e1).link in grind arith
    ]

-- and the suspects that they name are flagged
suspect_flagged : (vol : Volume) (s : ℕ) (flags : List Bool) (stamps : List ℕ) (e : RoledEntry) (x : ℕ) →
    is_quiet vol s flags stamps e ≡ true → is_suspect vol x ≡ true → x ≢ 1 → x ≢ 2 → is_naming_entry x e ≡ true →
    slice_index_or flags x false ≡ true
unfolding is_quiet
suspect_flagged vol s flags stamps e x h q n two named =
    let p = and_parts (is_plain e.role) (e.entry.number == x) named in
    let same : e.entry.number ≡ x = eqb-true e.entry.number x p.1 in
    let plain = plain-true e.role p.0 in
    let k = silent_parts vol _ _ e.entry (rw plain at h) in
    let named = k.named (rw same (ne_eqb x 1 n)) in
    flagged (slice_index_or flags x false) (rw (same, q, ne_eqb x 2 two) at named.suspect)
  where
    flagged : (b : Bool) → (true && (not false && not b)) ≡ false → b ≡ true
    flagged true h = refl
    flagged false h = absurd (cc)

pub suspects_flagged : (vol : Volume) (s : ℕ) (flags : List Bool) (es : List RoledEntry) (stamps : List ℕ) (x : ℕ) →
    are_quiet vol s flags stamps es ≡ true → is_suspect vol x ≡ true → x ≢ 1 → x ≢ 2 →
    list_any (is_naming_entry x) es ≡ true → slice_index_or flags x false ≡ true
suspects_flagged vol s flags [] stamps x h q n two named = absurd (cc)
suspects_flagged vol s flags (e ∷ es) stamps x h q n two named =
    let h2 = and_parts (is_quiet vol s flags stamps e) _ h in
    let here = suspect_flagged vol s flags stamps e x h2.0 q n two in
    let rest = suspects_flagged vol s flags es (after_look vol s stamps e) x h2.1 q n two in
    elim (or_cases (is_naming_entry x e) _ named) [ inl a ↦ here a | inr a ↦ rest a ]
