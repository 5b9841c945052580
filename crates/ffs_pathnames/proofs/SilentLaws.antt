-- Nothing is reported of a directory that the survey found calm.
use Rattle.std.proofs.Common.{◌≡◌, ◌≢◌, ℕ, suc, ◌<◌, ◌≤◌, ◌*◌, ◌/◌, ◌==◌, Bool, true, false, not, ◌&&◌, ◌||◌, nat_le}
use Rattle.std.proofs.Common.{nat_lt, if◌then◌else◌, refl, List, [], ◌∷◌, ◌++◌, map, length, slice_index, slice_set}
use Rattle.std.proofs.Common.{Option, None, Some, option_and_then, unwrap_or, arith, ◌∙◌, ap, subst, eqb-true, eq-eqb}
use Rattle.std.proofs.{Common.leb-true, lemmas.{List.get_or-set_other, Bool.{Decides.nat_tests, or_cases, or_left}}}
use Rattle.std.{proofs.lemmas.Bool.{or_right, false_from_ne_true, both_ways, and_parts, and_from}, specs.List.list_any}
use Rattle.std.specs.List.{flat_map, find}
use Rattle.ffs_volume.specs.declared.{Layout.Layout, Order.Order, Step.{Step, TheVariants.Run}, Role.Role}
use Rattle.ffs_volume.specs.{declared.Role.TheVariants.{Extra, Plain}, Laws.Geometry.IsAcceptedLayout}
use Rattle.ffs_volume.specs.{Disk.Areas.is_run_in_range, Blocks.{Steps.steps_of, Inodes.{is_allocated, is_unknown}}}
use Rattle.ffs_volume.specs.{Blocks.Inodes.inode_of, Directories.{Graph.{is_naming_entry, parent}, Naming.graph_of}}
use Rattle.ffs_volume.specs.Directories.Entries.{Entry, Chunk, ChunkSource, chunk_of, chunks_of, run_chunks}
use Rattle.ffs_volume.specs.Directories.Entries.{step_chunks, entries_of, is_sound, is_live, bytes_read}
use Rattle.ffs_volume.specs.Directories.{Volumes.{volume_of, volume_with}, PathnameCheck.is_bad_whiteout}
use Rattle.ffs_volume.specs.Directories.PathnameCheck.{dir_header_lines, dot_defects, dotdot_defects, header_defects}
use Rattle.ffs_volume.specs.Directories.PathnameCheck.{header_of, is_header_silent, is_dot_silent, is_role_silent}
use Rattle.ffs_volume.specs.Directories.PathnameCheck.{is_silent, is_short, has_partial_chunk, are_sound}
use Rattle.ffs_volume.{specs.declared.verdict.DotDefects.DotDefects, proofs.VerdictLaws.{header_silent, silent_of}}
use Rattle.ffs_volume.specs.Directories.Roles.{nth_entry, start_entry, Volume, RoledEntry, is_dir, is_suspect, is_plain}
use Rattle.ffs_volume.specs.Directories.Roles.{is_two_dots, role_of, roled_from, roled_chunk, roled_entries}
use Rattle.ffs_volume.specs.Encodings.Kinds.{is_empty_dir_kind, is_allocated_kind, is_unknown_kind, type_of_kind}
use Rattle.ffs_volume.specs.Encodings.{Kinds.is_dir_at, Replay.{cut_at, fresh_replay, replayed_steps}}
use Rattle.ffs_volume.specs.Costs.Calm.{is_right_size, is_right_shape, are_calm, CurrentDir, is_calm_kind}
use Rattle.ffs_volume.specs.Costs.Calm.{is_calm_plain, is_calm_role, is_calm_entry, reached_after}
use Rattle.ffs_names.{specs.{RunCursors.reading_by, Surveys.FlagsOnlyCalm}, proofs.DirLaws.kind_dirs}
use Rattle.ffs_workspace.specs.{declared.workspace.Workspace.Workspace, Lengths.IsFor, Holds.{bool_at, HoldsBlockCheck}}
use Rattle.ffs_workspace.{specs.Holds.HoldsSurvey, proofs.KindLaws.{reports_at, suspect_is, type_is}}
use Rattle.ffs_survey.{specs.{Survey.number_at, Calm.{dir_by, IsCalm}}, proofs.CalmLaws.{calm_names_new, calm_new}}
use Rattle.ffs_pathnames.{specs.Silent.IsSilentDirectory, proofs.SeesLaws.{chunks_are, chunks_read, settled}}
use Rattle.ffs_pathnames.specs.PassedNames.{after_look, are_quiet, belongs, verdict_at_look, is_quiet}
use Rattle.ffs_names.proofs.DirLaws as dirs

-- ---- what the lists show
record Shown (vol : Volume) (kinds : List ℕ) (marked : List Bool) (parents : List ℕ) : Type 0 where
  count : vol.count ≡ length kinds
  dirs : (x : ℕ) → is_dir_at kinds x ≡ is_dir vol x
  allocated : (x : ℕ) → is_allocated (vol.class x) ≡ is_allocated_kind (slice_index kinds x)
  unknown : (x : ℕ) → is_unknown (vol.class x) ≡ is_unknown_kind (slice_index kinds x)
  suspect : (x : ℕ) → is_suspect vol x ≡ (bool_at marked x || is_empty_dir_kind (slice_index kinds x))
  kind : (x : ℕ) → is_allocated (vol.class x) ≡ true → is_unknown (vol.class x) ≡ false
      → type_of_kind (slice_index kinds x) ≡ (vol.inode x).mode / 4096
  parent_is : (x : ℕ) → slice_index parents x ≡ unwrap_or (parent (graph_of vol) x) 0

shown : (v : Layout) (b : List ℕ) (w : Workspace) → IsFor v w → HoldsBlockCheck v b w → HoldsSurvey v b w →
    Shown (volume_of v b) w.kinds.items w.marked.items w.parents.items
unfolding volume_of volume_with
shown v b w m h r = let reports = reports_at v b in grind (arith, kind_dirs, suspect_is, type_is, settled)

-- ---- the entries
-- what a calm plain entry that is no whiteout says of its inode, whose kind is the entry's
record IsCalmName (vol : Volume) (e : Entry) : Type 0 where
  named : e.number ≢ 1
  no_whiteout : is_bad_whiteout e ≡ false
  allocated : is_allocated (vol.class e.number) ≡ true
  suspect : is_suspect vol e.number ≡ false
  type : is_unknown (vol.class e.number) ≡ false → e.kind ≡ (vol.inode e.number).mode / 4096

abbrev names_calm : CurrentDir → (ℕ → Bool) → Entry → Bool
names_calm s reached e =
    nat_le 2 e.number && (not (bool_at s.marked e.number)
    && ((number_at s.kinds e.number == e.kind) && is_calm_kind e.kind (reached e.number)))

not_suspect : (k kind : ℕ) (mark reached : Bool) → (not mark && ((k == kind) && is_calm_kind kind reached)) ≡ true →
    (mark || is_empty_dir_kind k) ≡ false
not_suspect k kind mark reached h = grind (arith, nat_tests)

right_type : (k kind : ℕ) (mark reached : Bool) → (not mark && ((k == kind) && is_calm_kind kind reached)) ≡ true →
    kind ≡ type_of_kind k
right_type k kind mark reached h = grind (arith, nat_tests)

name_is : (vol : Volume) (s : CurrentDir) (parents : List ℕ) (reached : ℕ → Bool) (e : Entry) →
    Shown vol s.kinds s.marked parents → names_calm s reached e ≡ true → IsCalmName vol e
name_is vol s parents reached e sh c = grind (arith, nat_tests, and_parts, not_suspect, right_type)

calm_kind : (unknown right : Bool) → (unknown ≡ false → right ≡ true) → (not unknown && not right) ≡ false
calm_kind unknown right h = grind (arith, nat_tests)

-- so the verdict on it is silent, whatever is flagged
plain_silent : (vol : Volume) (s : CurrentDir) (parents : List ℕ) (flags : List Bool) (stamps : List ℕ)
    (reached : ℕ → Bool) (e : Entry) →
    Shown vol s.kinds s.marked parents → is_calm_plain s.kinds s.marked reached e.number e.kind ≡ true
    → (is_dir vol e.number ≡ true → belongs vol s.dir e.number ≡ true)
    → (is_dir vol e.number ≡ true → (slice_index stamps e.number == s.dir) ≡ false)
    → is_silent (verdict_at_look vol s.dir (record { flags = flags; stamps = stamps }) e) ≡ true
plain_silent vol s parents flags stamps reached e sh c mine new = silent_of vol _ _ e (record {
  below = grind (arith, nat_tests, and_parts);
  no_whiteout = grind (arith, nat_tests, and_parts, or_cases, name_is);
  named = λ n.
      let name : IsCalmName vol e = grind (arith, nat_tests, and_parts, or_cases, name_is) in
      record {
        allocated = name.allocated;
        suspect = rw name.suspect refl;
        link = own_link (is_dir vol e.number) _ _ mine new;
        right_type = calm_kind (is_unknown (vol.class e.number)) _ (λ u. eq-eqb e.kind _ (name.type u));
      };
})
  where
    own_link : (dir mine stamped : Bool) → (dir ≡ true → mine ≡ true) → (dir ≡ true → stamped ≡ false) →
        (dir && not (mine && not stamped)) ≡ false
    own_link dir mine stamped p q = grind (arith, nat_tests)

stamp_reached : (stamps : List ℕ) (n x d : ℕ) (plain mine dir old : Bool) → (mine ≡ true → x ≡ n → dir ≡ true) →
    ((slice_index stamps x == d) ≡ true → old ≡ true) →
    (slice_index (if plain && mine then slice_set stamps n d else stamps) x == d) ≡ true →
    (old || (dir && (plain && (n == x)))) ≡ true
stamp_reached stamps n x d plain mine dir old f g t = grind (arith, nat_tests, get_or-set_other)

-- calm entries are quiet, where each that was stamped was reached
calm_quiet : (vol : Volume) (s : CurrentDir) (parents : List ℕ) (flags : List Bool) (es : List RoledEntry)
    (reached : ℕ → Bool) (i : ℕ) (stamps : List ℕ) → Shown vol s.kinds s.marked parents
    → are_calm s reached i es ≡ true
    → ((x : ℕ) → is_dir vol x ≡ true → list_any (is_naming_entry x) es ≡ true → belongs vol s.dir x ≡ true)
    → ((x : ℕ) → x < vol.count → (slice_index stamps x == s.dir) ≡ true → reached x ≡ true)
    → are_quiet vol s.dir flags stamps es ≡ true
unfolding is_quiet
calm_quiet vol s parents flags [] reached i stamps sh c mine seen = refl
calm_quiet vol s parents flags (e ∷ es) reached i stamps sh c mine seen =
    let p = and_parts (is_calm_entry s reached i e) _ c in
    and_from (is_quiet vol s.dir flags stamps e) _ (here e.role refl p.0)
    (calm_quiet vol s parents flags es (reached_after s.kinds reached e) (suc i) (after_look vol s.dir stamps e) sh p.1
    (λ x d n. mine x d (or_right (is_naming_entry x e) _ n)) after)
  where
    low : (x : ℕ) → is_dir vol x ≡ true → x < vol.count
    low x d = grind (arith, nat_tests)

    here : (role : Role) → e.role ≡ role → is_calm_role s reached i role e.entry.number e.entry.kind ≡ true →
        is_role_silent role (verdict_at_look vol s.dir (record { flags = flags; stamps = stamps }) e.entry) ≡ true
    here Extra q h = absurd (cc)
    here Plain q h =
        let x = e.entry.number in
        let named : is_naming_entry x e ≡ true = rw q (eq-eqb x x refl) in
        plain_silent vol s parents flags stamps reached e.entry sh (and_parts (nat_le 2 i) _ h).1
        (λ d. mine x d (or_left (is_naming_entry x e) _ named))
        (λ d. false_from_ne_true (slice_index stamps x == s.dir)
        (λ t. both_ways (reached x)
        (calm_names_new s reached i x Plain x e.entry.kind h (sh.dirs x ∙ d) (eq-eqb x x refl)) (seen x (low x d) t)))
    here role q h = refl

    after : (x : ℕ) → x < vol.count → (slice_index (after_look vol s.dir stamps e) x == s.dir) ≡ true →
        reached_after s.kinds reached e x ≡ true
    after x l t = stamp_reached stamps e.entry.number x s.dir (is_plain e.role) (belongs vol s.dir e.entry.number)
        (is_dir_at s.kinds x) (reached x)
        (λ b z. sh.dirs x ∙ (ap (is_dir vol) z ∙ (and_parts (is_dir vol e.entry.number) _ b).0)) (seen x l) t

-- ---- the first two entries
-- a sound chunk has an entry
abbrev Solid : List Chunk → Type 0
Solid [] = Unit {0}
Solid (c ∷ cs) = (c.sound ≡ true → c.entries ≡ [] → ⊥) × Solid cs

solid_append : (xs ys : List Chunk) → Solid xs → Solid ys → Solid (xs ++ ys)
solid_append [] ys a b = b
solid_append (x ∷ xs) ys a b = (a.0, solid_append xs ys a.1 b)

solid_chunk : (order : Order) (bytes : List ℕ) → is_sound order bytes ≡ true → entries_of order bytes ≡ [] → ⊥
solid_chunk order bytes h e = grind (arith, eqb-true)

solid_map : (order : Order) (offset : ℕ → ℕ) (bytes : ℕ → List ℕ) (ks : List ℕ) →
    Solid (map (λ k. chunk_of order (offset k) (bytes k)) ks)
solid_map order offset bytes [] = tt
solid_map order offset bytes (k ∷ ks) = (solid_chunk order (bytes k), solid_map order offset bytes ks)

solid_all : (r : ChunkSource) (passes : ℕ → ℕ → Bool) (steps : List Step) → Solid (chunks_of r passes steps)
solid_all r passes [] = tt
solid_all r passes (Run start len (Some block) ∷ xs) =
    solid_append (step_chunks r passes (Run start len (Some block))) _ (one (passes start len)) (solid_all r passes xs)
  where
    one : (b : Bool) → Solid (if b then run_chunks r start len (block * r.bsize) else [])
    one true = solid_map r.order _ _ _
    one false = tt
solid_all r passes (x ∷ xs) = solid_all r passes xs

solid_dir : (v : Layout) (b : List ℕ) (d : ℕ) → IsAcceptedLayout v → is_dir (volume_of v b) d ≡ true →
    Solid ((volume_of v b).chunks d)
unfolding chunks_read
solid_dir v b d g h =
    subst Solid (chunks_are v b d g (dirs.dir_is v b d h).0 refl refl)
    (solid_all (reading_by v b (bytes_read (inode_of v b d).size)) (is_run_in_range v)
    (replayed_steps v (cut_at v b d) fresh_replay (steps_of v (inode_of v b d) b)))

-- `..`, by the number of its parent
abbrev is_dotdot_of : ℕ → Entry → Bool
is_dotdot_of parent e = is_live e && (is_two_dots e.name && ((e.number == parent) && (e.kind == 4)))

-- the first calm entry is `.`, and the second is `..`
calm_first : (s : CurrentDir) (reached : ℕ → Bool) (first : Bool) (e : Entry) →
    is_calm_role s reached 0 (role_of first 0 e) e.number e.kind ≡ true →
    (first && is_dot_silent (dot_defects s.dir (Some e))) ≡ true
unfolding role_of
calm_first s reached first e h = grind (arith, nat_tests)

calm_second : (s : CurrentDir) (reached : ℕ → Bool) (first : Bool) (i : ℕ) (e : Entry) →
    is_calm_role s reached 1 (role_of first i e) e.number e.kind ≡ true → ((i == 1) && is_dotdot_of s.parent e) ≡ true
unfolding role_of
calm_second s reached first i e h = grind (arith, nat_tests)

-- both are in one chunk, at the start of the file
record AreFirst (d parent : ℕ) (cs : List Chunk) : Type 0 where
  first : Entry
  second : Entry
  first_is : option_and_then (λ c. nth_entry c.entries 0) (find (λ c. c.offset == 0) cs) ≡ Some first
  second_is : option_and_then (λ c. nth_entry c.entries 1) (find (λ c. c.offset == 0) cs) ≡ Some second
  dot : is_dot_silent (dot_defects d (Some first)) ≡ true
  dotdot : is_dotdot_of parent second ≡ true

-- no chunk begins with `..`
no_second : (s : CurrentDir) (reached : ℕ → Bool) (cs : List Chunk) → Solid cs → are_sound cs ≡ true →
    are_calm s reached 1 (flat_map roled_chunk cs) ≡ true → ⊥
unfolding roled_from
no_second s reached [] solid sound h = absurd (cc)
no_second s reached (c ∷ cs) solid sound h = go c.entries refl h
  where
    go : (es : List Entry) → c.entries ≡ es →
        are_calm s reached 1 (roled_from (c.offset == 0) 0 es ++ flat_map roled_chunk cs) ≡ true → ⊥
    go [] e k = solid.0 (and_parts c.sound _ sound).0 e
    go (x ∷ xs) e k = let here = calm_second s reached (c.offset == 0) 0 x (and_parts _ _ k).0 in absurd (cc)

first_two : (s : CurrentDir) (reached : ℕ → Bool) (cs : List Chunk) → Solid cs → are_sound cs ≡ true →
    are_calm s reached 0 (flat_map roled_chunk cs) ≡ true → AreFirst s.dir s.parent cs
unfolding roled_from
first_two s reached [] solid sound h = absurd (cc)
first_two s reached (c ∷ cs) solid sound h = go c.entries refl h
  where
    roled : Entry → RoledEntry
    roled x = record { role = role_of (c.offset == 0) 0 x; entry = x }

    go : (es : List Entry) → c.entries ≡ es →
        are_calm s reached 0 (roled_from (c.offset == 0) 0 es ++ flat_map roled_chunk cs) ≡ true →
        AreFirst s.dir s.parent (c ∷ cs)
    go [] e k = absurd (solid.0 (and_parts c.sound _ sound).0 e)
    go (x ∷ []) e k = absurd (no_second s (reached_after s.kinds reached (roled x)) cs solid.1
        (and_parts c.sound (are_sound cs) sound).1 (and_parts (is_calm_entry s reached 0 (roled x)) _ k).1)
    go (x ∷ y ∷ ys) e k =
        let p = and_parts (is_calm_entry s reached 0 (roled x)) _ k in
        let here = and_parts (c.offset == 0) _ (calm_first s reached (c.offset == 0) x p.0) in
        let found : find (λ z. z.offset == 0) (c ∷ cs) ≡ Some c = rw here.0 refl in
        record {
          first = x;
          second = y;
          first_is = rw (found, e) refl;
          second_is = rw (found, e) refl;
          dot = here.1;
          dotdot = calm_second s (reached_after s.kinds reached (roled x)) (c.offset == 0) 1 y (and_parts _ _ p.1).0;
        }

-- ---- what is before the entries
dotdot_right : (parent : Option ℕ) (e : Entry) → is_dotdot_of (unwrap_or parent 0) e ≡ true →
    is_dot_silent (dotdot_defects parent (Some e)) ≡ true
dotdot_right None e h = grind (arith, nat_tests)
dotdot_right (Some s) e h = grind (arith, nat_tests)

shape_right : (size : ℕ) (gap sound : Bool) (dot dotdot : DotDefects (List ℕ)) →
    (is_right_size size && (sound && not gap)) ≡ true → is_dot_silent dot ≡ true → is_dot_silent dotdot ≡ true →
    is_header_silent (record {
      short = is_short size;
      partial_chunk = has_partial_chunk size;
      gap = gap;
      unsound = not sound;
      dot = dot;
      dotdot = dotdot;
    }) ≡ true
shape_right size gap sound dot dotdot h p q = grind (arith, nat_tests)

starts_silent : (vol : Volume) (d above : ℕ) → AreFirst d above (vol.chunks d) →
    above ≡ unwrap_or (parent (graph_of vol) d) 0 → is_right_shape vol d ≡ true → dir_header_lines vol d ≡ []
unfolding dir_header_lines header_defects start_entry
starts_silent vol d above f up right =
    header_silent (header_of vol d) _ _ (rw (f.first_is, f.second_is)
    (shape_right (vol.inode d).size (vol.gap d) (are_sound (vol.chunks d)) _ _ right f.dot
    (dotdot_right (parent (graph_of vol) d) f.second (rw (← up) f.dotdot))))

-- ---- a calm directory
root_up : (vol : Volume) → unwrap_or (parent (graph_of vol) 2) 0 ≡ 2
unfolding parent
root_up vol = refl

calm_belongs : (vol : Volume) (kinds : List ℕ) (marked reached : List Bool) (parents : List ℕ) (sound : Bool)
    (d x : ℕ) → 2 ≤ d → Shown vol kinds marked parents
    → IsCalm (dir_by kinds marked parents d) reached parents (roled_entries vol d) sound
    → is_dir vol x ≡ true → list_any (is_naming_entry x) (roled_entries vol d) ≡ true → belongs vol d x ≡ true
calm_belongs vol kinds marked reached parents sound d x two sh c dir named =
    let at = sh.dirs x ∙ dir in
    let up = (c.below x at named).1 in
    let new = calm_new (record { kinds = kinds; marked = marked; dir = d; parent = number_at parents d }) c.before 0 x
    (roled_entries vol d) c.entries_right at named in
    let begins = c.begins in
    let root = root_up vol in
    let parent_is = sh.parent_is x in
    let root_is = sh.parent_is 2 in
    grind (arith, nat_tests)

pub calm_silent : (v : Layout) (b : List ℕ) (w : Workspace) → IsAcceptedLayout v → IsFor v w → HoldsBlockCheck v b w →
    HoldsSurvey v b w → FlagsOnlyCalm v b w → (d : ℕ) → bool_at w.flags.items d ≡ true → IsSilentDirectory (volume_of v b) d
unfolding roled_entries
calm_silent v b w g m h r f d set =
    let sh = shown v b w m h r in
    let c = f.calm d set in
    let all = and_parts (is_dir (volume_of v b) d) (is_right_shape (volume_of v b) d) c.shape_right in
    let dir = all.0 in
    let two = leb-true 2 d (and_parts (nat_le 2 d) _
    (and_parts (nat_le 2 d && nat_lt d (volume_of v b).count) _ dir).0).0 in
    let s : CurrentDir = record {
      kinds = w.kinds.items;
      marked = w.marked.items;
      dir = d;
      parent = number_at w.parents.items d;
    } in
    let shape = and_parts (is_right_size ((volume_of v b).inode d).size) _ all.1 in
    let firsts = first_two s c.before ((volume_of v b).chunks d) (solid_dir v b d g dir)
    (and_parts (are_sound ((volume_of v b).chunks d)) _ shape.1).0 c.entries_right in
    record {
      starts = starts_silent (volume_of v b) d (number_at w.parents.items d) firsts (sh.parent_is d) all.1;
      entries = λ flags stamps none. calm_quiet (volume_of v b) s w.parents.items flags (roled_entries (volume_of v b) d)
          c.before 0
          stamps sh c.entries_right
          (λ x e n. calm_belongs (volume_of v b) w.kinds.items w.marked.items w.reached.items w.parents.items _ d x two
          sh c e n)
          (λ x l t. absurd (both_ways (slice_index stamps x == d) (none x l) t));
    }
