-- Where the checks are silent, no directory has size 0; plain entries are live.
use Rattle.std.proofs.Common.{◌≡◌, ◌≢◌, ℕ, zero, suc, Bool, true, false, List, [], ◌∷◌, ◌++◌, Some, inl, inr, ◌⊎◌, ◌≤◌}
use Rattle.std.{proofs.{Common.arith, lemmas.Bool.ne_eqb}, specs.List.flat_map}
use Rattle.ffs_volume.specs.{declared.Role.TheVariants.Plain, Directories.Roles.{Volume, RoledEntry, role_of}}
use Rattle.ffs_volume.specs.Directories.Roles.{roled_from, roled_chunk, roled_entries, is_dir, is_allocated_inode}
use Rattle.ffs_volume.specs.Directories.{Roles.is_suspect, Naming.{nth_roled, graph_of, is_first_naming_entry}}
use Rattle.ffs_volume.specs.Directories.{Graph.{is_naming_entry, is_naming_dir, is_named}, Entries.{Entry, Chunk}}
use Rattle.ffs_volume.proofs.{SearchLaws.{some_below-gives, first_below-is}, ClimbLaws.is_value-from, Graphs.IsSane}
use Rattle.ffs_volume.proofs.Graphs.{NoneDead}
use Rattle.ffs_certificate.{specs.Premises.{IsVolume, IsUnmarked}, proofs.Silent.{IsNamer, names_at-gives}}
use Rattle.ffs_certificate.proofs.{Silent.{IsPathnameQuiet, dir-below, IsCountQuiet}, Reached.place_of}

role-live : (first : Bool) (index : ℕ) (e : Entry) → role_of first index e ≡ Plain → e.number ≢ 0
unfolding role_of
role-live first index e h = grind arith

roled_from-live : (first : Bool) (index : ℕ) (es : List Entry) (j : ℕ) (s : RoledEntry) →
    nth_roled (roled_from first index es) j ≡ Some s → s.role ≡ Plain → s.entry.number ≢ 0
unfolding roled_from
roled_from-live first index [] j s t r = absurd (cc)
roled_from-live first index (e ∷ es) zero s t r = grind (arith, role-live)
roled_from-live first index (e ∷ es) (suc j) s t r = roled_from-live first (suc index) es j s t r

-- an entry of two lists is one of either
roled_at-join : (xs ys : List RoledEntry) (j : ℕ) (s : RoledEntry) → nth_roled (xs ++ ys) j ≡ Some s →
    ((k : ℕ) × (nth_roled xs k ≡ Some s)) ⊎ ((k : ℕ) × (nth_roled ys k ≡ Some s))
roled_at-join [] ys j s t = inr (j, t)
roled_at-join (x ∷ xs) ys zero s t = inl (0, t)
roled_at-join (x ∷ xs) ys (suc j) s t = elim (roled_at-join xs ys j s t) [ inl p ↦ inl (suc p.0, p.1) | inr p ↦ inr p ]

chunks-live : (chunks : List Chunk) (j : ℕ) (s : RoledEntry) → nth_roled (flat_map roled_chunk chunks) j ≡ Some s →
    s.role ≡ Plain → s.entry.number ≢ 0
chunks-live [] j s t r = absurd (cc)
chunks-live (c ∷ chunks) j s t r = let more = chunks-live chunks in grind (arith, roled_at-join, roled_from-live)

pub plain-live : (v : Volume) (d j : ℕ) (s : RoledEntry) → nth_roled (roled_entries v d) j ≡ Some s → s.role ≡ Plain →
    s.entry.number ≢ 0
unfolding roled_entries
plain-live v d j s t r = chunks-live (v.chunks d) j s t r

pub is_sane : (v : Volume) → IsVolume v → IsSane (graph_of v)
is_sane v vol = record { some = vol.some; dirs = dir-below v }

-- a directory has a number from 2 on, and is allocated
pub dir-from_two : (v : Volume) (d : ℕ) → is_dir v d ≡ true → 2 ≤ d
dir-from_two v d h = grind arith

-- what some plain entry names, a first one names
first_name : (v : Volume) (x : ℕ) → is_named (graph_of v) x ≡ true → (s : ℕ) × (j : ℕ)
    × (is_first_naming_entry (graph_of v) s j x ≡ true) × IsNamer v s j x
first_name v x h =
    let g = graph_of v in
    let w = some_below-gives (λ s. is_naming_dir g s x) v.count h in
    let q = place_of (is_naming_entry x) (roled_entries v w.0) (grind arith) in
    let first = first_below-is (λ s. is_naming_dir g s x) v.count w.0 w.1 in
    (w.0, q.0, grind (arith, is_value-from), names_at-gives v w.0 q.0 x (grind arith))

-- a suspect that is named is reported at its first name
named_reported : (v : Volume) → IsVolume v → IsPathnameQuiet v →
    ((d : ℕ) → d ≢ 2 → is_dir v d ≡ true → (v.inode d).size ≡ 0 → is_named (graph_of v) d ≡ true → ⊥)
named_reported v vol p d n h z t = grind (arith, first_name, ne_eqb)

-- no directory has size 0
pub none_empty : (v : Volume) → IsVolume v → IsPathnameQuiet v →
    ((i : ℕ) → is_allocated_inode v i ≡ true → IsCountQuiet v i) → (d : ℕ) → is_dir v d ≡ true → (v.inode d).size ≢ 0
none_empty v vol p r d h z = grind (arith, named_reported)

-- with nothing marked and no directory of size 0, nothing is suspect
pub none_suspect : (v : Volume) → IsUnmarked v → ((d : ℕ) → is_dir v d ≡ true → (v.inode d).size ≢ 0) → (x : ℕ) →
    is_suspect v x ≡ false
none_suspect v un sizes x = grind arith

pub none_dead : (v : Volume) → ((x : ℕ) → is_suspect v x ≡ false) → NoneDead (graph_of v) (is_suspect v)
none_dead v h x = let calm = h x in grind arith
