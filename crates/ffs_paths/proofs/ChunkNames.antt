-- The name of an inode in a chunk, by its entries one after another.
use Rattle.std.proofs.Common.{◌≡◌, ℕ, zero, suc, ◌+◌, ◌-◌, ◌*◌, ◌<◌, ◌==◌, ◌&&◌, ◌||◌, ◌∙◌, ◌++◌, Bool, true}
use Rattle.std.proofs.Common.{false, List, [], length, Some, None, ap, arith, drop, flat_map, get_or, refl, sym, take}
use Rattle.std.{proofs.Common.{length-drop, length-take}, specs.{List.{list_any, range_with_len}, Simd.first_chunks}}
use Rattle.std.proofs.lemmas.{Bool.{Decides.nat_tests, false≢true}, List.{append-nil, drop-drop, Folds.list_any-append}}
use Rattle.ffs_volume.specs.{declared.{Order.Order, Role.Role}, Disk.Numbers.{piece, u32_at}, Directories.Entries.Entry}
use Rattle.ffs_volume.specs.Directories.Entries.{entry_at, entry_read, is_live, is_well_formed, name_at}
use Rattle.ffs_volume.specs.Directories.{Roles.{RoledEntry, is_plain, role_of}, Graph.is_naming_entry}
use Rattle.ffs_walk.proofs.Ranges.{range_step}
use Rattle.ffs_workspace.proofs.PlaceLaws.{name_in-after, name_in-among}
use Rattle.ffs_volume.specs.Encodings.Places.{entries_in_chunk}
use Rattle.ffs_layout.specs.{Entry.entry_value, declared.entry.Entry.Entry as CodeEntry}
use Rattle.ffs_names.{proofs.Stepping.{roled_end, roled_on}, specs.EntriesToCome.{roled_to_come, GivesWithIndex}}
use Rattle.ffs_names.specs.declared.chunk_entries.ChunkEntries.{ChunkEntries}
use Rattle.ffs_paths.{specs.Climbing.{name_in, FindsFirstName}, proofs.WaysUp.name_in-by}

-- the entry that comes names the inode
pub chunk_here : (d : ℕ) {old new : ChunkEntries} {given : ℕ × CodeEntry} → GivesWithIndex old given new →
    (is_plain (role_of false given.0 (entry_value given.1)) && (given.1.number == d)) ≡ true →
    name_in d (roled_to_come false old) ≡ given.1.name.now
chunk_here d {new = new} {given = given} h this = rw (roled_on false _ h refl) (name_in-by d
    (record { role = role_of false given.0 (entry_value given.1); entry = entry_value given.1 }) (roled_to_come false new)
    this)

-- it doesn't: the name, and whether there is one, are those by the entries after it
pub chunk_past : (d : ℕ) {old new : ChunkEntries} {given : ℕ × CodeEntry} → GivesWithIndex old given new →
    (is_plain (role_of false given.0 (entry_value given.1)) && (given.1.number == d)) ≡ false →
    (name_in d (roled_to_come false old) ≡ name_in d (roled_to_come false new))
    × (list_any (is_naming_entry d) (roled_to_come false old) ≡ list_any (is_naming_entry d) (roled_to_come false new))
chunk_past d h off = let next = roled_on false _ h refl in grind (arith, name_in-by)

-- no entry is left
pub named_none : (d : ℕ) (es : ChunkEntries) → entry_at es.order es.chunk.now es.place ≡ None →
    list_any (is_naming_entry d) (roled_to_come false es) ≡ false
named_none d es none = rw (roled_end false es none) refl

-- ---- the name of a plain entry has a byte
plain_live : (first : Bool) (index : ℕ) (e : Entry) → is_plain (role_of first index e) ≡ true → is_live e ≡ true
unfolding role_of
plain_live first index e h = grind (arith, h)

name_some : (order : Order) (chunk : List ℕ) (place : ℕ) → length chunk ≡ 512 → is_well_formed order chunk place ≡ true
    → (u32_at order place chunk == 0) ≡ false → 0 < length (name_at chunk place)
unfolding is_well_formed
name_some order chunk place size h live = grind (arith, length-drop, length-take, nat_tests)

pub plain_named : (d : ℕ) (order : Order) (chunk : List ℕ) (index place : ℕ) (e : Entry) (role : Role) →
    length chunk ≡ 512 → entry_at order chunk place ≡ Some e → role ≡ role_of false index e
    → (is_plain role && (e.number == d)) ≡ true → 0 < length e.name
unfolding entry_at entry_read
plain_named d order chunk index place e role size there is this = grind (arith, plain_live, name_some)

-- ---- chunks one after another
chunk_at : (n : ℕ) (xs : List ℕ) (i : ℕ) (d : List ℕ) → i < n → get_or (first_chunks 512 n xs) i d ≡ piece (512 * i) 512 xs
chunk_at zero xs i d below = absurd (omega arith)
chunk_at (suc n) xs zero d below = refl
chunk_at (suc n) xs (suc i) d below =
    chunk_at n (drop 512 xs) i d (omega arith)
    ∙ ap (take 512) (drop-drop (512 * i) 512 xs ∙ ap (λ (k : ℕ). drop k xs) (omega arith))

-- the entries of so many chunks, from the one at an index on
abbrev pub entries_after : Order → (n : ℕ) → List ℕ → (i : ℕ) → List RoledEntry
entries_after order n bytes i =
    flat_map (λ k. entries_in_chunk order (piece (512 * k) 512 bytes)) (range_with_len i (n - i))

-- those of the first chunk come first
chunk_first : (order : Order) (n : ℕ) (bytes : List ℕ) (parts : List (List ℕ)) (i : ℕ) (d : List ℕ) →
    parts ≡ first_chunks 512 n bytes → i < n →
    entries_after order n bytes i ≡ entries_in_chunk order (get_or parts i d) ++ entries_after order n bytes (i + 1)
chunk_first order n bytes parts i d are below = rw (are, range_step i n below, chunk_at n bytes i d below) refl

-- none of them names the inode
pub past_chunk : (x : ℕ) (order : Order) (n : ℕ) (bytes : List ℕ) (parts : List (List ℕ)) (i : ℕ) (d text : List ℕ)
    (found : Bool) → FindsFirstName x (entries_in_chunk order (get_or parts i d)) text found → found ≡ false →
    parts ≡ first_chunks 512 n bytes → i < n →
    (name_in x (entries_after order n bytes i) ≡ name_in x (entries_after order n bytes (i + 1)))
    × (list_any (is_naming_entry x) (entries_after order n bytes i)
    ≡ list_any (is_naming_entry x) (entries_after order n bytes (i + 1)))
past_chunk x order n bytes parts i d text found finds off are below =
    let here = entries_in_chunk order (get_or parts i d) in
    let later = entries_after order n bytes (i + 1) in
    let first = chunk_first order n bytes parts i d are below in
    let none : list_any (is_naming_entry x) here ≡ false =
    unnamed (list_any (is_naming_entry x) here) (λ e. false≢true (sym off ∙ finds.found e)) in (
      ap (name_in x) first ∙ name_in-after x here later none,
      ap (list_any (is_naming_entry x)) first
          ∙ (list_any-append (is_naming_entry x) here later
          ∙ ap (λ (b : Bool). b || list_any (is_naming_entry x) later) none),
    )
  where
    unnamed : (b : Bool) → (b ≡ true → ⊥) → b ≡ false
    unnamed true h = absurd (h refl)
    unnamed false h = refl

-- a name that has a byte is that of an entry
named_if : (x : ℕ) (es : List RoledEntry) (b : Bool) → list_any (is_naming_entry x) es ≡ b → 0 < length (name_in x es) →
    b ≡ true
named_if x es true is some = refl
named_if x es false is some =
    let none : name_in x es ≡ [] = ap (name_in x) (sym (append-nil es)) ∙ name_in-after x es [] is in
    absurd (omega (arith, ap length none))

-- one of them names it
pub in_chunk : (x : ℕ) (order : Order) (n : ℕ) (bytes : List ℕ) (parts : List (List ℕ)) (i : ℕ) (d text : List ℕ)
    (found : Bool) → FindsFirstName x (entries_in_chunk order (get_or parts i d)) text found → found ≡ true →
    parts ≡ first_chunks 512 n bytes → i < n → text ≡ name_in x (entries_after order n bytes i)
in_chunk x order n bytes parts i d text found finds on are below =
    let here = entries_in_chunk order (get_or parts i d) in
    let there = named_if x here _ refl (omega (arith, ap length (finds.name on), finds.some on)) in
    finds.name on ∙ sym (ap (name_in x) (chunk_first order n bytes parts i d are below)
    ∙ name_in-among x here (entries_after order n bytes (i + 1)) there)
