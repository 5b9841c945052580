-- The entries of the parts of an image in which the chunks of a directory's Run are.
use Rattle.std.proofs.Common.{◌≡◌, ◌∙◌, ℕ, zero, suc, ◌+◌, ◌-◌, ◌*◌, ◌/◌, ◌%◌, ◌<◌, ◌≤◌, true, false, List, ap, arith, inl, inr}
use Rattle.std.proofs.{Common.{drop, flat_map, refl, sym, take}, lemmas.{Bool.cases_eq, List.Folds.list_any-append}}
use Rattle.std.proofs.{lemmas.List.{drop-drop, drop-take, take-take}}
use Rattle.std.specs.List.{list_any, range_with_len}
use Rattle.ffs_volume.specs.{declared.Layout.Layout, Disk.Numbers.piece, Laws.Geometry.IsAcceptedLayout}
use Rattle.ffs_volume.specs.Directories.{Graph.is_naming_entry, Roles.RoledEntry}
use Rattle.ffs_volume.specs.Encodings.Places.{entries_in_chunk, entries_in_part, name_in, part_size}
use Rattle.ffs_workspace.proofs.{PartLaws.{begins_part, has_parts, lies_in_part}, PlaceLaws.{name_in-after, name_in-among}}

-- a piece of a piece
piece_in : (xs : List ℕ) (s m a l : ℕ) → a + l ≤ m → piece a l (piece s m xs) ≡ piece (s + a) l xs
piece_in xs s m a l within =
    let all : a + (m - a) ≡ m = omega arith in
    ap (λ (n : ℕ). take l (drop a (take n (drop s xs)))) (sym all)
    ∙ (ap (take l) (drop-take a (m - a) (drop s xs))
    ∙ (take-take l (m - a) (drop a (drop s xs)) (omega arith)
    ∙ ap (take l) (drop-drop a s xs ∙ ap (λ (n : ℕ). drop n xs) (omega arith))))

-- of lists that stand one after another, one is the first with an entry that names x: the name is
-- that of its first one
first_named : (x : ℕ) (f : ℕ → List RoledEntry) (n s j : ℕ) → s ≤ j → j < s + n →
    ((i : ℕ) → s ≤ i → i < j → list_any (is_naming_entry x) (f i) ≡ false) →
    list_any (is_naming_entry x) (f j) ≡ true →
    (name_in x (flat_map f (range_with_len s n)) ≡ name_in x (f j))
    × (list_any (is_naming_entry x) (flat_map f (range_with_len s n)) ≡ true)
first_named x f zero s j from below before there = absurd (omega arith)
first_named x f (suc n) s j from below before there = elim (cases_eq j s) [
  | inl e ↦ (
    rw e (name_in-among x (f s) (flat_map f (range_with_len (s + 1) n)) (rw e at there)),
    rw (list_any-append (is_naming_entry x) (f s) (flat_map f (range_with_len (s + 1) n)), rw e at there) refl,
  )
  | inr o ↦
      let none = before s (omega arith) (omega arith) in
      let later = first_named x f n (s + 1) j (omega arith) (omega arith) (λ i a. before i (omega arith)) there in (
        name_in-after x (f s) (flat_map f (range_with_len (s + 1) n)) none ∙ later.0,
        rw (list_any-append (is_naming_entry x) (f s) (flat_map f (range_with_len (s + 1) n)), none) later.1,
      )
]

-- the chunk at this place is the first of those from the start of a fragment on that names x: then
-- its part names x, and the first entry that does so has the name of the first one of the chunk
pub named_in_part : (v : Layout) (b : List ℕ) (x place at : ℕ) → IsAcceptedLayout v → at + 512 ≤ v.size * v.fsize →
    place % v.fsize ≡ 0 → place ≤ at → at % 512 ≡ 0 →
    ((i : ℕ) → place + 512 * i < at →
    list_any (is_naming_entry x) (entries_in_chunk v.order (piece (place + 512 * i) 512 b)) ≡ false) →
    list_any (is_naming_entry x) (entries_in_chunk v.order (piece at 512 b)) ≡ true →
    (name_in x (entries_in_part v b (at / part_size v)) ≡ name_in x (entries_in_chunk v.order (piece at 512 b)))
    × (list_any (is_naming_entry x) (entries_in_part v b (at / part_size v)) ≡ true)
named_in_part v b x place at g inside start from aligned before there =
    let found = first_named x chunk (part_size v / 512) 0 index (omega arith) in_part none (rw at_index there) in
    (found.0 ∙ ap (name_in x) at_index, found.1)
  where
    first : ℕ
    first = part_size v * (at / part_size v)

    index : ℕ
    index = (at - first) / 512

    chunk : ℕ → List RoledEntry
    chunk i = entries_in_chunk v.order (piece (512 * i) 512 (piece first (part_size v) b))

    chunk_is : (i : ℕ) → i < part_size v / 512 → chunk i ≡ entries_in_chunk v.order (piece (first + 512 * i) 512 b)
    chunk_is i below = ap (entries_in_chunk v.order) (piece_in b first (part_size v) (512 * i) 512 (omega arith))

    in_part : index < 0 + part_size v / 512
    in_part = let p = has_parts v g in omega (arith, p.some, p.whole)

    at_index : chunk index ≡ entries_in_chunk v.order (piece at 512 b)
    at_index =
        let whole = (begins_part v place at g start from).whole in
        let low = (lies_in_part v at g inside).from in
        chunk_is index (omega (arith, in_part))
        ∙ ap (λ (n : ℕ). entries_in_chunk v.order (piece n 512 b)) (omega (arith, whole, low))

    none : (i : ℕ) → 0 ≤ i → i < index → list_any (is_naming_entry x) (chunk i) ≡ false
    none i low below =
        let s = begins_part v place at g start from in
        let here : place + 512 * ((first - place) / 512 + i) ≡ first + 512 * i = omega (arith, s.after, s.chunks, s.whole) in
        ap (list_any (is_naming_entry x)) (chunk_is i (omega (arith, in_part)))
        ∙ (ap (λ (n : ℕ). list_any (is_naming_entry x) (entries_in_chunk v.order (piece n 512 b))) (sym here)
        ∙ before ((first - place) / 512 + i) (omega (arith, here)))
