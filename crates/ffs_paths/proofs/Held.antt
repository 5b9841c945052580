-- The names that a buffer holds, with one more before or after them.
use Rattle.std.proofs.Common.{◌≡◌, ℕ, suc, ◌+◌, ◌<◌, ◌≤◌, Bool, true, false, not, ◌&&◌, List, [], ◌∷◌, ◌++◌, nat_lt}
use Rattle.std.proofs.Common.{inl, inr, eq-zero-or-pos, length, drop, max, sym, ap, subst, ◌∙◌, arith, length-drop}
use Rattle.std.proofs.{Common.{le-ltb, lt-ltb, ltb-true}, lemmas.{List.drop_all, Bool.{Decides.nat_tests, and_parts}}}
use Rattle.std.proofs.lemmas.Bool.{not-true}
use Rattle.ffs_volume.specs.Directories.Paths.{joined, longest_end, path_bytes}
use Rattle.ffs_paths.specs.{declared.buffer.PathBuffer.PathBuffer, Buffers.{HoldsNames, IsLonger}, Slashes.HaveNoSlash}
use Rattle.ffs_paths.{specs.Slashes.from_slash, proofs.LongestEnds.{text_whole, joined-length, end-more, end-whole}}
use Rattle.ffs_paths.proofs.LongestEnds.{joined-last, last-length, slash_end, end_tail}

-- the length of names that have room
pub whole-length : (p : PathBuffer) (names : List (List ℕ)) → drop p.start p.bytes ≡ joined names →
    p.start + length (joined names) ≡ 1024
whole-length p names whole = grind (arith, length-drop)

-- a name more has room, and has none
pub has_parts : (cut : Bool) (n start : ℕ) → true ≡ (not cut && nat_lt n start) → (cut ≡ false) × (n < start)
has_parts cut n start h = grind (arith, and_parts, not-true, ltb-true)

pub no_room : (p : PathBuffer) (names : List (List ℕ)) (name : List ℕ) → HoldsNames p names →
    false ≡ (not p.cut && nat_lt (length name) p.start) → 1024 < length (joined names) + suc (length name)
no_room p names name h none = grind (arith, whole-length, nat_tests)

-- ---- what a buffer holds: all names have room, and a `?` before them, too; or not all have
fits_holds : (p : PathBuffer) (names : List (List ℕ)) → p.cut ≡ false → drop p.start p.bytes ≡ joined names →
    drop p.short p.bytes ≡ joined (longest_end 1023 names) → HoldsNames p names
fits_holds p names room whole short = grind (arith, whole-length, le-ltb)

pub room_holds : (p : PathBuffer) (names : List (List ℕ)) → p.cut ≡ false → drop p.start p.bytes ≡ joined names →
    p.short ≡ p.start → 0 < p.start → HoldsNames p names
room_holds p names room whole short some = grind (arith, whole-length, fits_holds, end-whole)

-- no names
pub none_held : (p : PathBuffer) → p.start ≡ 1024 → p.short ≡ 1024 → p.cut ≡ false → HoldsNames p []
none_held p start short cut =
    let l = p.long in
    room_holds p [] cut (drop_all p.start p.bytes (omega arith)) (omega arith) (omega arith)

cut_holds : (p : PathBuffer) (names : List (List ℕ)) → p.cut ≡ true → 1024 < length (joined names) →
    drop p.short p.bytes ≡ joined (longest_end 1023 names) → HoldsNames p names
cut_holds p names cut over short = grind (arith, lt-ltb)

-- ---- a name more before them: it fills the buffer, or has no room
pub first_full : (p q : PathBuffer) (name : List ℕ) (names : List (List ℕ)) → HoldsNames q names → p.cut ≡ false →
    drop p.start p.bytes ≡ joined (name ∷ names) → p.start ≡ 0 → drop p.short p.bytes ≡ drop q.short q.bytes →
    HoldsNames p (name ∷ names)
first_full p q name names held room whole full short = grind (arith, whole-length, fits_holds, end-more)

pub first_cut : (p q : PathBuffer) (name : List ℕ) (names : List (List ℕ)) → HoldsNames q names → p.cut ≡ true →
    1024 < length (joined names) + suc (length name) → drop p.short p.bytes ≡ drop q.short q.bytes →
    HoldsNames p (name ∷ names)
first_cut p q name names held cut over short = grind (arith, joined-length, cut_holds, end-more)

-- ---- a name more after them: all have room, or not
pub last_fits : (p q : PathBuffer) (names : List (List ℕ)) (name : List ℕ) → IsLonger q q.start name false p →
    drop q.start q.bytes ≡ joined names → HaveNoSlash (names ++ name ∷ []) → HoldsNames p (names ++ name ∷ [])
last_fits p q names name made whole single =
    let last = names ++ name ∷ [] in
    let all : drop p.start p.bytes ≡ joined last = made.bytes
    ∙ (ap (λ b. b ++ 47 ∷ name) whole ∙ sym (joined-last names name)) in
    let n = whole-length p last all in
    fits_holds p last made.cut_is all (elim (eq-zero-or-pos p.start) [
      | inl full ↦ made.second full
          ∙ (ap (λ bytes. from_slash (drop 1 bytes)) (subst (λ k. drop k p.bytes ≡ joined last) full all)
          ∙ slash_end last 1 1023 single (λ some. omega arith) (omega arith))
      | inr some ↦ ap (λ k. drop k p.bytes) (made.all some)
          ∙ (all ∙ sym (ap joined (end-whole 1023 last (omega arith))))
    ])

first_single : (names : List (List ℕ)) (name : List ℕ) → HaveNoSlash (names ++ name ∷ []) → HaveNoSlash names
first_single [] name h = tt
first_single (x ∷ names) name h = (h.0, first_single names name h.1)

pub last_cut : (p q : PathBuffer) (names : List (List ℕ)) (name : List ℕ) (from : ℕ) → IsLonger q from name true p →
    HoldsNames q names → HaveNoSlash (names ++ name ∷ []) → length name ≤ 1022 → length name + 2 ≤ from →
    1024 < length (joined names) + suc (length name)
    → drop from q.bytes ≡ from_slash (drop (max q.short (length name + 2)) q.bytes) → HoldsNames p (names ++ name ∷ [])
last_cut p q names name from made held single small low over found = grind (arith, last-length, end_tail, first_single)

-- ---- the text of an entry's path where all have room
pub entry-whole : (p : PathBuffer) (names : List (List ℕ)) (name : List ℕ) → drop p.start p.bytes ≡ joined names →
    length name < p.start → path_bytes (names ++ name ∷ []) ≡ drop p.start p.bytes ++ 47 ∷ name
entry-whole p names name whole room = grind (arith, text_whole, whole-length, last-length, joined-last)
