-- The longest end of the names of a path, and the text of a path with one more name after them.
use Rattle.std.proofs.Common.{if◌then◌else◌, ◌≡◌, ℕ, zero, suc, ◌+◌, ◌-◌, ◌<◌, ◌≤◌, ◌==◌, true, false, List, [], ◌∷◌}
use Rattle.std.proofs.Common.{◌++◌, Some, length, drop, max, nat_le, refl, sym, ap, ◌∙◌, append_assoc, append-nil}
use Rattle.std.proofs.Common.{arith, length-append, length-drop, drop-drop}
use Rattle.std.proofs.lemmas.{Bool.Decides.nat_tests, Bool.or_parts, List.drop_all}
use Rattle.ffs_volume.specs.Directories.Paths.{joined, longest_end, path_bytes, dir_path_of_names}
use Rattle.ffs_paths.specs.Slashes.{HaveNoSlash, from_slash, has_slash}

-- ---- the text of names that are cut, and of names that have room
pub text_cut : (names : List (List ℕ)) → 1024 < length (joined names) →
    path_bytes names ≡ 63 ∷ joined (longest_end 1023 names)
unfolding path_bytes
text_cut names h = grind (arith, nat_tests)

pub text_whole : (names : List (List ℕ)) → length (joined names) ≤ 1024 → path_bytes names ≡ joined names
unfolding path_bytes
text_whole names h = grind (arith, nat_tests)

-- the path of the root, and of another directory
pub text_none : (names : List (List ℕ)) → length (joined names) ≡ 0 → dir_path_of_names (Some names) ≡ 47 ∷ []
text_none [] h = refl
text_none (name ∷ names) h = absurd (omega arith)

pub text_some : (names : List (List ℕ)) → 0 < length (joined names) → dir_path_of_names (Some names) ≡ path_bytes names
text_some [] h = absurd (omega arith)
text_some (name ∷ names) h = refl

-- ---- the longest end with a name more before the names
-- the length with a name more
pub joined-length : (name : List ℕ) (names : List (List ℕ)) → length (joined (name ∷ names))
    ≡ suc (length name + length (joined names))
joined-length name names = ap suc (length-append name (joined names))

pub end-more : (most : ℕ) (name : List ℕ) (names : List (List ℕ)) → most < length (joined (name ∷ names)) →
    longest_end most (name ∷ names) ≡ longest_end most names
unfolding longest_end
end-more most name names h = grind (arith, nat_tests)

-- names that fit are their own longest end
pub end-whole : (most : ℕ) (names : List (List ℕ)) → length (joined names) ≤ most → longest_end most names ≡ names
unfolding longest_end
end-whole most [] h = refl
end-whole most (name ∷ names) h = grind (arith, nat_tests)

-- so they are in that of more names
pub end_within : (most : ℕ) (above names : List (List ℕ)) → length (joined names) ≤ most →
    length names ≤ length (longest_end most (above ++ names))
unfolding longest_end
end_within most [] names h = rw (end-whole most names h) (omega arith)
end_within most (name ∷ above) names h = grind (arith, nat_tests, length-append, end_within most above names h)

-- ---- and with a name more after them
-- the longest end of a longer one
end-end : (less most : ℕ) (names : List (List ℕ)) → less ≤ most → longest_end less (longest_end most names)
    ≡ longest_end less names
unfolding longest_end
end-end less most [] h = refl
end-end less most (name ∷ names) h = grind (arith, nat_tests, end-end less most names h)

pub joined-last : (names : List (List ℕ)) (name : List ℕ) → joined (names ++ name ∷ []) ≡ joined names ++ 47 ∷ name
joined-last [] name = ap (λ xs. 47 ∷ xs) (append-nil name)
joined-last (x ∷ names) name = ap (λ xs. 47 ∷ (x ++ xs)) (joined-last names name)
    ∙ ap (λ xs. 47 ∷ xs) (sym (append_assoc x (joined names) (47 ∷ name)))

pub last-length : (names : List (List ℕ)) (name : List ℕ) → length (joined (names ++ name ∷ []))
    ≡ length (joined names) + suc (length name)
last-length names name = ap length (joined-last names name) ∙ length-append (joined names) (47 ∷ name)

-- the longest end of names with one more
end-last : (names : List (List ℕ)) (name : List ℕ) → length name ≤ 1022 → longest_end 1023 (names ++ name ∷ [])
    ≡ longest_end (1022 - length name) names ++ name ∷ []
unfolding longest_end
end-last [] name h = let l = joined-length name [] in end-whole 1023 (name ∷ []) (omega arith)
end-last (x ∷ names) name h = grind (arith, nat_tests, last-length (x ∷ names) name, end-last names name h)

-- a name that is longer than that has no room
pub end-past : (names : List (List ℕ)) (name : List ℕ) → 1022 < length name → longest_end 1023 (names ++ name ∷ []) ≡ []
unfolding longest_end
end-past [] name h = let l = joined-length name [] in end-more 1023 name [] (omega arith)
end-past (x ∷ names) name h = grind (arith, nat_tests, last-length (x ∷ names) name, end-past names name h)

-- ---- a search for a `/`
-- it passes a name that has none
name_past : (name rest : List ℕ) (from : ℕ) → has_slash name ≡ false → from_slash (drop from (name ++ rest))
    ≡ from_slash (drop (from - length name) rest)
name_past [] rest from h = ap (λ n. from_slash (drop n rest)) (omega arith)
name_past (x ∷ name) rest zero h = grind (arith, nat_tests, h, name_past name rest zero)
name_past (x ∷ name) rest (suc from) h =
    name_past name rest from (or_parts (x == 47) (has_slash name) h).1 ∙ ap (λ n. from_slash (drop n rest)) (omega arith)

-- from a place of joined names on it finds the longest end that begins there or later
pub slash_end : (names : List (List ℕ)) (from most : ℕ) → HaveNoSlash names →
    (0 < from → from + most ≡ length (joined names)) → length (joined names) ≤ from + most
    → from_slash (drop from (joined names)) ≡ joined (longest_end most names)
unfolding longest_end
slash_end [] zero most h is l = refl
slash_end [] (suc from) most h is l = refl
slash_end (name ∷ names) zero most h is l = sym (ap joined (end-whole most (name ∷ names) (omega arith)))
slash_end (name ∷ names) (suc from) most h is l =
    let n = joined-length name names in
    let e = is (omega arith) in
    name_past name (joined names) from h.0
    ∙ (slash_end names (from - length name) most h.1 (λ past. omega arith) (omega arith)
    ∙ ap joined (sym (end-more most name names (omega arith))))

end_single : (most : ℕ) (names : List (List ℕ)) → HaveNoSlash names → HaveNoSlash (longest_end most names)
unfolding longest_end
end_single most [] h = tt
end_single most (name ∷ names) h = elim (nat_le (length (joined (name ∷ names))) most) as (λ b.
    HaveNoSlash (if b then name ∷ names else longest_end most names)) [ true ↦ h | false ↦ end_single most names h.1 ]

-- the end of the names with one more: what is from the first `/` on after which that name has room,
-- and the name
pub end_tail : (names : List (List ℕ)) (name bytes : List ℕ) (short : ℕ) → short ≤ 1024 → length bytes ≡ 1024
    → drop short bytes ≡ joined (longest_end 1023 names) → HaveNoSlash names → length name ≤ 1022
    → joined (longest_end 1023 (names ++ name ∷ []))
    ≡ from_slash (drop (max short (length name + 2)) bytes) ++ 47 ∷ name
end_tail names name bytes short low size held single small =
    let ends = longest_end 1023 names in
    let most = 1022 - length name in
    let from = max short (length name + 2) in
    let n = length-drop short bytes in
    let w = ap length held in
    let there : drop from bytes ≡ drop (from - short) (joined ends) =
    ap (λ i. drop i bytes) (omega arith)
    ∙ (sym (drop-drop (from - short) short bytes) ∙ ap (drop (from - short)) held) in
    let found : from_slash (drop from bytes) ≡ joined (longest_end most names) =
    ap from_slash there ∙ (slash_end ends (from - short) most (end_single 1023 names single) (λ past. omega arith)
    (omega arith) ∙ ap joined (end-end most 1023 names (omega arith))) in
    ap joined (end-last names name small)
    ∙ (joined-last (longest_end most names) name ∙ ap (λ xs. xs ++ 47 ∷ name) (sym found))

-- nothing is left to look at
pub slash_none : (bytes : List ℕ) (at : ℕ) → length bytes ≤ 1024 → length bytes ≤ at →
    from_slash (drop at bytes) ≡ drop 1024 bytes
slash_none bytes at h k = ap from_slash (drop_all at bytes k) ∙ sym (drop_all 1024 bytes h)
