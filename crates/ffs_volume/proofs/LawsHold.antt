-- Laws that say of definitions what they are meant to say.
use Rattle.std.{specs.List.range_with_len, proofs.Common.{zero, suc, ◌≡◌, ℕ, ◌+◌, ◌*◌, ◌/◌, ◌≤◌, Bool, true, false}}
use Rattle.std.proofs.Common.{cond, arith, refl, ◌∙◌, List, [], ◌∷◌, length, Option, if◌then◌else◌, map, count_by}
use Rattle.std.proofs.{Common.{sum_by, div-add-mod'}, lemmas.List.{FromFn.length-map-range_with_len, Sums.sum_by-cons}}
use Rattle.ffs_volume.specs.Directories.Paths.{path_names, dir_path_of_names, entry_path_of_names, dir_path, entry_path}
use Rattle.ffs_volume.{specs.Laws.Meanings.{AllPathsFit, SumsAreWhole}, proofs.PathBound.path_text-fits}
use Rattle.ffs_volume.specs.{Disk.Areas.cgbase, Groups.Records.{is_free_block, block_bits, block_numbers}}
use Rattle.ffs_volume.specs.Groups.Records.{right_group_counts}

-- PATHS
dir_fits : (names : Option (List (List ℕ))) → length (dir_path_of_names names) ≤ 1024
dir_fits names = grind (arith, path_text-fits)

entry_fits : (name : List ℕ) (names : Option (List (List ℕ))) → length name ≤ 255 →
    length (entry_path_of_names name names) ≤ 1024
entry_fits name names h = grind (arith, path_text-fits)

pub paths_fit : AllPathsFit
unfolding dir_path entry_path
paths_fit g d = record { of_dir = dir_fits (path_names g d); of_entry = λ name h. entry_fits name (path_names g d) h }

-- SUMS OF A GROUP
bit_count : (p : ℕ → Bool) (xs : List ℕ) → count_by (λ b. b) (map p xs) ≡ count_by p xs
bit_count p [] = refl
bit_count p (x ∷ xs) =
    let bits = sum_by-cons (λ b. cond b 1 0) (p x) (map p xs) in
    let here = sum_by-cons (λ y. cond (p y) 1 0) x xs in
    omega (arith, bit_count p xs)

range_join : (f : ℕ → ℕ) (a m n : ℕ) → sum_by f (range_with_len a (m + n)) ≡ sum_by f (range_with_len a m) + sum_by f
    (range_with_len (a + m) n)
range_join f a zero n = grind arith
range_join f a (suc m) n =
    let more = range_join f (a + 1) m n in
    let q : suc m + n ≡ suc (m + n) = omega arith in
    let r : a + suc m ≡ a + 1 + m = omega arith in
    grind (arith, sum_by-cons)

blocks_join : (p : ℕ → Bool) (a frag k n : ℕ) →
    sum_by (λ b. count_by (λ f. f) (map p (range_with_len (a + b * frag) frag))) (range_with_len k n)
    ≡ count_by p (range_with_len (a + k * frag) (n * frag))
blocks_join p a frag k zero = let q : zero * frag ≡ 0 = omega arith in rw q refl
blocks_join p a frag k (suc n) =
    let more : suc n * frag ≡ frag + n * frag = omega arith in
    let moved : a + (k + 1) * frag ≡ a + k * frag + frag = omega arith in
    let bits = λ (b : ℕ). count_by (λ f. f) (map p (range_with_len (a + b * frag) frag)) in
    let first = sum_by-cons bits k (range_with_len (k + 1) n) in
    let here = bit_count p (range_with_len (a + k * frag) frag) in
    let rest = rw moved at (blocks_join p a frag (k + 1) n) in
    rw more (omega (arith, range_join (λ x. cond (p x) 1 0) (a + k * frag) frag (n * frag)))

whole_count : (bits : List Bool) → is_free_block bits ≡ true → count_by (λ b. b) bits ≡ length bits
whole_count [] e = refl
whole_count (true ∷ bits) e = omega (arith, sum_by-cons (λ b. cond b 1 0) true bits, whole_count bits e)
whole_count (false ∷ bits) e = absurd (cc)

-- frag for each that is whole, and what the others have
one_kind : (whole : Bool) (some frag count rest all : ℕ) → (whole ≡ true → some ≡ frag) → frag * count + rest ≡ all →
    frag * (cond whole 1 0 + count) + (cond whole 0 some + rest) ≡ some + all
one_kind true some frag count rest all h e = omega (arith, h refl)
one_kind false some frag count rest all h e = omega arith

both_kinds : (whole : ℕ → Bool) (some : ℕ → ℕ) (frag : ℕ) → ((b : ℕ) → whole b ≡ true → some b ≡ frag) → (bs : List ℕ) →
    frag * count_by whole bs + sum_by (λ b. if whole b then 0 else some b) bs ≡ sum_by some bs
both_kinds whole some frag h [] = omega arith
both_kinds whole some frag h (b ∷ bs) =
    let count = sum_by-cons (λ x. cond (whole x) 1 0) b bs in
    let other = sum_by-cons (λ b. if whole b then 0 else some b) b bs in
    let all = sum_by-cons some b bs in
    rw (count, other, all) (one_kind (whole b) (some b) frag _ _ _ (h b) (both_kinds whole some frag h bs))

pub sums_whole : SumsAreWhole
unfolding right_group_counts
sums_whole v free class c some even =
    let bits = block_bits v free c in
    let kinds = both_kinds (λ b. is_free_block (bits b)) (λ b. count_by (λ f. f) (bits b)) v.frag
    (λ b e. whole_count (bits b) e ∙ length-map-range_with_len free _ v.frag) (block_numbers v) in
    let start : cgbase v c + 0 * v.frag ≡ cgbase v c = omega arith in
    let size : v.fpg / v.frag * v.frag ≡ v.fpg = omega (arith, div-add-mod' v.fpg v.frag, even) in
    rw (start, size) at (kinds ∙ blocks_join free (cgbase v c) v.frag 0 (v.fpg / v.frag))
