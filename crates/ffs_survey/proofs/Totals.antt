-- The sums over a list of directories and over all of them, and steps of the count over entries.
use Rattle.std.proofs.Common.{◌≡◌, ℕ, zero, suc, ◌+◌, ◌*◌, ◌<◌, ◌≤◌, ◌==◌, nat_lt, Bool, true, false, not, cond, ◌&&◌}
use Rattle.std.proofs.Common.{◌||◌, List, [], ◌∷◌, refl, arith, ◌∙◌, ap, inl, inr, sum_by, length, count_by, drop}
use Rattle.std.proofs.{Common.get_or, lemmas.Bool.{both_ways, cases_lt, cond-true, cond-false, and_parts, and_from}}
use Rattle.std.proofs.lemmas.Bool.{or_left, or_right, or_cases, lt-ltb, le-ltb, Decides.nat_tests}
use Rattle.std.{proofs.lemmas.List.{Sums.sum_by-cons, at_drop_more}, specs.List.list_any}
use Rattle.ffs_volume.proofs.{Booleans.both_imply, SearchLaws.{some_below-from, some_below-gives, some_below-suc}}
use Rattle.ffs_volume.specs.Directories.{Graph.{Graph, is_naming_dir, is_naming_entry}, Roles.{RoledEntry, refers}}
use Rattle.ffs_volume.specs.{Disk.Search.{first_below, some_below}, Encodings.Kinds.is_dir_at}
use Rattle.ffs_volume.specs.Costs.DirectoryReads.{costs_below}
use Rattle.ffs_survey.proofs.Frontiers.{occurrences-cases, occurrences-cons, occurrences-nil, occurrences-head, bit-one}
use Rattle.ffs_survey.specs.Discover.{bit, occurrences, count_of, any_of, counted_by, count_in, any_in}
use Rattle.ffs_survey.{specs.Survey.{counted_in, counted_below, number_at, bool_at, graph_with}, proofs.Remaining.none}
use Rattle.ffs_survey.proofs.Remaining.{never, Counts}

abbrev part : (ℕ → ℕ) → ℕ → List ℕ → ℕ
part c n q = sum_by (λ s. cond (nat_lt s n) (c s) 0) q

abbrev here : ℕ → ℕ → List ℕ → ℕ
here k n q = sum_by (λ s. cond (s == n) k 0) q

pub bit-times : (b : Bool) (k : ℕ) → cond b k 0 ≡ bit b * k
bit-times true k = omega arith
bit-times false k = omega arith

-- a number adds its share as often as it is there
here-times : (k n : ℕ) (q : List ℕ) → here k n q ≡ occurrences n q * k
here-times k n [] = rw (occurrences-nil n) (omega arith)
here-times k n (y ∷ q) = rw (occurrences-cons n y q)
    (omega (arith, sum_by-cons (λ s. cond (s == n) k 0) y q, here-times k n q, bit-times (y == n) k))

part-suc : (c : ℕ → ℕ) (n : ℕ) (q : List ℕ) → part c (suc n) q ≡ part c n q + here (c n) n q
part-suc c n [] = refl
part-suc c n (y ∷ q) =
    let a = sum_by-cons (λ s. cond (nat_lt s (suc n)) (c s) 0) y q in
    let b = sum_by-cons (λ s. cond (nat_lt s n) (c s) 0) y q in
    grind (arith, a, b, sum_by-cons (λ s. cond (s == n) (c n) 0) y q, part-suc c n q, nat_tests)

part-zero : (c : ℕ → ℕ) (q : List ℕ) → part c 0 q ≡ 0
part-zero c [] = refl
part-zero c (y ∷ q) = grind (arith, sum_by-cons, cond-false, le-ltb, part-zero c q)

part-is : (c : ℕ → ℕ) (r : ℕ → Bool) (q : List ℕ) → ((s : ℕ) → occurrences s q ≡ bit (r s)) → (n : ℕ) →
    part c n q ≡ costs_below r c n
part-is c r q h zero = part-zero c q
part-is c r q h (suc n) = grind (arith, part-suc c n q, part-is c r q h n, here-times, bit-times)

-- a list of numbers below n is whole below n
part-whole : (c : ℕ → ℕ) (n : ℕ) (q : List ℕ) → ((s : ℕ) → n ≤ s → occurrences s q ≡ 0) → sum_by c q ≡ part c n q
part-whole c n [] h = refl
part-whole c n (y ∷ q) h =
    let low : y < n = (elim (cases_lt y n)
    [ inl l ↦ l | inr g ↦ absurd (omega (arith, h y g, occurrences-head y q)) ]) in
    let d = cond-true (nat_lt y n) (c y) 0 (lt-ltb y n low) in
    let r = part-whole c n q (λ s g. omega (arith, h s g, occurrences-cons s y q)) in
    omega (arith, sum_by-cons c y q, sum_by-cons (λ s. cond (nat_lt s n) (c s) 0) y q, d, r)

-- the costs of a list that holds each that passes once
pub costs_once : (c : ℕ → ℕ) (r : ℕ → Bool) (q : List ℕ) (n : ℕ) → ((s : ℕ) → occurrences s q ≡ bit (r s)) →
    ((s : ℕ) → n ≤ s → r s ≡ false) → sum_by c q ≡ costs_below r c n
costs_once c r q n h past = part-whole c n q (λ s l. h s ∙ ap bit (past s l)) ∙ part-is c r q h n

costs-counted : (r : ℕ → Bool) (g : Graph) (x n : ℕ) → costs_below r (λ s. counted_in g s x) n ≡ counted_by r g x n
unfolding counted_by
costs-counted r g x zero = refl
costs-counted r g x (suc n) = ap (λ z. z + cond (r n) (counted_in g n x) 0) (costs-counted r g x n)

-- the count over a list that holds each that passes once
pub count_all : (g : Graph) (r : ℕ → Bool) (q : List ℕ) (n x : ℕ) → ((s : ℕ) → occurrences s q ≡ bit (r s)) →
    ((s : ℕ) → n ≤ s → r s ≡ false) → count_of g q x ≡ counted_by r g x n
count_all g r q n x h past = costs_once (λ s. counted_in g s x) r q n h past ∙ costs-counted r g x n

any-gives : (p : ℕ → Bool) (q : List ℕ) → list_any p q ≡ true → (y : ℕ) × (1 ≤ occurrences y q) × (p y ≡ true)
any-gives p [] h = absurd (cc)
any-gives p (y ∷ q) h =
    elim (or_cases (p y) (list_any p q) h) [
      | inl a ↦ (y, occurrences-head y q, a)
      | inr b ↦ let r = any-gives p q b in (r.0, omega (arith, occurrences-cons r.0 y q, r.1), r.2)
    ]

any-from : (p : ℕ → Bool) (q : List ℕ) (y : ℕ) → 1 ≤ occurrences y q → p y ≡ true → list_any p q ≡ true
any-from p [] y l h = absurd (omega (arith, occurrences-nil y))
any-from p (z ∷ q) y l h =
    elim (occurrences-cases y z q l) [
      | inl same ↦ or_left (p z) (list_any p q) (ap p same ∙ h)
      | inr m ↦ or_right (p z) (list_any p q) (any-from p q y m h)
    ]

pub any_all : (g : Graph) (r : ℕ → Bool) (q : List ℕ) (n x : ℕ) → ((s : ℕ) → occurrences s q ≡ bit (r s)) →
    ((s : ℕ) → n ≤ s → r s ≡ false) → any_of g q x ≡ some_below (λ s. r s && is_naming_dir g s x) n
any_all g r q n x h past = both_imply (any_of g q x) (some_below (λ s. r s && is_naming_dir g s x) n)
    (λ y. let w = any-gives (λ s. is_naming_dir g s x) q y in
    let m = bit-one (r w.0) _ (h w.0) w.1 in
    let l : w.0 < n = (elim (cases_lt w.0 n) [ inl l ↦ l | inr b ↦ absurd (both_ways (r w.0) (past w.0 b) m) ]) in
    some_below-from (λ s. r s && is_naming_dir g s x) n w.0 l (and_from (r w.0) (is_naming_dir g w.0 x) m w.2))
    (λ t. let w = some_below-gives (λ s. r s && is_naming_dir g s x) n t in
    let p = and_parts (r w.0) (is_naming_dir g w.0 x) w.1.passes in
    any-from (λ s. is_naming_dir g s x) q w.0 (omega (arith, h w.0, ap bit p.0)) p.1)

-- the two parts of a whole
pub counted_both : (r : ℕ → Bool) (g : Graph) (x n : ℕ) → counted_by r g x n + counted_by (λ s. not (r s)) g x n
    ≡ counted_below g x n
unfolding counted_by counted_below
counted_both r g x zero = refl
counted_both r g x (suc n) = let h = counted_both r g x n in grind arith

pub some_both : (r p : ℕ → Bool) (n : ℕ) → (some_below (λ s. r s && p s) n || some_below (λ s. not (r s) && p s) n)
    ≡ some_below p n
unfolding first_below
some_both r p zero = refl
some_both r p (suc n) =
    let a = some_below-suc (λ s. r s && p s) n in
    let b = some_below-suc (λ s. not (r s) && p s) n in
    let d = some_below-suc p n in
    let h = some_both r p n in
    grind arith

-- ---- steps of the count over entries and directories
count_by-step : {X : Type 0} (p : X → Bool) (e : X) (rest : List X) →
    count_by p (e ∷ rest) ≡ bit (p e) + count_by p rest
count_by-step p e rest = omega (arith, sum_by-cons (λ x. cond (p x) 1 0) e rest, bit-times (p e) 1)

-- the step of the loop over a directory
pub entry_counted : {n : ℕ} {c : ℕ → ℕ} {a : ℕ → Bool} {f f' f'' : List ℕ} {m m' m'' : List Bool} (e : RoledEntry)
    (rest : List RoledEntry) → Counts n c a f m (count_in (e ∷ rest)) (any_in (e ∷ rest)) f' m' →
    ((x : ℕ) → x < n → number_at f'' x ≡ number_at f' x + bit (refers x e)) →
    ((x : ℕ) → x < n → bool_at m'' x ≡ (bool_at m' x || is_naming_entry x e)) →
    Counts n c a f m (count_in rest) (any_in rest) f'' m''
entry_counted e rest h u w = record {
  counts = λ x l. omega (arith, u x l, count_by-step (refers x) e rest, h.counts x l);
  names = λ x l. let one = w x l in let two = h.names x l in grind arith;
}

-- the step of the loop over a level
pub dir_counted : {n : ℕ} {c : ℕ → ℕ} {a : ℕ → Bool} {f f' f'' : List ℕ} {m m' m'' : List Bool} (kinds : List ℕ)
    (entries : ℕ → List RoledEntry) (frontier : List ℕ) (i : ℕ) → i < length frontier →
    is_dir_at kinds (get_or frontier i 0) ≡ true →
    Counts n c a f m (count_of (graph_with kinds entries) (drop i frontier))
    (any_of (graph_with kinds entries) (drop i frontier)) f' m' →
    Counts n (count_in (entries (get_or frontier i 0))) (any_in (entries (get_or frontier i 0))) f' m' none never f''
    m'' → Counts n c a f m (count_of (graph_with kinds entries) (drop (i + 1) frontier))
    (any_of (graph_with kinds entries) (drop (i + 1) frontier)) f'' m''
dir_counted kinds entries frontier i l d h k =
    let g = graph_with kinds entries in
    let s = get_or frontier i 0 in
    let rest = drop (i + 1) frontier in
    record {
      counts = λ x b.
          let one = at_drop_more (λ z. count_of g z x) frontier i 0 l in
          let two = cond-true (is_dir_at kinds s) (count_in (entries s) x) 0 d in
          omega (arith, one, sum_by-cons (λ s. counted_in g s x) s rest, two, h.counts x b, k.counts x b);
      names = λ x b.
          let one = at_drop_more (λ z. any_of g z x) frontier i 0 l in
          let two = h.names x b in
          let three = k.names x b in
          grind arith;
    }
