-- Laws of `specs/Laws/Levels`.
use Rattle.std.proofs.Common.{◌≡◌, ℕ, zero, suc, ◌+◌, ◌-◌, ◌<◌, ◌≤◌, ◌==◌, true, ◌&&◌, ◌||◌, refl, Some, is_some, arith}
use Rattle.std.proofs.{Common.{◌∙◌, ap, inl, inr, eq-eqb}, lemmas.Bool.{cases_lt, and_parts, and_from, or_right}}
use Rattle.ffs_volume.proofs.{Pigeon.pigeon, SearchLaws.{is_some-value, some_below-gives, some_below-from}}
use Rattle.ffs_volume.{proofs.SearchLaws.{first_below-is, first_below-some}, specs.Directories.Graph.{Graph, within}}
use Rattle.ffs_volume.specs.{Directories.Graph.{level, edge, reached, parent}, Disk.Search.some_below}
use Rattle.ffs_volume.specs.Laws.Levels.{IsLevel}

pub within-suc : (v : Graph) (k d : ℕ) →
    within v (suc k) d ≡ (within v k d || some_below (λ s. within v k s && edge v s d) v.count)
unfolding within
within-suc v k d = refl

pub within-zero : (v : Graph) (d : ℕ) → within v 0 d ≡ (d == 2)
unfolding within
within-zero v d = refl

pub within-more : (v : Graph) (k d : ℕ) → within v k d ≡ true → within v (suc k) d ≡ true
within-more v k d h = let more = within-suc v k d in grind arith

pub within-step : (v : Graph) (k s d : ℕ) → s < v.count → within v k s ≡ true → edge v s d ≡ true →
    within v (suc k) d ≡ true
within-step v k s d l h e = search (arith, some_below-from, and_from, within-suc, or_right)

within-plus : (v : Graph) (i k d : ℕ) → within v k d ≡ true → within v (i + k) d ≡ true
within-plus v zero k d h = let q : 0 + k ≡ k = omega arith in rw q h
within-plus v (suc i) k d h =
    let q : suc i + k ≡ suc (i + k) = omega arith in rw q (within-more v (i + k) d (within-plus v i k d h))

pub within-grows : (v : Graph) (j k d : ℕ) → j ≤ k → within v j d ≡ true → within v k d ≡ true
within-grows v j k d l h = let q : (k - j) + j ≡ k = omega arith in rw q at (within-plus v (k - j) j d h)

pub level-before : (v : Graph) (k d : ℕ) → IsLevel v (suc k) d → (s : ℕ) × (s < v.count) × IsLevel v k s
    × (edge v s d ≡ true)
level-before v k d h =
    let more = within-suc v k d in
    let w = some_below-gives (λ s. within v k s && edge v s d) v.count (grind arith) in
    let p = and_parts (within v k w.0) (edge v w.0 d) w.1.passes in
    let b = w.1.below in
    let edges = λ (j : ℕ). within-step v j w.0 d b in
    (w.0, b, record { within_k = p.0; least = λ j l. let no = h.least (suc j) (omega arith) in grind arith }, p.1)

-- each level up to a level of an inode has an inode
pub level-each : (v : Graph) (k d : ℕ) → d < v.count → IsLevel v k d → (i : ℕ) → (s : ℕ) × (s < v.count)
    × (i ≤ k → IsLevel v i s)
level-each v zero d l h i = (d, l, grind arith)
level-each v (suc k) d l h i =
    let s = level-before v k d h in
    let r = level-each v k s.0 s.1 s.2 i in
    elim (cases_lt k i) [ inl a ↦ (d, l, grind arith) | inr a ↦ (r.0, r.1, grind arith) ]

-- levels are below the number of inodes
pub level-bound : (v : Graph) (k d : ℕ) → d < v.count → IsLevel v k d → k < v.count
level-bound v k d l h =
    elim (cases_lt k v.count) [
      | inl a ↦ a
      | inr a ↦
          let r = pigeon v.count (λ i. (level-each v k d l h i).0) (λ i b. (level-each v k d l h i).1) in
          absurd (grind (arith, level-each))
    ]

pub level-is : (v : Graph) (k d : ℕ) → d < v.count → IsLevel v k d → level v d ≡ Some k
unfolding level
level-is v k d l h = search (arith, first_below-is, level-bound)

pub level-some : (v : Graph) (k d : ℕ) → level v d ≡ Some k → IsLevel v k d × (k < v.count)
unfolding level
level-some v k d e = grind (arith, first_below-some)

-- however many edges a walk has, its end is reached
pub level-from : (v : Graph) (k d : ℕ) → d < v.count → within v k d ≡ true → (j : ℕ) × (j ≤ k) × (level v d ≡ Some j)
level-from v k d l h =
    let w = some_below-gives (λ j. within v j d) (suc k)
    (some_below-from (λ j. within v j d) (suc k) k (omega arith) h) in
    grind (arith, level-is)

pub reached-from : (v : Graph) (k d : ℕ) → d < v.count → within v k d ≡ true → reached v d ≡ true
reached-from v k d l h = let j = level-from v k d l h in ap is_some j.2

pub reached-level : (v : Graph) (d : ℕ) → reached v d ≡ true → (k : ℕ) × (level v d ≡ Some k)
reached-level v d h = is_some-value (level v d) h

-- an edge from a reached directory leads to a reached one
pub reached-edge : (v : Graph) (s d : ℕ) → s < v.count → d < v.count → reached v s ≡ true → edge v s d ≡ true →
    reached v d ≡ true
reached-edge v s d a b h e =
    let k = reached-level v s h in
    reached-from v (suc k.0) d b (within-step v k.0 s d a (level-some v k.0 s k.1).0.within_k e)

pub reached-root : (v : Graph) → 2 < v.count → reached v 2 ≡ true
reached-root v l = reached-from v 0 2 l (within-zero v 2 ∙ eq-eqb 2 2 refl)

pub parent-root : (v : Graph) → parent v 2 ≡ Some 2
unfolding parent
parent-root v = refl
