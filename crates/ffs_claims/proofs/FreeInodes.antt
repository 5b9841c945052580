-- An inode whose bytes say that it is free is free, and free inodes are passed over.
use Rattle.std.proofs.Common.{◌≡◌, ◌*◌, ◌+◌, ◌-◌, ◌<◌, ◌≤◌, ◌++◌, ℕ, zero, suc, false, true, List, [], ◌∷◌, length}
use Rattle.std.proofs.Common.{replicate, Option, arith, inl, inr, refl, ap, ◌∙◌, sym, subst, drop, take, map, vec_len}
use Rattle.std.proofs.lemmas.{Bool.{cases_lt, Decides.nat_tests}, List.{length-drop, length-take-le, take-append-drop}}
use Rattle.std.specs.List.{range_with_len, slice_range}
use Rattle.ffs_image.specs.Device.{ForContents}
use Rattle.ffs_volume.specs.Blocks.Inodes.{any_nonzero, class_of, inode_from_bytes, inode_of, inodes_of}
use Rattle.ffs_volume.specs.{Blocks.Steps.address_in, Disk.Numbers.{number, u16_at, u32_at, u64_at}}
use Rattle.ffs_volume.specs.Blocks.{BlockCheck.lines_of_owners, Claims.{Claims, after_owner, after_steps}}
use Rattle.ffs_volume.specs.{Blocks.{Claims.at_next_inode, Owners.owner_of}, declared.Class.TheVariants.Free}
use Rattle.ffs_volume.specs.declared.{Inode.Inode, Layout.Layout, Order.{Order, TheVariants.{Little, Big}}}
use Rattle.ffs_volume.{specs.Blocks.KeptSteps.claims_before, proofs.OwnerLaws.before_next}
use Rattle.ffs_walk.{specs.{Windows.{WindowHolds, held_bytes}, declared.window.Window.Window}, proofs.WordBytes.no_byte}
use Rattle.ffs_workspace.{specs.{Tables.IsTableOf, declared.table.Table.Table}, proofs.TablePlaces.held_there}
use Rattle.ffs_workspace.specs.{Holds.claims_of, Lengths.IsFor, declared.workspace.Workspace.Workspace}
use Rattle.ffs_claims.{proofs.{Inodes.free_steps, Numbers.{FoundTo, found_next, stored_free}}, specs.Lines.of_lines}
use Rattle.ffs_claims.specs.{Lines.owners_from, FreeInodes.{HasTableInodes, IsFreeInode, inode_bytes, is_free_by}}

-- a list with no number but zero
zeros_are : (xs : List ℕ) → any_nonzero xs ≡ false → xs ≡ replicate (length xs) 0
zeros_are [] none = refl
zeros_are (zero ∷ xs) none = ap (λ ys. 0 ∷ ys) (zeros_are xs none)
zeros_are (suc x ∷ xs) none = absurd (grind (arith, nat_tests, none))

-- a list that begins with n zeros
begins_zero : (n : ℕ) (xs : List ℕ) → n ≤ length xs → any_nonzero (take n xs) ≡ false → xs ≡ replicate n 0 ++ drop n xs
begins_zero n xs long none =
    let many : length (take n xs) ≡ n = length-take-le n xs long in
    sym (take-append-drop n xs) ∙ ap (λ ys. ys ++ drop n xs) (zeros_are (take n xs) none ∙ ap (λ k. replicate k 0) many)

-- the mode and the size, where no byte up to the end of the size is set
mode_zero : (order : Order) (rest : List ℕ) → number order 2 (replicate 16 0 ++ rest) ≡ 0
unfolding number
mode_zero Little rest = refl
mode_zero Big rest = refl

size_zero : (order : Order) (rest : List ℕ) → number order 8 (drop 8 (replicate 16 0 ++ rest)) ≡ 0
unfolding number
size_zero Little rest = refl
size_zero Big rest = refl

-- the fields of an inode that are 0
record HasZeros (i : Inode) : Type 0 where
  mode : i.mode ≡ 0
  size : i.size ≡ 0
  addresses : any_nonzero i.addresses ≡ false

free_class : (v : Layout) (i : Inode) → HasZeros i → class_of v i ≡ Free
unfolding class_of
free_class v i z = rw (z.mode, z.size, z.addresses) refl

-- an inode whose bytes say that it is free
zeros_of : (v : Layout) (inode : List ℕ) → length inode ≡ 128 → is_free_by inode ≡ true →
    HasZeros (inode_from_bytes v.order inode)
unfolding inode_from_bytes u16_at u64_at
zeros_of v inode long free =
    let parts : (any_nonzero (take 16 inode) ≡ false) × (any_nonzero (take 64 (drop 40 inode)) ≡ false) = grind (arith, free) in
    let begins = begins_zero 16 inode (omega (arith, long)) parts.0 in
    let address : (k : ℕ) → 10 ≤ k → k < 26 → address_in v inode k ≡ 0 =
    λ k low high. no_byte v inode 10 16 k (omega (arith, long)) parts.1 low high in
    record {
      mode = ap (λ xs. number v.order 2 xs) begins ∙ mode_zero v.order (drop 16 inode);
      size = ap (λ xs. number v.order 8 (drop 8 xs)) begins ∙ size_zero v.order (drop 16 inode);
      addresses = none_set (λ j. u32_at v.order (40 + 4 * j) inode) 15 0
          (λ j low high. subst (λ k. u32_at v.order k inode ≡ 0) (place j) (address (10 + j) (omega arith) (omega (arith, high))));
    }
  where
    place : (j : ℕ) → 4 * (10 + j) ≡ 40 + 4 * j
    place j = omega arith

    none_set : (word : ℕ → ℕ) (n first : ℕ) → ((j : ℕ) → first ≤ j → j < first + n → word j ≡ 0) →
        any_nonzero (map word (range_with_len first n)) ≡ false
    none_set word zero first zeros = refl
    none_set word (suc n) first zeros =
        let now = zeros first (omega arith) (omega arith) in
        let rest = none_set word n (first + 1) (λ j low high. zeros j (omega (arith, low)) (omega (arith, high))) in
        rw (now, rest) refl

-- inodes that are free by their bytes, and one more
pub free_next : {t : Table} {number next : ℕ} → ((x : ℕ) → number ≤ x → x < next → IsFreeInode t x) → IsFreeInode t next →
    (x : ℕ) → number ≤ x → x < next + 1 → IsFreeInode t x
free_next {t = t} {next = next} before now x low high = elim (cases_lt x next) [
  | inl below ↦ before x low below
  | inr there ↦ subst (λ y. IsFreeInode t y) (omega (arith, there, high)) now
]

-- the window has the bytes of the inodes of the volume that it holds
pub has_inodes : {v : Layout} {contents : Option (List ℕ)} {t : Table} → IsTableOf v t →
    WindowHolds contents t.window → HasTableInodes t
has_inodes made holds = record { inside = λ x has. (made.inodes x has).inside; fits = holds.fits }

length_of : (w : Window) (at : ℕ) → w.length ≤ vec_len w.buffer → at + 128 ≤ w.length →
    length (slice_range (held_bytes w) at (at + 128)) ≡ 128
length_of w at fits inside = grind (arith, length-take-le, length-drop)

-- an inode of the volume whose bytes in the window say that it is free is free
pub free_by_bytes : {v : Layout} {contents : Option (List ℕ)} {t : Table} {x : ℕ} → IsTableOf v t →
    WindowHolds contents t.window → IsFreeInode t x →
    ForContents contents (λ bytes. class_of v (inode_of v bytes x) ≡ Free)
unfolding inode_of
free_by_bytes {v = v} {contents = contents} {t = t} {x = x} made holds is = λ bytes e.
    let there = held_there v contents x t made holds is.held in
    let long = length_of t.window (128 * (x - t.first)) holds.fits there.inside in
    ap (λ bs. class_of v (inode_from_bytes v.order bs)) (sym (there.bytes bytes e))
    ∙ free_class v _ (zeros_of v (inode_bytes t x) long is.free)

-- a free inode claims nothing, and nothing is reported of it
pub free_claims : (v : Layout) (bytes : List ℕ) (x : ℕ) (s : Claims) → class_of v (inode_of v bytes x) ≡ Free →
    after_owner v s (owner_of v bytes x) ≡ at_next_inode s
unfolding owner_of
free_claims v bytes x s free = ap (after_steps v (at_next_inode s)) (free_steps v _ bytes free)

lines_one : (v : Layout) (bytes : List ℕ) (s : Claims) (n : ℕ) → n < inodes_of v → class_of v (inode_of v bytes n) ≡ Free →
    of_lines (lines_of_owners v s (owners_from v bytes n))
    ≡ of_lines (lines_of_owners v (at_next_inode s) (owners_from v bytes (n + 1)))
unfolding owner_of
lines_one v bytes s n low free = grind (arith, free_claims, free_steps)

-- ---- the inodes before a number are looked at
abbrev pub begun_of : Workspace → Workspace
begun_of w = record w { bad = 0; dup_offers = 0; kept = 0; tail = false }

pub record StandsAt (v : Layout) (bytes : List ℕ) (w : Workspace) (n : ℕ) : Type 0 where
  pub claims : claims_of w ≡ claims_before v bytes n
  pub found : FoundTo v bytes w n

-- the inodes from n on and before m are free
abbrev pub AreFree : Layout → List ℕ → ℕ → ℕ → Type 0
AreFree v bytes n m = (x : ℕ) → n ≤ x → x < m → class_of v (inode_of v bytes x) ≡ Free

stands_next : {v : Layout} {bytes : List ℕ} {w : Workspace} {n : ℕ} → 2 ≤ n → n < inodes_of v → IsFor v w →
    class_of v (inode_of v bytes n) ≡ Free → StandsAt v bytes w n → StandsAt v bytes (begun_of w) (n + 1)
stands_next {v = v} {bytes = bytes} {w = w} {n = n} low high made free at =
    let now : at_next_inode (claims_of w) ≡ after_owner v (claims_before v bytes n) (owner_of v bytes n) =
    sym (free_claims v bytes n (claims_of w) free) ∙ ap (λ t. after_owner v t (owner_of v bytes n)) at.claims in
    record {
      claims = now ∙ sym (before_next v bytes n low);
      found = found_next low high made now (rw free (stored_free (inode_of v bytes n) at.found)) at.found;
    }

stands_over : {v : Layout} {bytes : List ℕ} {w : Workspace} (n k : ℕ) → 2 ≤ n → n + suc k ≤ inodes_of v → IsFor v w →
    AreFree v bytes n (n + suc k) → StandsAt v bytes w n → StandsAt v bytes (begun_of w) (n + suc k)
stands_over n zero low high made free at = stands_next low (omega (arith, high)) made (free n (omega arith) (omega arith)) at
stands_over {v = v} {bytes = bytes} {w = w} n (suc k) low high made free at =
    let first = stands_next low (omega (arith, high)) made (free n (omega arith) (omega arith)) at in
    let rest = stands_over {w = begun_of w} (n + 1) k (omega (arith, low)) (omega (arith, high))
    (grind (arith, made)) (λ x from below. free x (omega (arith, from)) (omega (arith, below))) first in
    subst (λ m. StandsAt v bytes (begun_of w) m) (omega arith) rest

lines_over : (v : Layout) (bytes : List ℕ) (s : Claims) (n k : ℕ) → n + suc k ≤ inodes_of v →
    AreFree v bytes n (n + suc k) → of_lines (lines_of_owners v s (owners_from v bytes n))
    ≡ of_lines (lines_of_owners v (at_next_inode s) (owners_from v bytes (n + suc k)))
lines_over v bytes s n zero high free = lines_one v bytes s n (omega (arith, high)) (free n (omega arith) (omega arith))
lines_over v bytes s n (suc k) high free = lines_one v bytes s n (omega (arith, high)) (free n (omega arith) (omega arith))
    ∙ lines_over v bytes (at_next_inode s) (n + 1) k (omega (arith, high))
    (λ x from below. free x (omega (arith, from)) (omega (arith, below)))
    ∙ ap (λ m. of_lines (lines_of_owners v (at_next_inode s) (owners_from v bytes m))) (omega arith)

-- free inodes are passed over, one or more
pub stands_later : {v : Layout} {bytes : List ℕ} {w : Workspace} {n m : ℕ} → 2 ≤ n → n < m → m ≤ inodes_of v →
    IsFor v w → AreFree v bytes n m → StandsAt v bytes w n → StandsAt v bytes (begun_of w) m
stands_later {v = v} {bytes = bytes} {w = w} {n = n} {m = m} low some high made free at =
    let e : n + suc (m - n - 1) ≡ m = omega (arith, some) in
    subst (λ x. StandsAt v bytes (begun_of w) x) e (stands_over n (m - n - 1) low (omega (arith, e, high)) made
    (λ x from below. free x from (omega (arith, e, below))) at)

pub lines_later : (v : Layout) (bytes : List ℕ) (s : Claims) (n m : ℕ) → n < m → m ≤ inodes_of v →
    AreFree v bytes n m → of_lines (lines_of_owners v s (owners_from v bytes n))
    ≡ of_lines (lines_of_owners v (at_next_inode s) (owners_from v bytes m))
lines_later v bytes s n m some high free =
    let e : n + suc (m - n - 1) ≡ m = omega (arith, some) in
    lines_over v bytes s n (m - n - 1) (omega (arith, e, high)) (λ x from below. free x from (omega (arith, e, below)))
    ∙ ap (λ x. of_lines (lines_of_owners v (at_next_inode s) (owners_from v bytes x))) e
