-- The group whose parts are moved most, and the last one, speak for all.
use Rattle.std.proofs.Common.{◌≡◌, ◌∙◌, sym, ap, refl, arith, ℕ, ℤ, pos, negsuc, zero, suc, ◌*ℤ◌, ◌+◌, ◌-◌, ◌*◌, ◌^◌, ◌%◌}
use Rattle.std.proofs.Common.{◌<◌, ◌≤◌, ◌⊎◌, inl, inr, min, Bool, true, false, ◌&&◌, nat_le, bit_and, pow_pos, mod-lt}
use Rattle.std.proofs.Common.{mod-eq_of_lt, mul-le-mul_left, mul-add, mul-one, mul-pos, mul-zero, neg_ℤ, zero-mul}
use Rattle.std.proofs.lemmas.{Nat.{and_le_l, and_le_r, and_mod}, Bool.{and_parts, both_ways, cases_lt, Decides.nat_tests}}
use Rattle.std.specs.Int.Bits.{and_self}
use Rattle.ffs_volume.specs.{declared.Layout.Layout, Disk.Areas.{cgbase, cgoffset_of, cgstart}, Disk.Outcome.has_valid_group}
use Rattle.ffs_volume.specs.Disk.Numbers.{all_below, is_nonnegative, zero_if_negative}
use Rattle.ffs_volume.proofs.Below.{all_below-fails, all_below-from}
use Rattle.ffs_layout.specs.MovedGroups.{IsMovedMost, moves}

-- the bits that a mask takes of a number below a power of 2 are those of the mask below that power
and_below : (c m k : ℕ) → c < 2 ^ k → bit_and c m ≡ bit_and c (m % 2 ^ k)
and_below c m k low =
    let less = and_le_l c m in
    let small : bit_and c m < 2 ^ k = omega (arith, less, low) in
    sym (mod-eq_of_lt small) ∙ and_mod c m k ∙ ap (λ n. bit_and n (m % 2 ^ k)) (mod-eq_of_lt low)

-- all of these are taken of the number that is made of them, and of no number more
pub taken_most : (v : Layout) (k : ℕ) → v.ncg ≤ 2 ^ k → IsMovedMost v ((4294967295 - v.cgmask) % 2 ^ k)
taken_most v k high has c low =
    let m = 4294967295 - v.cgmask in
    let most = m % 2 ^ k in
    let some : most < 2 ^ k = mod-lt m (pow_pos k) in
    let all : moves v most ≡ most = and_below most m k some ∙ and_self most in
    let here = and_below c m k (omega (arith, low, high)) in
    let less = and_le_r c most in
    inr (omega (arith, all, here, less))

-- a group with its parts moved by o, which are no negative number
abbrev is_valid_at : (fpg dblkno size c o : ℕ) → Bool
is_valid_at fpg dblkno size c o = nat_le (fpg * c + o + dblkno) (min (fpg * (c + 1)) size)

valid_gives : (fpg dblkno size c o : ℕ) → is_valid_at fpg dblkno size c o ≡ true →
    (o + dblkno ≤ fpg) × (fpg * c ≤ size)
valid_gives fpg dblkno size c o e =
    let one : fpg * (c + 1) ≡ fpg * c + fpg = mul-add fpg c 1 ∙ ap (λ n. fpg * c + n) (mul-one fpg) in
    let all : fpg * c + o + dblkno ≤ min (fpg * (c + 1)) size = grind (arith, nat_tests) in
    (omega (arith, one, all), omega (arith, all))

valid_from : (fpg dblkno size c o : ℕ) → o + dblkno ≤ fpg → fpg * (c + 1) ≤ size →
    is_valid_at fpg dblkno size c o ≡ true
valid_from fpg dblkno size c o low high =
    let one : fpg * (c + 1) ≡ fpg * c + fpg = mul-add fpg c 1 ∙ ap (λ n. fpg * c + n) (mul-one fpg) in
    let all : fpg * c + o + dblkno ≤ min (fpg * (c + 1)) size = omega (arith, one, low, high) in
    grind (arith, nat_tests)

-- a group before the last one is valid that is moved by no more than a valid one
less_moved : (fpg dblkno size c most last o p : ℕ) → c < last → o ≤ p → fpg * last ≤ size →
    is_valid_at fpg dblkno size most p ≡ true → is_valid_at fpg dblkno size c o ≡ true
less_moved fpg dblkno size c most last o p low less end one =
    let room = (valid_gives fpg dblkno size most p one).0 in
    let next : fpg * (c + 1) ≤ fpg * last = mul-le-mul_left fpg (omega (arith, low)) in
    valid_from fpg dblkno size c o (omega (arith, less, room)) (omega (arith, next, end))

-- the same by how often they are moved, by so many fragments, which may be a negative number
abbrev is_valid_by : ℤ → (fpg dblkno size c x : ℕ) → Bool
is_valid_by s fpg dblkno size c x =
    is_nonnegative (s *ℤ pos x) && is_valid_at fpg dblkno size c (zero_if_negative (s *ℤ pos x))

unmoved : (a : ℕ) → negsuc a *ℤ pos 0 ≡ pos 0
unmoved a = ap (λ n. neg_ℤ (pos n)) (mul-zero (suc a))

negative : (n : ℕ) → 0 < n → is_nonnegative (neg_ℤ (pos n)) ≡ false
negative zero some = absurd (omega (arith, some))
negative (suc n) some = refl

moved_less : (s : ℤ) (fpg dblkno size c most last x y : ℕ) → c < last → (s ≡ pos 0) ⊎ (x ≤ y) → fpg * last ≤ size →
    is_valid_by s fpg dblkno size most y ≡ true → is_valid_by s fpg dblkno size c x ≡ true
moved_less (pos a) fpg dblkno size c most last x y low less end one =
    let far : a * x ≤ a * y = elim less [
      | inl none ↦ grind (arith, zero-mul)
      | inr few ↦ mul-le-mul_left a few
    ] in
    less_moved fpg dblkno size c most last (a * x) (a * y) low far end one
moved_less (negsuc a) fpg dblkno size c most last x y low (inl none) end one = absurd (cc)
moved_less (negsuc a) fpg dblkno size c most last zero zero low (inr few) end one =
    let none = unmoved a in
    rw none (less_moved fpg dblkno size c most last 0 0 low (omega arith) end (rw none at one))
moved_less (negsuc a) fpg dblkno size c most last (suc x) zero low (inr few) end one = absurd (omega (arith, few))
moved_less (negsuc a) fpg dblkno size c most last x (suc y) low (inr few) end one =
    let no = negative (suc a * suc y) (mul-pos (omega arith) (omega arith)) in
    absurd (both_ways _ no (and_parts _ _ one).0)

valid_by : (v : Layout) (c : ℕ) → has_valid_group v c ≡ is_valid_by v.cgoffset v.fpg v.dblkno v.size c (moves v c)
unfolding has_valid_group cgbase cgstart cgoffset_of
valid_by v c = refl

valid_before : (v : Layout) (most c : ℕ) → c < v.ncg - 1 → (v.cgoffset ≡ pos 0) ⊎ (moves v c ≤ moves v most) →
    has_valid_group v most ≡ true → has_valid_group v (v.ncg - 1) ≡ true → has_valid_group v c ≡ true
valid_before v most c low less one last =
    let end = valid_gives v.fpg v.dblkno v.size (v.ncg - 1) _ (and_parts _ _ (sym (valid_by v (v.ncg - 1)) ∙ last)).1 in
    valid_by v c
    ∙ moved_less v.cgoffset v.fpg v.dblkno v.size c most (v.ncg - 1) (moves v c) (moves v most) low less end.1
    (sym (valid_by v most) ∙ one)

-- all groups are valid where the one that is moved most is, and the last one
all_valid : (v : Layout) (most : ℕ) → most < v.ncg → IsMovedMost v most → has_valid_group v most ≡ true →
    has_valid_group v (v.ncg - 1) ≡ true → all_below v.ncg (has_valid_group v) ≡ true
all_valid v most low moved one last = all_below-from v.ncg (has_valid_group v) (λ c below. elim (cases_lt c (v.ncg - 1)) [
  | inl before ↦ valid_before v most c before (moved low c below) one last
  | inr at ↦ let q : c ≡ v.ncg - 1 = omega (arith, at, below) in rw q last
])

pub last_speaks : (v : Layout) (most : ℕ) → most < v.ncg → IsMovedMost v most → has_valid_group v most ≡ true →
    (last : Bool) → last ≡ has_valid_group v (v.ncg - 1) → last ≡ all_below v.ncg (has_valid_group v)
last_speaks v most low moved one true e = sym (all_valid v most low moved one (sym e))
last_speaks v most low moved one false e =
    sym (all_below-fails v.ncg (v.ncg - 1) (has_valid_group v) (omega (arith, low)) (sym e))
