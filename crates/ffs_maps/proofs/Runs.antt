-- Which fragments are reserved, and how many.
use Rattle.std.proofs.Common.{◌≡◌, ◌⊎◌, inl, inr, ℕ, ◌+◌, ◌-◌, ◌*◌, ◌/◌, ◌<◌, ◌≤◌, Bool, true, false}
use Rattle.std.proofs.Common.{◌&&◌, ◌||◌, nat_lt, nat_le, count_by, max, min, arith, refl, ap, ◌∙◌, sym, cond}
use Rattle.std.{proofs.Math.Nat.mul_comm, specs.{List.{range_with_len, sum_by}, Int.div_ceil}}
use Rattle.std.proofs.lemmas.{Nat.mul-le, Bool.{cases_lt, Decides.nat_tests}}
use Rattle.std.proofs.lemmas.Bool.{lt-ltb, le-ltb, le-leb, lt-leb, and_from, and_left, and_right}
use Rattle.ffs_volume.specs.{declared.Layout.Layout, Laws.Geometry.IsAcceptedLayout}
use Rattle.ffs_volume.specs.Disk.Areas.{cgbase, cgstart, cgsblock, cgdmin, is_group_metadata, is_reserved}
use Rattle.ffs_volume.proofs.AreaLaws.{is_in_metadata_of, is_metadata_of_group, group_is, group_below, no_metadata_past_size}
use Rattle.ffs_maps.{specs.Reserved.{IsReservedRun, IsStretch}, proofs.Counting.{count_join_at, sum_const}}
use Rattle.ffs_maps.specs.declared.reserved.Stretch.{Stretch}

-- ---- which fragments are reserved
any_of : (a b k : Bool) → (a ≡ true) ⊎ (b ≡ true) → ((a || b) || k) ≡ true
any_of a b k p1 = grind arith

last_length_of : (a b : Bool) → ((a || b) || true) ≡ true
last_length_of a b = grind arith

none_of : (a b k : Bool) → a ≡ false → b ≡ false → k ≡ false → ((a || b) || k) ≡ false
none_of a b k e f g = rw (e, f, g) refl

metadata_in : (v : Layout) (c f : ℕ) → IsAcceptedLayout v → cgbase v c ≤ f → f < cgbase v (c + 1) →
    is_group_metadata v f ≡ (nat_lt c v.ncg && is_in_metadata_of v c f)
metadata_in v c f g low high = grind (arith, is_metadata_of_group, group_is)

pub base_zero : (v : Layout) → cgbase v 0 ≡ 0
unfolding cgbase
base_zero v = omega arith

first_free : (v : Layout) (f : ℕ) → IsAcceptedLayout v → v.csaddr + div_ceil v.cssize v.fsize ≤ f → f < cgbase v (0 + 1)
    →
    is_reserved v f ≡ false
unfolding is_reserved
first_free v f g low high =
    none_of _ _ (is_group_metadata v f)
    (le-ltb f (cgdmin v 0) (omega (arith, low, g.summary.csaddr)))
    (and_right _ _ (le-ltb f _ low))
    (metadata_in v 0 f g (omega (arith, base_zero v)) high
    ∙ and_right _ _ (and_right _ _ (le-ltb f (cgdmin v 0) (omega (arith, low, g.summary.csaddr)))))

base_up : (v : Layout) (c : ℕ) → 1 ≤ c → cgbase v 1 ≤ cgbase v c
unfolding cgbase
base_up v c h = omega (arith, mul-le v.fpg 1 v.fpg c (omega arith) h)

parts_up : (v : Layout) (c : ℕ) → cgbase v c ≤ cgsblock v c
unfolding cgstart
parts_up v c = omega arith

-- in any other group, the part that it keeps
group_reserved : (v : Layout) (c f : ℕ) → IsAcceptedLayout v → c < v.ncg → cgsblock v c ≤ f → f < cgdmin v c →
    is_reserved v f ≡ true
unfolding is_reserved
group_reserved v c f g h low high =
    let group = g.groups c h in
    let kept : is_group_metadata v f ≡ true =
    metadata_in v c f g (omega (arith, parts_up v c, low)) (omega (arith, high, group.within_group))
    ∙ and_from _ _ (lt-ltb c v.ncg h) (and_from _ _ (le-leb _ f low) (lt-ltb f _ high)) in
    rw kept (last_length_of (nat_lt f (cgdmin v 0)) _)

group_free : (v : Layout) (c f : ℕ) → IsAcceptedLayout v → 1 ≤ c → cgbase v c ≤ f → f < cgbase v (c + 1) →
    (f < cgsblock v c) ⊎ (cgdmin v c ≤ f) → is_reserved v f ≡ false
unfolding is_reserved
group_free v c f g some low high apart =
    let past_summary : v.csaddr + div_ceil v.cssize v.fsize ≤ f =
    omega (arith, g.summary.summary_in_group, base_up v c some, low) in
    none_of _ _ (is_group_metadata v f) (le-ltb f (cgdmin v 0) (omega (arith, past_summary, g.summary.csaddr)))
    (and_right _ _ (le-ltb f _ past_summary))
    (metadata_in v c f g low high ∙ and_right _ _ (elim apart [
      | inl under ↦ and_left _ (nat_lt f (cgdmin v c)) (lt-leb (cgsblock v c) f under)
      | inr past ↦ and_right (nat_le (cgsblock v c) f) _ (le-ltb f (cgdmin v c) past)
    ]))

-- ---- the run of a group
pub first_run : (v : Layout) (c n : ℕ) → IsAcceptedLayout v → c < v.ncg → c ≡ 0 →
    n ≡ v.csaddr + div_ceil v.cssize v.fsize → IsReservedRun v c 0 n
unfolding is_reserved
first_run v c n g h is_zero is = grind (arith, base_zero, first_free, cases_lt, any_of, lt-ltb, and_from, le-leb)

pub other_run : (v : Layout) (c start end : ℕ) → IsAcceptedLayout v → c < v.ncg → (c ≡ 0 → ⊥) →
    start ≡ cgsblock v c → end ≡ cgdmin v c → IsReservedRun v c start end
other_run v c start end g h apart is is' =
    let some : 1 ≤ c = grind (arith, apart) in
    let group = g.groups c h in
    rw (is, is') (record {
      above = parts_up v c;
      order = omega (arith, g.parts.super_fits, g.parts.block_fits, g.parts.inodes_fit);
      within_group = group.within_group;
      within_size = group.within_size;
      inside = λ f low high. group_reserved v c f g h low high;
      outside = λ f low high aside. group_free v c f g some low high aside;
    })

-- ---- counts of runs
pub none_reserved : (v : Layout) (a n : ℕ) → ((k : ℕ) → k < n → is_reserved v (a + k) ≡ false) →
    0 ≡ count_by (is_reserved v) (range_with_len a n)
none_reserved v a n none =
    let no : sum_by (λ f. cond (is_reserved v f) 1 0) (range_with_len a n) ≡ n * 0 =
    sum_const (λ f. cond (is_reserved v f) 1 0) 0 a n (λ k h. ap (λ b. cond b 1 0) (none k h)) in
    omega (arith, no)

pub all_reserved : (v : Layout) (a n : ℕ) → ((k : ℕ) → k < n → is_reserved v (a + k) ≡ true) →
    n ≡ count_by (is_reserved v) (range_with_len a n)
all_reserved v a n all =
    let each : sum_by (λ f. cond (is_reserved v f) 1 0) (range_with_len a n) ≡ n * 1 =
    sum_const (λ f. cond (is_reserved v f) 1 0) 1 a n (λ k h. ap (λ b. cond b 1 0) (all k h)) in
    omega (arith, each)

-- the reserved fragments of a group, up to an end in it
reserved_in_group : (v : Layout) (c start last end : ℕ) → IsReservedRun v c start last → end ≤ cgbase v (c + 1) →
    last ≤ end → last - start ≡ count_by (is_reserved v) (range_with_len (cgbase v c) (end - cgbase v c))
reserved_in_group v c start last end run within order =
    let under = none_reserved v (cgbase v c) (start - cgbase v c)
    (λ k l. run.outside (cgbase v c + k) (omega arith) (omega (arith, l, run.order, run.within_group, run.above))
    (inl (omega (arith, l)))) in
    let own = all_reserved v start (last - start) (λ k l. run.inside (start + k) (omega arith) (omega (arith, l))) in
    let past = none_reserved v last (end - last)
    (λ k l. run.outside (last + k) (omega (arith, run.above, run.order)) (omega (arith, l, within))
    (inr (omega arith))) in
    let first = count_join_at (is_reserved v) (cgbase v c) start last (last - start) 0 (last - start) run.above
    (omega (arith, run.order)) under own in
    let all = count_join_at (is_reserved v) (cgbase v c) last end (end - last) (last - start) 0
    (omega (arith, run.above, run.order)) (omega (arith, order)) (sym (omega (arith, first))) past in
    omega (arith, all)

-- ---- the groups one after the other
base_within : (v : Layout) (c : ℕ) → IsAcceptedLayout v → c < v.ncg → min (cgbase v c) v.size ≡ cgbase v c
unfolding cgbase
base_within v c g h = grind (arith, mul-le, mul_comm)

pub groups_begin : (v : Layout) → min (cgbase v 0) v.size ≡ 0
groups_begin v = omega (arith, base_zero v)

pub groups_end : (v : Layout) → IsAcceptedLayout v → min (cgbase v v.ncg) v.size ≡ v.size
unfolding cgbase
groups_end v g = omega (arith, g.numbers.size_within, mul_comm v.ncg v.fpg)

pub group_more : (v : Layout) (c x start end : ℕ) → IsAcceptedLayout v → c < v.ncg → IsReservedRun v c start end →
    x ≡ count_by (is_reserved v) (range_with_len 0 (min (cgbase v c) v.size)) →
    x + (end - start) ≡ count_by (is_reserved v) (range_with_len 0 (min (cgbase v (c + 1)) v.size))
unfolding cgbase
group_more v c x start end g h run counted =
    let at = base_within v c g h in
    let from_zero : cgbase v c - 0 ≡ cgbase v c = omega arith in
    let last = min (cgbase v (c + 1)) v.size in
    let all : last - 0 ≡ last = omega arith in
    count_join_at (is_reserved v) 0 (cgbase v c) last (last - cgbase v c) x (end - start) (omega arith)
    (grind (arith, at, mul-le))
    (counted ∙ ap (λ j. count_by (is_reserved v) (range_with_len 0 j)) (at ∙ sym from_zero))
    (reserved_in_group v c start end last run (omega arith) (omega (arith, run.within_group, run.within_size)))
    ∙ ap (λ j. count_by (is_reserved v) (range_with_len 0 j)) all

-- ---- stretches
-- none is reserved from the volume's end on
pub none_past_size : (v : Layout) (f : ℕ) → IsAcceptedLayout v → v.size ≤ f → is_reserved v f ≡ false
unfolding is_reserved
none_past_size v f g h = grind (arith, no_metadata_past_size)

-- how many are reserved of the first ones of a stretch
pub stretch_counts : (v : Layout) (f next n : ℕ) (s : Stretch) (b : Bool) → IsStretch v f s → f ≤ next → next ≤ s.end →
    b ≡ s.reserved → n ≡ cond b (next - f) 0 → n ≡ count_by (is_reserved v) (range_with_len f (next - f))
stretch_counts v f next n s true h order within is counted = grind (arith, all_reserved)
stretch_counts v f next n s false h order within is counted = grind (arith, none_reserved)

-- the reserved ones up to the volume's end are all of them
pub counted_to_end : (v : Layout) (start fragment end x : ℕ) → IsAcceptedLayout v → start ≤ fragment → fragment ≤ max start (min end v.size) →
    min end v.size ≤ fragment → start ≤ end → x ≡ count_by (is_reserved v) (range_with_len start (fragment - start)) →
    x ≡ count_by (is_reserved v) (range_with_len start (end - start))
counted_to_end v start fragment end x g from_ within past order counted =
    let rest = none_reserved v fragment (end - fragment)
    (λ k l. none_past_size v (fragment + k) g (omega (arith, l, past))) in
    omega (
      arith,
      count_join_at (is_reserved v) start fragment end (end - fragment) x 0 from_
          (omega (arith, within, order)) counted rest,
    )

-- a group's base, and where it ends
pub group_of : (v : Layout) (f c : ℕ) → IsAcceptedLayout v → f < v.size → c ≡ f / v.fpg →
    (cgbase v c ≤ f) × (f < cgbase v (c + 1)) × (c < v.ncg)
unfolding cgbase
group_of v f c g h is = (grind arith, grind arith, omega (arith, group_below v f g h, is))

-- no fragment is of a group before the first one
pub none_before : (v : Layout) (f : ℕ) (r b : Bool) → b ≡ ((nat_lt f (cgbase v 0) && r) || b)
none_before v f r b = let z = base_zero v in grind (arith, nat_tests)

-- the groups end at the volume's end or after it
pub bases_end : (v : Layout) (c : ℕ) → IsAcceptedLayout v → c ≡ v.ncg → v.size ≤ cgbase v c
bases_end v c g is = let all = groups_end v g in rw is (omega (arith, all))
