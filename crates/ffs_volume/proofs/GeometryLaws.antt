-- Laws of `specs/Laws/Geometry`.
use Rattle.std.proofs.{Common.{◌≡◌, ℕ, ◌*◌, ◌≤◌, true, None, arith}, lemmas.Bool.Decides.nat_tests}
use Rattle.ffs_volume.{specs.{declared.Layout.Layout, Disk.Numbers.all_below}, proofs.Below.all_below-at}
use Rattle.ffs_volume.specs.Disk.Outcome.{is_block_size, is_fragment_size, is_fragment_count, has_valid_sizes}
use Rattle.ffs_volume.specs.Disk.Outcome.{has_valid_numbers, has_valid_parts, has_valid_cylinders, has_valid_group}
use Rattle.ffs_volume.specs.Disk.Outcome.{has_valid_summary_area, is_valid_layout, layout_fault}
use Rattle.ffs_volume.specs.Laws.Geometry.{HasSizes, HasNumbers, HasGroup, HasSummaryArea, IsAcceptedLayout}

block_size : (n : ℕ) → is_block_size n ≡ true → (4096 ≤ n) × (n ≤ 65536)
unfolding is_block_size
block_size n e = grind (arith, nat_tests)

fragment_size : (n : ℕ) → is_fragment_size n ≡ true → (512 ≤ n) × (n ≤ 65536)
unfolding is_fragment_size
fragment_size n e = grind (arith, nat_tests)

fragment_count : (n : ℕ) → is_fragment_count n ≡ true → (1 ≤ n) × (n ≤ 8)
unfolding is_fragment_count
fragment_count n e = grind (arith, nat_tests)

pub sizes_hold : (v : Layout) → has_valid_sizes v ≡ true → HasSizes v
unfolding has_valid_sizes
sizes_hold v e =
    let b : is_block_size v.bsize ≡ true = grind (arith, nat_tests) in
    let f : is_fragment_size v.fsize ≡ true = grind (arith, nat_tests) in
    let k : is_fragment_count v.frag ≡ true = grind (arith, nat_tests) in
    let bb = block_size v.bsize b in let ff = fragment_size v.fsize f in let kk = fragment_count v.frag k in
    grind (arith, nat_tests)

pub numbers_hold : (v : Layout) → has_valid_numbers v ≡ true → HasNumbers v
unfolding has_valid_numbers
numbers_hold v e = grind (arith, nat_tests)

pub group_holds : (v : Layout) (c : ℕ) → has_valid_group v c ≡ true → HasGroup v c
unfolding has_valid_group
group_holds v c e = grind arith

pub summary_holds : (v : Layout) → has_valid_summary_area v ≡ true → HasSummaryArea v
unfolding has_valid_summary_area
summary_holds v e = grind (arith, nat_tests)

-- what the shape of an accepted layout is made of
pub shape_holds : (v : Layout) → is_valid_layout v ≡ true → (has_valid_sizes v ≡ true) × (has_valid_numbers v ≡ true)
    × (has_valid_parts v ≡ true) × (all_below v.ncg (has_valid_group v) ≡ true) × (has_valid_summary_area v ≡ true)
unfolding is_valid_layout
shape_holds v e = grind (arith, nat_tests)

-- a layout without a fault is a geometry, whose fragments lie in the image
pub geometry_holds : (v : Layout) (n : ℕ) → layout_fault v n ≡ None → IsAcceptedLayout v × (v.size * v.fsize ≤ n)
unfolding layout_fault has_valid_cylinders has_valid_parts
geometry_holds v n e =
    let shaped : is_valid_layout v ≡ true = grind (arith, nat_tests) in
    let s = shape_holds v shaped in (
      record {
        shaped = shaped;
        some_groups = grind (arith, nat_tests);
        some_cylinders = grind (arith, nat_tests);
        ncyl_within = grind (arith, nat_tests);
        ncyl_above = grind (arith, nat_tests);
        sbsize_high = grind (arith, nat_tests);
        sizes = sizes_hold v s.0;
        numbers = numbers_hold v s.1;
        parts = grind (arith, nat_tests);
        groups = λ c lt. group_holds v c (all_below-at v.ncg c (has_valid_group v) s.3 lt);
        summary = summary_holds v s.4;
      },
      grind (arith, nat_tests),
    )
