-- The parts of an image that a place can be: whole chunks, which a fragment has a whole number of.
use Rattle.std.proofs.Common.{◌≡◌, ◌∙◌, ℕ, ◌+◌, ◌-◌, ◌*◌, ◌/◌, ◌%◌, ◌^◌, ◌<◌, ◌≤◌, Bool, true, false, ap, arith, refl}
use Rattle.std.specs.Prelude.{nat_le, if◌then◌else◌}
use Rattle.std.proofs.Math.Nat.{div-lt_iff_lt-mul, le-div_iff_mul-le, mod_self, mul_assoc, mul-le-mul_left}
use Rattle.std.proofs.Math.Nat.{mul-le-mul_right, mul-mod_right}
use Rattle.std.proofs.lemmas.{Bool.{Decides.nat_tests, leb-true}, Nat.Gcd.{dvd_of_mod-eq-zero, dvd_trans, mod-eq-zero_of_dvd}}
use Rattle.ffs_volume.{proofs.GeometryLaws.shape_holds, specs.Laws.Geometry.IsAcceptedLayout}
use Rattle.ffs_volume.specs.{Disk.Outcome.{has_valid_sizes, is_fragment_size}, declared.Layout.Layout}
use Rattle.ffs_volume.specs.Encodings.Places.{part_size}

-- a fragment is whole chunks
fragment_whole : (n : ℕ) → is_fragment_size n ≡ true → n % 512 ≡ 0
unfolding is_fragment_size
fragment_whole n h = grind (arith, nat_tests)

fragment_is : (v : Layout) → has_valid_sizes v ≡ true → is_fragment_size v.fsize ≡ true
unfolding has_valid_sizes
fragment_is v h = grind (arith, nat_tests)

-- a volume has so many parts of this size: each is whole chunks, and a fragment is whole parts
pub record HasPartsOf (v : Layout) (size : ℕ) : Type 0 where
  pub some : 0 < size
  pub whole : size % 512 ≡ 0
  pub in_fragment : v.fsize % size ≡ 0
  pub in_block : size ≤ v.bsize
  pub count : ℕ
  pub all : count * size ≡ v.size * v.fsize
  pub few : count ≤ 2 ^ 31 - 1

pub has_parts : (v : Layout) → IsAcceptedLayout v → HasPartsOf v (part_size v)
unfolding part_size
has_parts v g = go (nat_le (v.size * v.fsize) (512 * (2 ^ 31 - 1))) refl
  where
    whole : v.fsize % 512 ≡ 0
    whole = fragment_whole v.fsize (fragment_is v (shape_holds v g.shaped).0)

    pieces : v.fsize / 512 * 512 ≡ v.fsize
    pieces = omega (arith, whole)

    total : v.size * (v.fsize / 512) * 512 ≡ v.size * v.fsize
    total = mul_assoc v.size (v.fsize / 512) 512 ∙ ap (λ n. v.size * n) pieces

    go : (few : Bool) → nat_le (v.size * v.fsize) (512 * (2 ^ 31 - 1)) ≡ few →
        HasPartsOf v (if few then 512 else v.fsize)
    go true e = let few = leb-true _ _ e in record {
      some = omega arith;
      whole = refl;
      in_fragment = whole;
      in_block = let low = g.sizes.bsize_low in omega arith;
      count = v.size * (v.fsize / 512);
      all = total;
      few = omega (arith, total, few);
    }
    go false e = record {
      some = let low = g.sizes.fsize_low in omega arith;
      whole = whole;
      in_fragment = mod_self v.fsize;
      in_block = let block = mul-le-mul_right v.fsize g.sizes.frag_low in omega (arith, block, g.sizes.block);
      count = v.size;
      all = refl;
      few = let below = g.numbers.size_below in omega arith;
    }

-- the part that a chunk of the volume lies in
pub record LiesInPart (v : Layout) (at : ℕ) : Type 0 where
  pub number : at / part_size v < 2 ^ 31 - 1
  pub from : part_size v * (at / part_size v) ≤ at
  pub inside : part_size v * (at / part_size v) + part_size v ≤ v.size * v.fsize

pub lies_in_part : (v : Layout) (at : ℕ) → IsAcceptedLayout v → at + 512 ≤ v.size * v.fsize → LiesInPart v at
lies_in_part v at g inside =
    let p = has_parts v g in
    let below : at / part_size v < p.count =
    (div-lt_iff_lt-mul p.some).1 (omega (arith, p.all)) in
    let next : part_size v * (at / part_size v + 1) ≤ part_size v * p.count =
    mul-le-mul_left {m = at / part_size v + 1} {n = p.count} (part_size v) (omega arith) in
    record {
      number = omega (arith, p.few, below);
      from = omega (arith, p.some);
      inside = omega (arith, next, p.all);
    }

pub part_some : (v : Layout) → IsAcceptedLayout v → 0 < part_size v
part_some v g = (has_parts v g).some

pub part_in_block : (v : Layout) → IsAcceptedLayout v → (part_size v ≤ v.bsize) × (v.bsize ≤ 65536)
part_in_block v g = ((has_parts v g).in_block, g.sizes.bsize_high)

pub part_number : (v : Layout) (at : ℕ) → IsAcceptedLayout v → at + 512 ≤ v.size * v.fsize →
    at / part_size v < 2 ^ 31 - 1
part_number v at g inside = (lies_in_part v at g inside).number

multiple : (a b c : ℕ) → a % b ≡ 0 → b % c ≡ 0 → a % c ≡ 0
multiple a b c of_b of_c = mod-eq-zero_of_dvd c (dvd_trans c (dvd_of_mod-eq-zero c of_c) (dvd_of_mod-eq-zero b of_b))

-- a part that begins at a fragment, or after the start of one, does so at a chunk
pub record BeginsPart (v : Layout) (place at : ℕ) : Type 0 where
  pub after : place ≤ part_size v * (at / part_size v)
  pub chunks : place % 512 ≡ 0
  pub whole : part_size v * (at / part_size v) % 512 ≡ 0

-- where a fragment begins at or before a chunk, the chunk's part begins there or later
pub begins_part : (v : Layout) (place at : ℕ) → IsAcceptedLayout v → place % v.fsize ≡ 0 → place ≤ at →
    BeginsPart v place at
begins_part v place at g start before =
    let p = has_parts v g in
    let of_part : place % part_size v ≡ 0 = multiple place v.fsize (part_size v) start p.in_fragment in
    let number : place / part_size v ≤ at / part_size v =
    (le-div_iff_mul-le p.some).1 (omega (arith, of_part, p.some)) in
    let scaled = mul-le-mul_left (part_size v) number in
    record {
      after = omega (arith, scaled, of_part, p.some);
      chunks = multiple place (part_size v) 512 of_part p.whole;
      whole = multiple (part_size v * (at / part_size v)) (part_size v) 512
          (mul-mod_right (part_size v) (at / part_size v)) p.whole;
    }
