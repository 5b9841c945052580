-- A run is in range where its ends show it.
use Rattle.std.proofs.Common.{inl, inr, ◌≡◌, ℕ, ◌+◌, ◌-◌, ◌*◌, ◌/◌, ◌<◌, ◌≤◌, Bool, true, false, arith, nat_le, ◌&&◌}
use Rattle.std.proofs.{Common.◌||◌, Common.◌==◌, Math.Nat.lt-mul-div-succ, Math.Nat.mul-div-le}
use Rattle.std.proofs.lemmas.Bool.{cases_lt, Decides.nat_tests, Decides.same_from_decides}
use Rattle.ffs_volume.proofs.AreaLaws.{is_in_metadata_of, is_metadata_of_group, group_below, group_is}
use Rattle.ffs_volume.{proofs.Below.all_below-at, proofs.Below.all_below-from, specs.Disk.Areas.cgbase}
use Rattle.ffs_volume.specs.Disk.Areas.{cgsblock, cgdmin, is_fragment_in_range, is_run_in_range}
use Rattle.ffs_volume.specs.{Disk.Numbers.all_below, Laws.Geometry.IsAcceptedLayout, declared.Layout.Layout}

-- the run of `len` fragments from `start` ends in the volume and in its group, and is before the
-- kept part or after it
abbrev pub is_apart : Layout → ℕ → ℕ → Bool
is_apart v start len =
    nat_le (start + len) v.size && nat_le (start + len) (cgbase v (start / v.fpg + 1))
    && (nat_le (start + len) (cgsblock v (start / v.fpg)) || nat_le (cgdmin v (start / v.fpg)) start)

abbrev fits : Layout → ℕ → ℕ → Bool
fits v start k = is_fragment_in_range v (start + k) && ((start + k) / v.fpg == start / v.fpg)

module _ (v : Layout) (g : IsAcceptedLayout v) (start len : ℕ) where
  base_low : cgbase v (start / v.fpg) ≤ start
  unfolding cgbase
  base_low = mul-div-le start v.fpg

  -- what is apart fits at each index
  apart_fits : is_apart v start len ≡ true → (k : ℕ) → k < len → fits v start k ≡ true
  unfolding is_fragment_in_range
  apart_fits h k lt =
      let below : start + len ≤ v.size = grind (arith, nat_tests) in
      let within : start + len ≤ cgbase v (start / v.fpg + 1) = grind (arith, nat_tests) in
      let low = base_low in
      let same = group_is v (start / v.fpg) (start + k) (omega arith) (omega arith) in
      let metadata = is_metadata_of_group v (start + k) g in
      grind (arith, nat_tests)

  -- a fragment that fits is below size, of the run's group, and not metadata of it
  fit_facts : (k : ℕ) → fits v start k ≡ true → (start + k < v.size) × ((start + k) / v.fpg ≡ start / v.fpg)
      × (is_in_metadata_of v (start / v.fpg) (start + k) ≡ false)
  unfolding is_fragment_in_range
  fit_facts k h =
      let below : start + k < v.size = grind (arith, nat_tests) in
      let same : (start + k) / v.fpg ≡ start / v.fpg = grind (arith, nat_tests) in
      let metadata = is_metadata_of_group v (start + k) g in
      let group = group_below v (start + k) g below in
      (below, same, grind (arith, nat_tests))

  -- what fits at each index is apart
  fits_apart : 0 < len → ((k : ℕ) → k < len → fits v start k ≡ true) → is_apart v start len ≡ true
  unfolding cgbase
  fits_apart some h =
      let last = fit_facts (len - 1) (h (len - 1) (omega arith)) in
      let first = fit_facts 0 (h 0 some) in
      let above : start + (len - 1) < v.fpg * ((start + (len - 1)) / v.fpg + 1) =
      lt-mul-div-succ (start + (len - 1)) (omega arith) in
      let group : start + (len - 1) < v.fpg * (start / v.fpg + 1) = rw last.1 at above in
      let size : start + len ≤ v.size = omega arith in
      let within : start + len ≤ v.fpg * (start / v.fpg + 1) = omega arith in
      elim (cases_lt start (cgdmin v (start / v.fpg))) [
        | inr after ↦ grind (arith, nat_tests)
        | inl before ↦
            let low : start < cgsblock v (start / v.fpg) = grind (arith, nat_tests, first.2) in
            elim (cases_lt (cgsblock v (start / v.fpg)) (start + len)) [
              | inr under ↦ grind (arith, nat_tests)
              | inl over ↦
                  let at = fit_facts (cgsblock v (start / v.fpg) - start)
                  (h (cgsblock v (start / v.fpg) - start) (omega arith)) in
                  let free = at.2 in
                  absurd (grind (arith, nat_tests))
            ]
      ]

  pub in_range_is : 0 < len → is_run_in_range v start len ≡ is_apart v start len
  unfolding is_run_in_range
  in_range_is some = same_from_decides {P = is_apart v start len ≡ true} (all_below len (fits v start))
      (is_apart v start len) (
        λ all. fits_apart some (λ k lt. all_below-at len k (fits v start) all lt),
        λ h. all_below-from len (fits v start) (apart_fits h),
      ) (λ h. h, λ h. h)
