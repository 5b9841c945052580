-- Runs whose offers are taken at once with nothing to report, and which Runs are in range.
use Rattle.std.proofs.Common.{◌≡◌, ℕ, zero, suc, ◌+◌, ◌-◌, ◌<◌, ◌≤◌, true, false, nat_lt, [], slice_set, get_or, arith}
use Rattle.std.proofs.{Common.{refl, ap, ◌∙◌, Bool, sym, not, ◌/◌}, lemmas.Bool.Decides.nat_tests}
use Rattle.std.{proofs.lemmas.List.{get_or-set_other, set-get_or}, specs.List.{range_with_len, slice_index_or}}
use Rattle.ffs_volume.proofs.{AreaLaws.group_is, Potentials.{each_ok, in_range_below}, RunLaws.in_range_is}
use Rattle.ffs_volume.specs.Blocks.Claims.{Claims, is_set, after_offer, after_offers, offer_lines, lines_of_offers}
use Rattle.ffs_volume.specs.Disk.Areas.{is_fragment_in_range, is_run_in_range, cgbase, cgstart, cgsblock, cgdmin}
use Rattle.ffs_volume.specs.{Laws.Geometry.IsAcceptedLayout, declared.Layout.Layout}
use Rattle.ffs_maps.specs.{Bits.{set_run, AreClear, bits_of, ClaimsRun}, declared.FragmentMap.FragmentMap}

-- the offers of a Run leave these claims, and nothing is reported of them
pub record IsQuiet (v : Layout) (s : Claims) (start len : ℕ) (t : Claims) : Type 0 where
  pub claims : after_offers v s (range_with_len start len) ≡ t
  pub silent : (inode : ℕ) → lines_of_offers v inode s (range_with_len start len) ≡ []

quiet_more : {v : Layout} {s : Claims} (t : Claims) {u : Claims} {start len : ℕ} → after_offer v s start ≡ t →
    ((inode : ℕ) → offer_lines v inode s start ≡ []) → IsQuiet v t (start + 1) len u → IsQuiet v s start (suc len) u
quiet_more {v = v} {s = s} t {start = start} {len = len} now silent more = grind arith

-- a Run past the end of the volume: no fragment of it is in range, so they are only counted
pub only_kept : (v : Layout) (s : Claims) (start len : ℕ) → nat_lt s.dup_offers 11 ≡ true → v.size ≤ start →
    IsQuiet v s start len (record s { kept = s.kept + len })
unfolding is_fragment_in_range
only_kept v s start zero few past = grind arith
only_kept v s start (suc len) few past =
    let out : is_fragment_in_range v start ≡ false = grind (arith, nat_tests) in
    let sum : s.kept + suc len ≡ s.kept + 1 + len = omega arith in
    rw sum (quiet_more (record s { kept = s.kept + 1 }) (rw (few, out) refl) (λ inode. rw (few, out) refl)
    (only_kept v (record s { kept = s.kept + 1 }) (start + 1) len few (omega arith)))

-- a Run in range of which all fragments are unclaimed
whole_from : (v : Layout) (s : Claims) (start len : ℕ) → nat_lt s.dup_offers 11 ≡ true →
    ((k : ℕ) → k < len → is_fragment_in_range v (start + k) ≡ true) → AreClear s.used start len →
    IsQuiet v s start len (record s { used = set_run s.used start len; kept = s.kept + len })
whole_from v s start zero few ok clear = grind arith
whole_from v s start (suc len) few ok clear =
    let first : is_fragment_in_range v start ≡ true = ap (is_fragment_in_range v) (omega arith) ∙ ok 0 (omega arith) in
    let unset : is_set s.used start ≡ false = ap (λ n. slice_index_or s.used n false) (omega arith)
    ∙ clear 0 (omega arith) in
    let sum : s.kept + suc len ≡ s.kept + 1 + len = omega arith in
    rw sum (quiet_more (record s { kept = s.kept + 1; used = slice_set s.used start true })
    (rw (few, first, unset) refl) (λ inode. rw (few, first, unset) refl)
    (whole_from v (record s { kept = s.kept + 1; used = slice_set s.used start true }) (start + 1) len few
    (λ k low. ap (is_fragment_in_range v) (omega arith) ∙ ok (k + 1) (omega arith))
    (λ k low. get_or-set_other s.used start (start + 1 + k) true false (λ e. omega arith)
    ∙ ap (λ n. get_or s.used n false) (omega arith) ∙ clear (k + 1) (omega arith))))

pub whole_is : (v : Layout) (s : Claims) (start len : ℕ) → nat_lt s.dup_offers 11 ≡ true →
    is_run_in_range v start len ≡ true → AreClear s.used start len → IsQuiet v s start len (record s
    { used = set_run s.used start len; kept = s.kept + len })
whole_is v s start len few fits clear = whole_from v s start len few (λ k low. each_ok v start len k fits low) clear

-- a Run in range ends in the volume
pub run_below : (v : Layout) (start len : ℕ) → 0 < len → is_run_in_range v start len ≡ true → start + len ≤ v.size
run_below v start len some fits = let last =
    in_range_below v (start + (len - 1)) (each_ok v start len (len - 1) fits (omega arith)) in omega arith

-- one fragment is claimed where its bit wasn't set
pub was_set : {old new : FragmentMap} {f : ℕ} {b : Bool} → ClaimsRun old new f 1 b → is_set (bits_of old) f ≡ not b
was_set {old = old} {f = f} {b = true} c = ap (λ n. slice_index_or (bits_of old) n false) (omega arith)
    ∙ c.clear refl 0 (omega arith)
was_set {old = old} {f = f} {b = false} c = grind arith

-- its bit is set then, claimed now or before
pub is_set_now : {old new : FragmentMap} {f : ℕ} {b : Bool} → ClaimsRun old new f 1 b →
    bits_of new ≡ slice_set (bits_of old) f true
is_set_now {b = true} c = c.claimed refl
is_set_now {old = old} {f = f} {b = false} c =
    ap bits_of (c.unchanged refl) ∙ sym (ap (slice_set (bits_of old) f) (sym (was_set c)) ∙ set-get_or (bits_of old) f false)

-- ---- where the Runs round another Run are in range
-- a Run before the metadata of a group
pub before_metadata : (v : Layout) (c start len : ℕ) → IsAcceptedLayout v → c < v.ncg → cgbase v c ≤ start →
    start + len ≤ cgsblock v c → 0 < len → is_run_in_range v start len ≡ true
before_metadata v c start len g h low high some =
    let group = g.groups c h in
    let end : cgsblock v c ≤ cgdmin v c = omega (arith, g.parts.super_fits, g.parts.block_fits, g.parts.inodes_fit) in
    let same : start / v.fpg ≡ c = group_is v c start low (omega arith) in
    in_range_is v g start len some ∙ rw same (grind (arith, nat_tests))

-- a Run after the metadata of a group
pub after_metadata : (v : Layout) (c start len : ℕ) → IsAcceptedLayout v → c < v.ncg → cgdmin v c ≤ start →
    start + len ≤ cgbase v (c + 1) → start + len ≤ v.size → 0 < len → is_run_in_range v start len ≡ true
unfolding cgstart
after_metadata v c start len g h low high inside some = grind (arith, group_is, in_range_is)

-- the next group begins as many fragments on as a group has
pub base_above : (v : Layout) (c : ℕ) → cgbase v (c + 1) ≡ cgbase v c + v.fpg
unfolding cgbase
base_above v c = grind arith

-- where a Run in range lies: in its group and the volume; before the metadata if it begins there
pub record Lies (v : Layout) (start len : ℕ) : Type 0 where
  pub base : cgbase v (start / v.fpg) ≤ start
  pub volume : start + len ≤ v.size
  pub group : start + len ≤ cgbase v (start / v.fpg) + v.fpg
  pub before : start < cgdmin v (start / v.fpg) → start + len ≤ cgsblock v (start / v.fpg)

pub lies : (v : Layout) (start len : ℕ) → IsAcceptedLayout v → 0 < len → is_run_in_range v start len ≡ true
    → Lies v start len
unfolding cgbase
lies v start len g some fits = grind (arith, in_range_is)
