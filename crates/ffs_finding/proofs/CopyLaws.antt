-- The lines of the sectors from one on, and the reads of the sectors before it.
use Rattle.std.proofs.Common.{◌≡◌, ℕ, ◌+◌, ◌-◌, ◌*◌, ◌/◌, ◌<◌, ◌≤◌, List, [], ◌++◌, length, Some, arith, refl}
use Rattle.std.{specs.{Prelude.count_by}}
use Rattle.std.specs.{List.range_with_len, Int.div_ceil}
use Rattle.ffs_volume.{specs.{Disk.Outcome.outcome, Find.Copies.asked_sectors}, proofs.OutcomeLaws.outcome_past_end}
use Rattle.ffs_volume.specs.Find.Copies.{copies_lines, copy_lines_of, sector_count}
use Rattle.ffs_image.specs.Device.{Device}
use Rattle.ffs_walk.specs.declared.window.Window.{Window}
use Rattle.ffs_maps.proofs.Counting.{count_join}
use Rattle.ffs_finding.{specs.Copies.{IsSectorsEnd, IsWindowOf, has_magic, copies_from, super_reads}, proofs.Ranges.{none}}

pub count_is : sector_count ≡ 4194303
unfolding sector_count
count_is = refl

-- the lines of a sector
abbrev pub lines_at : (b : List ℕ) (sector : ℕ) → List (List ℕ)
lines_at b sector = copy_lines_of sector (outcome b (Some sector))

pub lines_begin : (b : List ℕ) → copies_lines b ≡ copies_from b 1
unfolding copies_lines copies_from
lines_begin b = grind arith

pub lines_next : (b : List ℕ) (sector : ℕ) → sector < 4194304 →
    copies_from b sector ≡ lines_at b sector ++ copies_from b (sector + 1)
unfolding copies_from
lines_next b sector h = grind (arith, count_is)

pub lines_end : (b : List ℕ) (sector end : ℕ) → IsSectorsEnd (length b) end → end ≤ sector → copies_from b sector ≡ []
unfolding copies_from
lines_end b sector end h past = grind (arith, none, outcome_past_end, count_is)

-- ---- reads
-- how many sectors from 1 on, so many of them, have a magic number
abbrev pub magics : (b : List ℕ) (n : ℕ) → ℕ
magics b n = count_by (has_magic b) (range_with_len 1 n)

one_magic : (b : List ℕ) (sector : ℕ) → count_by (has_magic b) (range_with_len sector 1) ≡ super_reads b sector
one_magic b sector = grind arith

magics_next : (b : List ℕ) (sector : ℕ) → 0 < sector →
    magics b sector ≡ magics b (sector - 1) + super_reads b sector
magics_next b sector some =
    let joined = count_join (has_magic b) 1 (sector - 1) 1 sector _ _ (omega arith) refl refl in
    let place : 1 + (sector - 1) ≡ sector = omega arith in
    let last = one_magic b sector in
    grind (arith, joined, place, last)

pub magics_within : (b : List ℕ) (sector : ℕ) → sector < 4194304 →
    magics b sector ≤ count_by (has_magic b) asked_sectors
magics_within b sector h =
    let joined = count_join (has_magic b) 1 sector (sector_count - sector) sector_count _ _
    (omega (arith, count_is)) refl refl in
    omega (arith, joined)

-- the reads up to a sector, where those before it were few enough
pub reads_next : (d : Device) (b : List ℕ) (sector reads before after : ℕ) (w : Window) → 0 < sector →
    (sector ≡ 1 → before ≤ reads) → before ≤ reads + (sector + 129) / 128 + magics b (sector - 1) →
    (1 < sector → IsWindowOf d (sector - 1) w) → after ≤ before + 1 + super_reads b sector →
    (IsWindowOf d sector w → after ≤ before + super_reads b sector) →
    after ≤ reads + (sector + 130) / 128 + magics b sector
reads_next d b sector reads before after w some first most at counted again = grind (arith, magics_next)

-- no more windows were read than the image has
pub reads_all : (b : List ℕ) (size sector reads after : ℕ) → sector < 4194304 → sector * 512 + 1376 ≤ size →
    after ≤ reads + (sector + 130) / 128 + magics b sector →
    after ≤ reads + div_ceil size 65536 + count_by (has_magic b) asked_sectors
reads_all b size sector reads after h inside most = search (arith, magics_within)
