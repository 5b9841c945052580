-- The records of a group lie within the volume.
use Rattle.std.proofs.Common.{ℕ, ◌+◌, ◌-◌, ◌*◌, ◌%◌, ◌<◌, ◌≤◌, ◌≡◌, ◌∙◌, ap, arith, List, Option, take, drop}
use Rattle.std.{specs.{Int.div_ceil, List.slice_range}, proofs.{Math.Nat.mod-lt, lemmas.Nat.mul-le}}
use Rattle.std.proofs.lemmas.Grind.{div_ceil_times}
use Rattle.ffs_volume.specs.{declared.Layout.Layout, Laws.Geometry.IsAcceptedLayout, Disk.Numbers.piece}
use Rattle.ffs_volume.specs.Disk.Areas.{summary_place}
use Rattle.ffs_walk.specs.{Windows.WindowHolds, declared.window.Window.Window}
use Rattle.ffs_workspace.proofs.TablePlaces.{piece_of}
use Rattle.ffs_counts.specs.Records.{HoldsRecord, first_read, records_read}

pub records_end : (csaddr size fsize cssize fragments c n ncg : ℕ) → cssize ≤ fragments * fsize →
    csaddr + fragments ≤ size → 16 * ncg ≤ cssize → c + n ≤ ncg →
    csaddr * fsize + 16 * c + 16 * n ≤ size * fsize
records_end csaddr size fsize cssize fragments c n ncg a b d e =
    omega (arith, a, d, e, mul-le (csaddr + fragments) fsize size fsize b (omega arith))

pub records_inside : (v : Layout) (c n : ℕ) → IsAcceptedLayout v → c + n ≤ v.ncg →
    summary_place v c + 16 * n ≤ v.size * v.fsize
records_inside v c n g h =
    records_end v.csaddr v.size v.fsize v.cssize (div_ceil v.cssize v.fsize) c n v.ncg
    (div_ceil_times v.cssize v.fsize (omega (arith, g.sizes.fsize_low))).0
    g.summary.summary_in_size g.summary.room h

-- the record of a group is where it is counted to, in a window that holds the records that are read with it
pub record_there : (v : Layout) (contents : Option (List ℕ)) (w : Window) (c : ℕ) → c < v.ncg →
    w.place ≡ summary_place v (first_read c) → w.length ≡ 16 * records_read v (first_read c) →
    WindowHolds contents w → HoldsRecord v contents w c (16 * (c - first_read c))
record_there v contents w c h place length holds =
    let at = 16 * (c - first_read c) in
    let low : c % 256 < 256 = mod-lt c {m = 256} (omega arith) in
    let inside : at + 16 ≤ w.length = omega arith in
    let many : at + 16 - at ≡ 16 = omega arith in
    let there : w.place + at ≡ summary_place v c = omega arith in
    record {
      records = record { starts = place; length = length };
      inside = inside;
      bytes = λ b is.
          ap (λ (xs : List ℕ). slice_range xs at (at + 16)) (holds.bytes b is)
          ∙ ap (λ (n : ℕ). take n (drop at (piece w.place w.length b))) many
          ∙ piece_of w.place w.length at 16 b inside
          ∙ ap (λ (n : ℕ). piece n 16 b) there;
    }
