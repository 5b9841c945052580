-- How a second walk over an inode continues.
use Rattle.std.proofs.Common.{◌≡◌, ◌≢◌, ◌≤◌, ℕ, ◌+◌, List, [], ◌∷◌, arith, ap, ne_eqb, length, map, min, ◌<◌, ◌-◌, ◌^◌}
use Rattle.std.proofs.Common.{Ok}
use Rattle.ffs_volume.specs.{declared.Layout.Layout, Blocks.BlockCheck.set_count, Costs.RescanRuns.runs_until_reported}
use Rattle.ffs_image.specs.Device.{Device}
use Rattle.ffs_maps.specs.Bits.{bits_of}
use Rattle.ffs_walk.specs.{Windows.KeepsBlocks, declared.{blocks.Blocks.Blocks, seen_runs.SeenRun.SeenRun}}
use Rattle.ffs_workspace.specs.declared.workspace.{Windows.Windows, Workspace.Workspace}
use Rattle.ffs_layout.specs.declared.geometry.Geometry.{Geometry}
use Rattle.ffs_claims.proofs.Reportings.{reporting_over, Reporting, reporting_more, reporting_ends, reported_from}
use Rattle.ffs_claims.{proofs.RescanCounts.looked_none, specs.Reporting.{OffersReported, ReportsOnly, RewalkLeaves}}
use Rattle.ffs_claims.specs.Rewalking.{Rewalked, RoseBy, RunsPay, offers_of_runs, run_offers}

-- where a second walk is, with the Runs R left to it: what it reported, and the Runs it looked at
pub record Rewalking (i : ℕ) (all R : List SeenRun) (u w : Workspace) : Type 0 where
  pub reported : Reporting (offers_of_runs i R) (offers_of_runs i all) u w
  pub runs : w.runs_again + length R ≤ u.runs_again + length all
  pub count : RoseBy u.runs_again (w.runs_again + runs_until_reported (bits_of w.duplicates) (map (run_offers i) R))
      (runs_until_reported (bits_of u.duplicates) (map (run_offers i) all))

pub rewalk_begins : {i : ℕ} {all R : List SeenRun} {w : Workspace} → R ≡ all → Rewalking i all R w w
rewalk_begins {w = w} same = grind arith

-- a Run more is counted
pub counted_most : (old new : ℕ) → new ≡ min (old + 1) (2 ^ 64 - 1) → new ≤ old + 1
counted_most old new e = grind arith

pub rewalk_on : {i : ℕ} {all R R' : List SeenRun} {run : SeenRun} {u w w' : Workspace} (mid : Workspace) →
    R ≡ run ∷ R' → set_count (bits_of w.duplicates) ≢ 0 → mid.duplicates ≡ w.duplicates → mid.marked ≡ w.marked →
    OffersReported (run_offers i run) mid w' → w'.runs_again ≡ min (w.runs_again + 1) (2 ^ 64 - 1) →
    Rewalking i all R u w → Rewalking i all R' u w'
unfolding runs_until_reported
rewalk_on {w = w} {w' = w'} mid e some d m p q t =
    let did = reported_from w mid w' p d m in
    record {
      reported = reporting_more t.reported (ap (offers_of_runs _) e) did;
      runs = omega (arith, t.runs, counted_most w.runs_again w'.runs_again q, ap length e);
      count = λ h. grind (arith, ne_eqb);
    }

-- it is over where no Run is left to see, and where nothing is left to report
pub rewalk_ends : {i : ℕ} {all R : List SeenRun} {u w : Workspace} {windows : Windows} → R ≡ [] → Rewalking i all R u w →
    Rewalked i all u (record w { windows = windows })
unfolding runs_until_reported
rewalk_ends {i = i} e t =
    let did = reporting_ends t.reported (ap (offers_of_runs i) e) in
    record {
      reported = record { duplicates = did.duplicates; marked = did.marked };
      count = λ h. grind (arith, t.count h);
    }

pub rewalk_over : {i : ℕ} {all R : List SeenRun} {u w : Workspace} → set_count (bits_of w.duplicates) ≡ 0 →
    Rewalking i all R u w → Rewalked i all u w
rewalk_over {i = i} {R = R} {w = w} e t = search (arith, reporting_over, looked_none)

-- where it has left the image, its workspace and the claims; and what a step more leaves
abbrev pub Rereads : Layout → Device → Device → Workspace → Workspace → Type 0
Rereads v d0 d u w = RewalkLeaves {T = Unit {0}} v d0 d u w (Ok tt)

pub rereads_on : {g k : Geometry} {d0 d d' : Device} {u w w' : Workspace} {b : Blocks} {n : ℕ} → d' ≡ d → k ≡ g →
    KeepsBlocks k.layout d'.contents w.windows.blocks b →
    ReportsOnly g.layout (record w { runs_again = n; windows = record w.windows { blocks = b } }) w' →
    Rereads g.layout d0 d u w → Rereads g.layout d0 d' u w'
rereads_on e same kept only p = grind arith

-- ---- reads that are paid by the Runs that phase 1b looks at
-- a Run more is counted, which pays for a read
pub runs_pay_on : {reads now now' old middle new : ℕ} → RunsPay reads now old middle →
    new ≡ min (middle + 1) (2 ^ 64 - 1) → now' ≤ now + 1 → RunsPay reads now' old new
runs_pay_on pays counts one = grind arith

-- a further part of the work
pub runs_pay_then : {now' old middle new : ℕ} (now reads n n' : ℕ) → RunsPay (reads + n) now old middle →
    RunsPay (now + 1) now' middle new → n + 1 ≤ n' → RunsPay (reads + n') now' old new
runs_pay_then now reads n n' pays more on = grind arith

-- what was read in all, from a count of 0 on
pub runs_pay_all : {now new : ℕ} (reads n most : ℕ) → RunsPay (reads + n) now 0 new → n ≤ most →
    new < 2 ^ 64 - 1 → now ≤ reads + most + new
runs_pay_all reads n most pays less room = omega (arith, less, pays.paid room)
