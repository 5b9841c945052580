-- Fragments where each Run is in range.
use Rattle.std.specs.Prelude.{◌≡◌, ℕ, ◌+◌, ◌<◌, ◌≤◌, Bool, true, IsTrue}
use Rattle.ffs_volume.specs.{Disk.Areas.is_run_in_range, declared.Layout.Layout}
use Rattle.ffs_claims.specs.declared.area.DataArea.{DataArea}

-- each Run that lies in the area is in range
pub record IsDataArea (v : Layout) (area : DataArea) : Type 0 where
  pub runs : (start len : ℕ) → area.start ≤ start → start + len ≤ area.end → 0 < len → is_run_in_range v start len
      ≡ true

-- a Run lies in the area
pub record HasRun (area : DataArea) (start len : ℕ) : Type 0 where
  pub first : area.start ≤ start
  pub last : start + len ≤ area.end

-- an area around a fragment: each Run in range that begins there lies in it
pub record IsAreaAround (v : Layout) (area : DataArea) (start : ℕ) : Type 0 where
  pub all_in_range : IsDataArea v area
  pub run : (len : ℕ) → 0 < len → is_run_in_range v start len ≡ true → HasRun area start len

-- the answer is whether a Run is in range, and if so it lies in the area
pub record MovesToRun (v : Layout) (area : DataArea) (start len : ℕ) (result : Bool) : Type 0 where
  pub value : result ≡ is_run_in_range v start len
  pub all_in_range : IsDataArea v area
  pub run : IsTrue result → HasRun area start len
