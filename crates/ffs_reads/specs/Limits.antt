-- The most reads of each part of a check, as Report/Reads adds them up.
use Rattle.std.specs.Prelude.{ℕ, ◌^◌, ◌-◌, min}
use Rattle.ffs_volume.specs.{declared.Layout.Layout, Report.Reads.{scan_reads, sweep_reads, pathname_reads, group_reads}}
use Rattle.ffs_reads.specs.declared.parts.Part.{Part, TheVariants.{Phase1, Phase1b, Phase2, Phase3, Phase4, Phase5}}
use Rattle.ffs_reads.specs.declared.parts.Part.TheVariants.{Summary}

-- a part that says so many messages after its heading
abbrev pub part_reads : Part → Layout → (messages : ℕ) → ℕ
part_reads Phase1 v messages = scan_reads v
part_reads Phase1b v messages = sweep_reads v
part_reads Phase2 v messages = pathname_reads v messages
part_reads Phase3 v messages = messages
part_reads Phase4 v messages = messages
part_reads Phase5 v messages = group_reads v
part_reads Summary v messages = 0

-- up to the last u64
abbrev pub in_u64 : ℕ → ℕ
in_u64 n = min n (2 ^ 64 - 1)
