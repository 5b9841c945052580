-- How often the groups' blocks and summary records are read, group after group.
use Rattle.std.{proofs.Common.{ℕ, ◌≡◌, ◌+◌, ◌%◌, ◌≤◌, arith}, specs.Int.div_ceil}
use Rattle.ffs_volume.specs.{Report.Reads.records_at_once}

-- the reads for the first n groups
abbrev pub reads_below : ℕ → ℕ
reads_below n = n + div_ceil n records_at_once

pub reads_next : (n reads before now : ℕ) → before ≤ reads + reads_below n → now ≤ before + 1 + 1 →
    ((n % records_at_once ≡ 0 → ⊥) → now ≤ before + 1) → now ≤ reads + reads_below (n + 1)
reads_next n reads before now so_far two one = grind arith

-- those for the first n groups are among those for all
pub reads_within : (n all : ℕ) → n ≤ all → reads_below n ≤ reads_below all
reads_within n all few = grind arith
