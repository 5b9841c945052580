use Rattle.std.proofs.Common.{◌≡◌, ℕ, ◌+◌, ◌-◌, ◌*◌, ◌≤◌, ◌++◌, List, flat_map}
use Rattle.ffs_volume.specs.Directories.{Entries.entries_from, Roles.{roled_chunk, roled_from}}
use Rattle.ffs_survey.specs.Reading.{SkipsEmpty}
use Rattle.ffs_names.{specs.{Entering.to_come, Readings.rest, Shapes.fills}, proofs.Shaped.fills_from}
use Rattle.ffs_names.proofs.entries.Entries.skip_empty.Given as goal

abbrev pub invariant-entries : goal.invariant-entries
invariant-entries l = let s = l.self in record {
  inside : l.place ≤ 512;
  room : s.place + 8 * l.skipped ≤ l.place;
  skips : (b : List ℕ) → SkipsEmpty l.skipped (to_come b s) (roled_from s.at_start (s.index + l.skipped)
      (entries_from s.order s.chunk 64 l.place) ++ flat_map roled_chunk (rest b s.chunks));
  fills : fills_from s.order s.chunk l.place ≡ fills s;
}

abbrev pub decreases-entries : goal.decreases-entries
decreases-entries l = 512 - l.place
