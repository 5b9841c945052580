-- The path of the entry that was asked for last.
use Rattle.std.specs.Prelude.{ℕ, ◌==◌, if◌then◌else◌, List, take}
use Rattle.ffs_paths.specs.declared.entry_paths.EntryPaths.{EntryPaths}

abbrev pub last_path : EntryPaths → List ℕ
last_path p = if p.length == 0 then p.text.items else take p.length p.bytes
