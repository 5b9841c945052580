-- The bytes of a name.
use Rattle.std.specs.Prelude.{ℕ, List, take}
use Rattle.ffs_paths.specs.declared.name_text.NameText.{NameText}

abbrev pub name_bytes : NameText → List ℕ
name_bytes n = take n.length n.bytes
