-- How many of some inodes are files or directories.
use Rattle.std.specs.{Prelude.{ℕ, ◌-◌, List, count_by}, List.range_with_len}
use Rattle.ffs_volume.specs.Blocks.Inodes.{is_file_or_dir}
use Rattle.ffs_groups.specs.Inodes.{class_in}

-- how many of the inodes from `first` on and below `end` are files or directories
abbrev pub files_among : List ℕ → (first end : ℕ) → ℕ
files_among kinds first end = count_by (λ x. is_file_or_dir (class_in kinds x)) (range_with_len first (end - first))
