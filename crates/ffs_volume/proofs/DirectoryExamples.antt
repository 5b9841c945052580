-- The examples of directories, by computation.
use Rattle.ffs_volume.specs.Directories.{Climb.climb, Connectivity.connectivity_lines, Entries.is_well_formed}
use Rattle.ffs_volume.specs.Directories.{Entries.{entry_read, entry_at, entries_from}, Graph.{within, level, parent}}
use Rattle.ffs_volume.specs.Directories.PathnameCheck.{attributes, root_lines, header_defects, header_lines}
use Rattle.ffs_volume.specs.Directories.PathnameCheck.{dir_header_lines, plain_verdict, entry_lines, lines_of_entries}
use Rattle.ffs_volume.specs.Directories.{PathnameCheck.{sized_dir_lines, pathname_lines}, Paths.longest_end}
use Rattle.ffs_volume.specs.Directories.Paths.{path_bytes, names_down, dir_path, entry_path}
use Rattle.ffs_volume.specs.Directories.{ReferenceCheck.{inode_reference_lines, reference_lines}, Roles.role_of}
use Rattle.ffs_volume.specs.Directories.Roles.{roled_from, roled_entries, start_entry, dot, dotdot, references_below}
use Rattle.ffs_volume.specs.Disk.{Numbers.{number, u16_at, u32_at}, Search.{first_below, earliest}}
use Rattle.ffs_volume.specs.Examples.DirectoryExamples.{entry_bytes, with_second_entry, entry, two_chunks, dots, small}
use Rattle.ffs_volume.specs.Examples.DirectoryExamples.{whole_chunk, class_with_dirs_below, dir_attr, alone}
use Rattle.ffs_volume.specs.Examples.DirectoryExamples.{lost_entries, below_entries, lost_cycle, twice_entries, twice}
use Rattle.ffs_volume.specs.Examples.DirectoryExamples.{sub_entries, sub, empty_dir, dead_entries, dead_parent, sized}
use Rattle.ffs_volume.specs.Examples.DirectoryExamples.{long_name, EntryExamples, PathnameExamples, ReferenceExamples}
use Rattle.ffs_volume.specs.{Examples.Images.{bytes_in, word, zero_bytes, root_chunk}, Messages.Kinds.lines_below}

-- what the examples compute with
computed : Unit {0}
unfolding bytes_in word zero_bytes root_chunk entry_bytes with_second_entry entry two_chunks dots whole_chunk small
    dir_attr class_with_dirs_below alone lost_entries below_entries lost_cycle twice_entries twice sub_entries sub
    empty_dir dead_entries dead_parent sized long_name number u16_at u32_at first_below earliest is_well_formed entry_read entry_at
    entries_from role_of roled_from roled_entries start_entry dot dotdot references_below climb within level parent
    longest_end path_bytes names_down dir_path entry_path lines_below attributes root_lines header_defects
    header_lines dir_header_lines plain_verdict entry_lines lines_of_entries sized_dir_lines pathname_lines connectivity_lines
    inode_reference_lines reference_lines
computed = tt

pub entry_examples : EntryExamples
unfolding computed
entry_examples = assumption

pub pathname_examples : PathnameExamples
unfolding computed
pathname_examples = assumption

pub reference_examples : ReferenceExamples
unfolding computed
reference_examples = assumption
