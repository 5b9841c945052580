-- What is found of a directory before its entries, and what is wrong with it, by the values of the program.
use Rattle.std.specs.Prelude.{◌≡◌, ◌==◌, if◌then◌else◌, Bool, List, [], ℕ, option_map, option_and_then, Option, None}
use Rattle.std.specs.{Prelude.Some, Borrow.Bor}
use Rattle.ffs_image.specs.Device.{Device}
use Rattle.ffs_volume.specs.{declared.{Layout.Layout, Order.Order}, Blocks.Inodes.inode_of}
use Rattle.ffs_volume.specs.declared.verdict.{HeaderDefects.HeaderDefects, DotDefects.{DotDefects, TheVariants.Missing}}
use Rattle.ffs_volume.specs.declared.verdict.DotDefects.TheVariants.{Other, Found}
use Rattle.ffs_volume.specs.Directories.PathnameCheck.{attributes, attributes_of, header_defects, header_lines}
use Rattle.ffs_volume.specs.Directories.{Entries.Entry, Naming.graph_of, Paths.dir_path, Roles.{Volume, nth_entry}}
use Rattle.ffs_volume.specs.Messages.Kinds.{TreeMessage}
use Rattle.ffs_layout.specs.Entry.{entry_value}
use Rattle.ffs_workspace.specs.declared.workspace.Workspace.{Workspace}
use Rattle.ffs_pathnames.specs.{KnowsAtDirectory.KnowsAtDirectory, StartChunks.start_chunk, declared.header.HeaderFacts.HeaderFacts}

-- 0 means no number
abbrev pub number_if : ℕ → Option ℕ
number_if n = if n == 0 then None else Some n

-- an entry of the chunk at the start of the file, if that was found
abbrev pub started_entry : ℕ → Bool → Order → List ℕ → Option Entry
started_entry i started order start = option_and_then (λ c. nth_entry c.entries i) (start_chunk [] started order start)

-- these are the first two entries of that chunk
pub record AreFirstTwo (one two : Option Entry) (started : Bool) (order : Order) (start : List ℕ) : Type 0 where
  pub first : one ≡ started_entry 0 started order start
  pub second : two ≡ started_entry 1 started order start

-- the bytes are those of KnowsAtDirectory for a header's directory, and the header shows its inode
abbrev pub KnowsHeader : Layout → Device → Workspace → HeaderFacts → List ℕ → Type 0
KnowsHeader v d w h b =
    KnowsAtDirectory v d.contents w h.attr.number b
    × (h.attr ≡ attributes_of h.attr.number (inode_of v b h.attr.number))

-- what is wrong, with names as their bytes
abbrev pub dot_value : DotDefects (Bor (List ℕ)) → DotDefects (List ℕ)
dot_value Missing = Missing
dot_value (Other name) = Other name.now
dot_value (Found wrong_number wrong_type) = Found wrong_number wrong_type

abbrev pub defects_value : HeaderDefects (Bor (List ℕ)) → HeaderDefects (List ℕ)
defects_value n = record {
  short = n.short;
  partial_chunk = n.partial_chunk;
  gap = n.gap;
  unsound = n.unsound;
  dot = dot_value n.dot;
  dotdot = dot_value n.dotdot;
}

-- by what was found of a directory
abbrev pub defects_of_facts : HeaderFacts → HeaderDefects (List ℕ)
defects_of_facts h =
    header_defects h.attr.number h.attr.size h.parent h.gap h.sound (option_map entry_value h.first)
    (option_map entry_value h.second)

-- the messages on it, for a directory of a volume
abbrev pub facts_lines : Volume → HeaderFacts → List TreeMessage
facts_lines vol h = header_lines (defects_of_facts h) (attributes vol h.attr.number)
    (dir_path (graph_of vol) h.attr.number)
