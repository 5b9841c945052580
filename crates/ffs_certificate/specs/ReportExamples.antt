-- Whole reports of small images.
use Rattle.std.specs.Prelude.{codes, ◌≡◌, ℕ, List, [], ◌∷◌, ◌++◌, pos, None, replicate}
use Rattle.ffs_volume.specs.declared.{Order.{Order, TheVariants.{Little, Big}}, Attr.Attr, BlockMessage.TheVariants.Dup}
use Rattle.ffs_volume.specs.declared.{End.TheVariants.Consistent, Label.TheVariants.File as FileLabel}
use Rattle.ffs_volume.specs.{Disk.Superblock.Superblock, Messages.Kinds.{Message, image_name, mounted, phase1, phase1b}}
use Rattle.ffs_volume.specs.Messages.Kinds.{phase2, phase3, phase4, phase5, of_blocks, of_tree, summary, of_entry}
use Rattle.ffs_volume.specs.{Messages.Kinds.{of_directory, of_reference}, Directories.PathnameCheck.pathname_lines}
use Rattle.ffs_volume.specs.Directories.{Connectivity.connectivity_lines, ReferenceCheck.reference_lines}
use Rattle.ffs_volume.specs.{Directories.Volumes.volume_of, Report.Whole.{phase_lines, report_lines, report_of}}
use Rattle.ffs_volume.specs.{Report.Whole.report_end, Consistent.Volume.IsConsistent, Examples.Images.{bytes_in, word}}
use Rattle.ffs_volume.specs.Examples.Images.{zero_bytes, mount_bytes, base_layout, base_superblock, base_image}
use Rattle.ffs_volume.specs.Examples.{Images.root_chunk, DirectoryExamples.{entry_bytes, one_dot, two_dots}}
use Rattle.ffs_volume.specs.declared.tree_lines.{EntryLine.TheVariants.DupBad, DirectoryLine.TheVariants.RootNone}
use Rattle.ffs_volume.specs.declared.tree_lines.ReferenceLine.TheVariants.{UnrefDir}

-- an inode of this mode, count of links and size, with its first address
unfoldable pub dinode_bytes : Order → (mode nlink size address : ℕ) → List ℕ
dinode_bytes o mode nlink size address =
    bytes_in o 2 mode ++ (bytes_in o 2 nlink ++ (zero_bytes 4 ++ (bytes_in o 8 size
    ++ (zero_bytes 24 ++ (word o address ++ (zero_bytes 60 ++ (word o 2 ++ zero_bytes 20)))))))

-- a chunk with `.` and `..`, and these bytes of entries after them
unfoldable pub dir_chunk : Order → ℕ → List ℕ → List ℕ
dir_chunk o d entries = entry_bytes o d 12 4 one_dot ++ (entry_bytes o 2 12 4 two_dots ++ entries)

-- a directory inode 3 at fragment 37, and a root whose chunk this is. No superblock, and no group block
unfoldable pub two_dirs : List ℕ → List ℕ
two_dirs chunk =
    zero_bytes 28928 ++ (dinode_bytes Little 16877 3 512 36 ++ (dinode_bytes Little 16877 2 512 37
    ++ (zero_bytes 7680 ++ (chunk ++ (zero_bytes 512
    ++ (dir_chunk Little 3 (entry_bytes Little 0 488 0 []) ++ zero_bytes 512))))))

unfoldable pub named_dir : List ℕ
named_dir = two_dirs (dir_chunk Little 2 (entry_bytes Little 3 488 4 (100 ∷ [])))

unfoldable pub unnamed_dir : List ℕ
unnamed_dir = two_dirs (root_chunk Little)

-- two files `a` and `b` that share the fragment 37, in the big order, with a group block and a
-- summary record that are right for it
unfoldable pub shared_summary : List ℕ
shared_summary = word Big 1 ++ (word Big 22 ++ (word Big 27 ++ word Big 5))

unfoldable pub shared_group : List ℕ
shared_group =
    zero_bytes 4 ++ (word Big 590421 ++ (zero_bytes 4 ++ (word Big 0 ++ (zero_bytes 4
    ++ (word Big 128 ++ (shared_summary ++ (zero_bytes 12 ++ (word Big 0 ++ (word Big 0 ++ (word Big 1
    ++ (word Big 1 ++ (zero_bytes 16 ++ (zero_bytes 8 ++ (word Big 168 ++ (word Big 172 ++ (zero_bytes 68
    ++ ((31 ∷ 0 ∷ 0 ∷ 0 ∷ 0 ∷ 0 ∷ 0 ∷ 0 ∷ 206 ∷ []) ++ replicate 11 255)))))))))))))))))

unfoldable pub shared_image : List ℕ
shared_image =
    zero_bytes 24576 ++ (shared_group ++ (zero_bytes 4164 ++ (dinode_bytes Big 16877 2 512 36
    ++ (dinode_bytes Big 33188 1 100 37 ++ (dinode_bytes Big 33188 1 100 37 ++ (zero_bytes 3456
    ++ (shared_summary ++ (zero_bytes 4080
    ++ (dir_chunk Big 2 (entry_bytes Big 3 12 8 (97 ∷ []) ++ entry_bytes Big 4 476 8 (98
    ∷ [])) ++ zero_bytes 3584)))))))))

unfoldable pub shared_superblock : Superblock
shared_superblock = record {
  layout = base_layout Big;
  optim = pos 0;
  minfree = pos 10;
  cstotal = pos 1 ∷ pos 22 ∷ pos 27 ∷ pos 5 ∷ [];
  mount = mount_bytes ++ zero_bytes 508;
}

abbrev pub about_file : ℕ → Attr
about_file x = record { number = x; uid = 0; mode = 33188; size = 100; mtime = pos 0 }

-- a report without a defect
abbrev pub clean_lines : List Message
clean_lines = mounted mount_bytes ∷ phase1 ∷ phase2 ∷ phase3 ∷ phase4 ∷ phase5
    ∷ summary 1 1 (pos 94) (pos 6) (pos 22) (pos 63) ∷ []

pub record ReportExamples : Type 0 where
  -- the base image, called t.img, in both orders: its report and its end, and so it is consistent
  pub base : report_of (base_image Little) (codes "t.img") None ≡ image_name (codes "t.img") ∷ clean_lines
  pub base_big : report_of (base_image Big) (codes "t.img") None ≡ image_name (codes "t.img") ∷ clean_lines
  pub base_end : report_end (base_image Little) None ≡ Consistent
  pub base_right : IsConsistent (base_image Little) (base_superblock Little)
  pub base_big_right : IsConsistent (base_image Big) (base_superblock Big)
  -- two files with one fragment
  pub shared : report_lines shared_image shared_superblock
      ≡ mounted mount_bytes ∷ phase1 ∷ of_blocks (Dup 37 4) ∷ phase1b ∷ of_blocks (Dup 37 3)
      ∷ phase2 ∷ of_tree (of_entry (DupBad FileLabel (about_file 3) (47 ∷ 97 ∷ [])))
      ∷ of_tree (of_entry (DupBad FileLabel (about_file 4) (47 ∷ 98 ∷ [])))
      ∷ phase3 ∷ phase4 ∷ phase5 ∷ summary 3 2 (pos 93) (pos 5) (pos 22) (pos 52) ∷ []
  -- no root: the run stops
  pub stopped : phase_lines (zero_bytes 40960) (base_superblock Little)
      ≡ phase1 ∷ phase2 ∷ of_tree (of_directory RootNone) ∷ []
  -- a directory below the root, and the same without its name
  pub named_pathnames : pathname_lines (volume_of (base_layout Little) named_dir) ≡ []
  pub named_connected : connectivity_lines (volume_of (base_layout Little) named_dir) ≡ []
  pub named_references : reference_lines (volume_of (base_layout Little) named_dir) ≡ []
  pub unnamed : connectivity_lines (volume_of (base_layout Little) unnamed_dir)
      ≡ of_reference (UnrefDir (record { number = 3; uid = 0; mode = 16877; size = 512; mtime = pos 0 })) ∷ []
