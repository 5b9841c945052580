-- The bytes of reports and of messages, the ends of runs, and what a check may hold.
use Rattle.std.specs.Prelude.{◌≡◌, [], ◌∷◌, ◌++◌, pos, negsuc, Some, None, map, codes, true, false}
use Rattle.ffs_volume.specs.declared.{Attr.Attr, BlockMessage.TheVariants.{PartAlloc, UnknownType, Bad, ManyBad}}
use Rattle.ffs_volume.specs.declared.BlockMessage.TheVariants.{ManyDup, PartTrunc, BlockCount, GroupMagic, FreeCounts}
use Rattle.ffs_volume.specs.declared.{BlockMessage.TheVariants.{MapsWrong, GroupSums}, End.TheVariants.Consistent}
use Rattle.ffs_volume.specs.declared.End.TheVariants.{Defects, Refused, RootStop, ReadFault, WriteFault, NoMemory}
use Rattle.ffs_volume.specs.declared.Label.TheVariants.{Dir as DirLabel, File as FileLabel, Name as NameLabel}
use Rattle.ffs_volume.specs.declared.{Order.TheVariants.Little, SuperFault.TheVariants.{Magic, InodeFormat, Ncg, Cpg}}
use Rattle.ffs_volume.specs.declared.SuperFault.TheVariants.{Ncyl, TooLarge, Shape, Short, Disagree}
use Rattle.ffs_volume.specs.Messages.Kinds.{bad_super, cannot_read, cannot_alloc, optimization, minfree, mounted}
use Rattle.ffs_volume.specs.Messages.Kinds.{phase1, of_blocks, of_tree, summary, is_defect, of_directory, of_dot}
use Rattle.ffs_volume.specs.{Messages.{Kinds.{of_entry, of_reference}, Texts.texts_of}, Report.Opening.opening_of}
use Rattle.ffs_volume.specs.Report.{Memory.{held_limit, runs_limit}, Whole.{report_lines, report_of, end_by, status_of}}
use Rattle.ffs_volume.specs.Examples.Images.{base_layout, base_image}
use Rattle.ffs_volume.specs.declared.tree_lines.DirectoryLine.TheVariants.{RootNone, RootNotDir, RootSuspect, DirShort}
use Rattle.ffs_volume.specs.declared.tree_lines.DirectoryLine.TheVariants.{DirLength, DirHoles, DirCorrupt}
use Rattle.ffs_volume.specs.declared.tree_lines.DotLine.TheVariants.{MissingDot, MissingDotFirst, NumberDot, TypeDot}
use Rattle.ffs_volume.specs.declared.tree_lines.DotLine.TheVariants.{MissingDotdot, MissingDotdotSecond, NumberDotdot}
use Rattle.ffs_volume.specs.declared.tree_lines.DotLine.TheVariants.{TypeDotdot, ExtraDot, ExtraDotdot}
use Rattle.ffs_volume.specs.declared.tree_lines.EntryLine.TheVariants.{OutOfRange, BadWhiteout, Unallocated, DupBad}
use Rattle.ffs_volume.specs.declared.tree_lines.EntryLine.TheVariants.{ZeroDir, Extraneous, TypeEntry}
use Rattle.ffs_volume.specs.declared.tree_lines.ReferenceLine.TheVariants.{UnrefDir, DeadMarked, DeadZero, Unref}
use Rattle.ffs_volume.specs.declared.tree_lines.ReferenceLine.TheVariants.{UnrefZero, LinkCount}
use Rattle.ffs_certificate.specs.ReportExamples.{shared_image, shared_superblock, about_file}

abbrev pub about_most : Attr
about_most = record { number = 5; uid = 4294967295; mode = 33152; size = 18446744073709551615; mtime = negsuc 0 }

abbrev pub about_root : Attr
about_root = record { number = 2; uid = 0; mode = 16877; size = 512; mtime = pos 0 }

pub record MessageExamples : Type 0 where
  -- all bytes for the base image and for two files that share a fragment
  pub base : texts_of (report_of (base_image Little) (codes "t.img") None)
      ≡ codes "** t.img (NO WRITE)\n** Last Mounted on /mnt\n** Phase 1 - Check Blocks and Sizes\n"
      ++ codes "** Phase 2 - Check Pathnames\n** Phase 3 - Check Connectivity\n** Phase 4 - Check Reference Counts\n"
      ++ codes "** Phase 5 - Check Cyl groups\n1 files, 1 used, 94 free (6 frags, 22 blocks, 6.3% fragmentation)\n"
  pub shared : texts_of (report_lines shared_image shared_superblock)
      ≡ codes "** Last Mounted on /mnt\n** Phase 1 - Check Blocks and Sizes\n37 DUP I=4\n"
      ++ codes "** Phase 1b - Rescan For More DUPS\n37 DUP I=3\n** Phase 2 - Check Pathnames\n"
      ++ codes "DUP/BAD I=3 OWNER=0 MODE=100644\nSIZE=100 MTIME=0\nFILE=/a\nREMOVE? no\n\n"
      ++ codes "DUP/BAD I=4 OWNER=0 MODE=100644\nSIZE=100 MTIME=0\nFILE=/b\nREMOVE? no\n\n"
      ++ codes "** Phase 3 - Check Connectivity\n** Phase 4 - Check Reference Counts\n** Phase 5 - Check Cyl groups\n"
      ++ codes "3 files, 2 used, 93 free (5 frags, 22 blocks, 5.2% fragmentation)\n"
  -- no image at all
  pub none : texts_of (opening_of [] (codes "t.img") (Some 1))
      ≡ codes "Alternate super block location: 1\n** t.img (NO WRITE)\nCAN NOT READ: BLK 1\n"
  pub refused : texts_of (bad_super Magic ∷ bad_super InodeFormat ∷ bad_super Ncg ∷ bad_super Cpg ∷ bad_super Ncyl
      ∷ bad_super TooLarge ∷ bad_super Shape ∷ bad_super Short ∷ bad_super Disagree ∷ cannot_alloc ∷ [])
      ≡ codes "BAD SUPER BLOCK: MAGIC NUMBER WRONG\nBAD SUPER BLOCK: INODE FORMAT NOT SUPPORTED\n"
      ++ codes "BAD SUPER BLOCK: NCG OUT OF RANGE\nBAD SUPER BLOCK: CPG OUT OF RANGE\n"
      ++ codes "BAD SUPER BLOCK: NCYL DOES NOT JIVE WITH NCG*CPG\nBAD SUPER BLOCK: SIZE PREPOSTEROUSLY LARGE\n"
      ++ codes "BAD SUPER BLOCK: GEOMETRY OUT OF RANGE\nBAD SUPER BLOCK: SIZE LARGER THAN IMAGE\n"
      ++ codes "BAD SUPER BLOCK: VALUES DISAGREE WITH LAST ALTERNATE\ncannot alloc maps\n"
  pub settings : texts_of (optimization ∷ minfree (negsuc 4) ∷ [])
      ≡ codes "UNDEFINED OPTIMIZATION IN SUPERBLOCK\nSET TO DEFAULT? no\n\nIMPOSSIBLE MINFREE=-5 IN SUPERBLOCK\n"
      ++ codes "SET TO DEFAULT? no\n\n"
  -- the block check and the check of groups
  pub blocks : texts_of (of_blocks (PartAlloc 7) ∷ of_blocks (UnknownType 8) ∷ of_blocks (Bad 200 3)
      ∷ of_blocks (ManyBad 3) ∷ of_blocks (ManyDup 4) ∷ of_blocks (PartTrunc 5) ∷ of_blocks (BlockCount 3 16 96)
      ∷ of_blocks (GroupMagic 1) ∷ of_blocks FreeCounts ∷ of_blocks MapsWrong ∷ of_blocks GroupSums ∷ [])
      ≡ codes "PARTIALLY ALLOCATED INODE I=7\nCLEAR? no\n\nUNKNOWN FILE TYPE I=8\nCLEAR? no\n\n200 BAD I=3\n"
      ++ codes "EXCESSIVE BAD BLKS I=3\nCONTINUE? yes\n\nEXCESSIVE DUP BLKS I=4\nCONTINUE? yes\n\n"
      ++ codes "PARTIALLY TRUNCATED INODE I=5\nSALVAGE? no\n\nINCORRECT BLOCK COUNT I=3 (16 should be 96)\n"
      ++ codes "CORRECT? no\n\nCG 1: BAD MAGIC NUMBER\nFREE BLK COUNT(S) WRONG IN SUPERBLK\nSALVAGE? no\n\n"
      ++ codes "BLK(S) MISSING IN BIT MAPS\nSALVAGE? no\n\nSUMMARY INFORMATION BAD\nSALVAGE? no\n\n"
  -- the root, and directories. Control bytes show as question marks
  pub roots : texts_of (of_tree (of_directory RootNone) ∷ of_tree (of_directory RootNotDir)
      ∷ of_tree (of_directory RootSuspect) ∷ [])
      ≡ codes "ROOT INODE UNALLOCATED\nALLOCATE? no\n\nROOT INODE NOT DIRECTORY\nREALLOCATE? no\n\nFIX? no\n\n"
      ++ codes "DUPS/BAD IN ROOT INODE\nREALLOCATE? no\n\nCONTINUE? yes\n\n"
  pub dirs : texts_of (of_tree (of_directory (DirShort about_root (codes "/a")))
      ∷ of_tree (of_directory (DirLength (codes "/a") 600)) ∷ of_tree (of_directory (DirHoles (codes "/a")))
      ∷ of_tree (of_directory (DirCorrupt about_root (codes "/a"))) ∷ [])
      ≡ codes "DIRECTORY TOO SHORT I=2 OWNER=0 MODE=40755\nSIZE=512 MTIME=0\nDIR=/a\nFIX? no\n\n"
      ++ codes "DIRECTORY /a: LENGTH 600 NOT MULTIPLE OF 512\nADJUST? no\n\n"
      ++ codes "DIRECTORY /a: CONTAINS EMPTY BLOCKS\nADJUST LENGTH? no\n\n"
      ++ codes "DIRECTORY CORRUPTED I=2 OWNER=0 MODE=40755\nSIZE=512 MTIME=0\nDIR=/a\nSALVAGE? no\n\n"
  -- the entries `.` and `..`
  pub dots : texts_of (of_tree (of_dot (MissingDot about_root (codes "/")))
      ∷ of_tree (of_dot (MissingDotFirst about_root (codes "/") (98 ∷ 10 ∷ [])))
      ∷ of_tree (of_dot (NumberDot about_root (codes "/"))) ∷ of_tree (of_dot (TypeDot about_root (codes "/")))
      ∷ of_tree (of_dot (ExtraDot about_root (codes "/"))) ∷ [])
      ≡ codes "MISSING '.' I=2 OWNER=0 MODE=40755\nSIZE=512 MTIME=0\nDIR=/\nFIX? no\n\n"
      ++ codes "MISSING '.' I=2 OWNER=0 MODE=40755\nSIZE=512 MTIME=0\nDIR=/\n"
      ++ codes "CANNOT FIX, FIRST ENTRY IN DIRECTORY CONTAINS b?\n"
      ++ codes "BAD INODE NUMBER FOR '.' I=2 OWNER=0 MODE=40755\nSIZE=512 MTIME=0\nDIR=/\nFIX? no\n\n"
      ++ codes "BAD TYPE VALUE FOR '.' I=2 OWNER=0 MODE=40755\nSIZE=512 MTIME=0\nDIR=/\nFIX? no\n\n"
      ++ codes "EXTRA '.' ENTRY I=2 OWNER=0 MODE=40755\nSIZE=512 MTIME=0\nDIR=/\nFIX? no\n\n"
  pub dotdots : texts_of (of_tree (of_dot (MissingDotdot about_root (codes "/")))
      ∷ of_tree (of_dot (MissingDotdotSecond about_root (codes "/") (codes "c")))
      ∷ of_tree (of_dot (NumberDotdot about_root (codes "/"))) ∷ of_tree (of_dot (TypeDotdot about_root (codes "/")))
      ∷ of_tree (of_dot (ExtraDotdot about_root (codes "/"))) ∷ [])
      ≡ codes "MISSING '..' I=2 OWNER=0 MODE=40755\nSIZE=512 MTIME=0\nDIR=/\nFIX? no\n\n"
      ++ codes "MISSING '..' I=2 OWNER=0 MODE=40755\nSIZE=512 MTIME=0\nDIR=/\n"
      ++ codes "CANNOT FIX, SECOND ENTRY IN DIRECTORY CONTAINS c\n"
      ++ codes "BAD INODE NUMBER FOR '..' I=2 OWNER=0 MODE=40755\nSIZE=512 MTIME=0\nDIR=/\nFIX? no\n\n"
      ++ codes "BAD TYPE VALUE FOR '..' I=2 OWNER=0 MODE=40755\nSIZE=512 MTIME=0\nDIR=/\nFIX? no\n\n"
      ++ codes "EXTRA '..' ENTRY I=2 OWNER=0 MODE=40755\nSIZE=512 MTIME=0\nDIR=/\nFIX? no\n\n"
  -- other entries
  pub entries : texts_of (of_tree (of_entry (OutOfRange 32 (47 ∷ 99 ∷ 10 ∷ 127 ∷ [])))
      ∷ of_tree (of_entry (BadWhiteout 1 (codes "/w"))) ∷ of_tree (of_entry (Unallocated (about_file 3) (codes "/a")))
      ∷ of_tree (of_entry (DupBad NameLabel (about_file 3) (codes "/a")))
      ∷ of_tree (of_entry (ZeroDir about_root (codes "/d"))) ∷ of_tree
      (of_entry (Extraneous (codes "/b") (codes "/a")))
      ∷ of_tree (of_entry (TypeEntry DirLabel (about_file 3) (codes "/a"))) ∷ [])
      ≡ codes "I OUT OF RANGE I=32\nNAME=/c??\nREMOVE? no\n\nBAD WHITEOUT ENTRY I=1\nNAME=/w\nFIX? no\n\n"
      ++ codes "UNALLOCATED I=3 OWNER=0 MODE=100644\nSIZE=100 MTIME=0\nNAME=/a\nREMOVE? no\n\n"
      ++ codes "DUP/BAD I=3 OWNER=0 MODE=100644\nSIZE=100 MTIME=0\nNAME=/a\nREMOVE? no\n\n"
      ++ codes "ZERO LENGTH DIRECTORY I=2 OWNER=0 MODE=40755\nSIZE=512 MTIME=0\nDIR=/d\nREMOVE? no\n\n"
      ++ codes "/b IS AN EXTRANEOUS HARD LINK TO DIRECTORY /a\nREMOVE? no\n\n"
      ++ codes "BAD TYPE VALUE I=3 OWNER=0 MODE=100644\nSIZE=100 MTIME=0\nDIR=/a\nFIX? no\n\n"
  -- inodes with the greatest numbers; all that is no directory is called a file
  pub inodes : texts_of (of_tree (of_reference (UnrefDir about_root)) ∷ of_tree
      (of_reference (DeadMarked NameLabel (about_file 3)))
      ∷ of_tree (of_reference (DeadZero about_root)) ∷ of_tree (of_reference (Unref FileLabel about_most))
      ∷ of_tree (of_reference (UnrefZero DirLabel about_root)) ∷ of_tree
      (of_reference (LinkCount DirLabel about_root (negsuc 1) 3)) ∷ [])
      ≡ codes "UNREF DIR I=2 OWNER=0 MODE=40755\nSIZE=512 MTIME=0\nRECONNECT? no\n\n"
      ++ codes "BAD/DUP FILE I=3 OWNER=0 MODE=100644\nSIZE=100 MTIME=0\nCLEAR? no\n\n"
      ++ codes "ZERO LENGTH DIR I=2 OWNER=0 MODE=40755\nSIZE=512 MTIME=0\nCLEAR? no\n\n"
      ++ codes "UNREF FILE I=5 OWNER=4294967295 MODE=100600\nSIZE=18446744073709551615 MTIME=-1\nRECONNECT? no\n\n"
      ++ codes "CLEAR? no\n\nUNREF DIR I=2 OWNER=0 MODE=40755\nSIZE=512 MTIME=0\nCLEAR? no\n\n"
      ++ codes "LINK COUNT DIR I=2 OWNER=0 MODE=40755\nSIZE=512 MTIME=0\nCOUNT=-2 SHOULD BE 3\nADJUST? no\n\n"
  -- tenths below zero
  pub summaries : texts_of (summary 1 2 (pos 3) (negsuc 0) (pos 1) (negsuc 9)
      ∷ summary 0 0 (negsuc 0) (negsuc 0) (pos 0) (negsuc 4) ∷ summary 0 0 (pos 0) (pos 0) (pos 0) (pos 0) ∷ [])
      ≡ codes "1 files, 2 used, 3 free (-1 frags, 1 blocks, -1.0% fragmentation)\n"
      ++ codes "0 files, 0 used, -1 free (-1 frags, 0 blocks, -0.5% fragmentation)\n"
      ++ codes "0 files, 0 used, 0 free (0 frags, 0 blocks, 0.0% fragmentation)\n"
  -- which report a defect
  pub defects : map is_defect (cannot_read 16 ∷ mounted [] ∷ phase1 ∷ optimization ∷ of_blocks (Bad 200 3)
      ∷ of_tree (of_directory RootSuspect) ∷ [])
      ≡ false ∷ false ∷ false ∷ true ∷ true ∷ true ∷ []
  -- ends and statuses; what a check of the base volume may hold and look at
  pub ends : (end_by true false ≡ Consistent) × (end_by true true ≡ Defects) × (end_by false true ≡ RootStop)
  pub statuses : map status_of (Consistent ∷ Defects ∷ Refused Magic ∷ RootStop ∷ ReadFault 5 ∷ WriteFault ∷ NoMemory
      ∷ [])
      ≡ 0 ∷ 1 ∷ 8 ∷ 8 ∷ 8 ∷ 8 ∷ 8 ∷ []
  pub limits : (held_limit (base_layout Little) ≡ 37712) × (runs_limit (base_layout Little) ≡ 832)
