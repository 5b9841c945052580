-- Classes and steps of inodes, and what the block check and the check of groups report.
use Rattle.std.specs.Prelude.{◌≡◌, ℕ, ◌+◌, ◌-◌, ◌==◌, ◌&&◌, not, List, [], ◌∷◌, ◌++◌, pos, Some, None, length, map}
use Rattle.std.specs.{Prelude.{replicate, Bool, true, false, if◌then◌else◌}, List.range_with_len}
use Rattle.ffs_volume.specs.declared.{Order.{Order, TheVariants.{Little, Big}}, Inode.Inode, Class.Class}
use Rattle.ffs_volume.specs.declared.{Class.TheVariants.{Free, Partial, Unknown, File, Dir}, Step.Step}
use Rattle.ffs_volume.specs.declared.{Step.TheVariants.{Run, Tail, Gap}, BlockMessage.BlockMessage}
use Rattle.ffs_volume.specs.declared.BlockMessage.TheVariants.{PartAlloc, UnknownType, Bad, Dup, ManyBad, ManyDup}
use Rattle.ffs_volume.specs.declared.BlockMessage.TheVariants.{PartTrunc, BlockCount, GroupMagic, FreeCounts, MapsWrong}
use Rattle.ffs_volume.specs.{declared.BlockMessage.TheVariants.GroupSums, Blocks.Inodes.{inode_of, class_of}}
use Rattle.ffs_volume.specs.Blocks.{Steps.steps_of, Owners.{Owner, owners_of}, Claims.{no_claims, is_set, after_owners}}
use Rattle.ffs_volume.specs.Blocks.{KeptOffers.kept_in_owners, BlockCheck.{phase1_lines, phase1b_lines}}
use Rattle.ffs_volume.specs.{Blocks.KeptByRule.{all_offers, kept_by_rule}, Groups.Records.right_group_counts}
use Rattle.ffs_volume.specs.Groups.{Records.{right_frsum, right_total}, GroupCheck.{phase5_lines, reported_once}}
use Rattle.ffs_volume.specs.{Groups.GroupCheck.unreported, Consistent.GroupsRight.is_free_of_runs, Examples.Images.word}
use Rattle.ffs_volume.specs.Examples.Images.{zero_bytes, changed, base_layout, base_image, two_groups}

-- an inode of this mode and size with these addresses, and zeros after them
unfoldable pub inode : (mode size : ℕ) → List ℕ → Inode
inode mode size addresses = record {
  mode = mode;
  nlink = pos 1;
  size = size;
  mtime = pos 0;
  addresses = addresses ++ replicate (15 - length addresses) 0;
  blocks = 0;
  uid = 0;
}

-- an inode of a regular file, and an image with these bytes at fragments 40 and 44
unfoldable pub file_inode : ℕ → List ℕ → Inode
file_inode size addresses = inode 33188 size addresses

unfoldable pub words_at : Order → (first second : List ℕ) → List ℕ
words_at order first second = zero_bytes 40960 ++ (first ++ (zero_bytes (4096 - length first) ++ second))

-- the classes of inodes
pub record ClassExamples : Type 0 where
  -- of the base image's inodes in both orders
  pub base : map (λ x. class_of (base_layout Little) (inode_of (base_layout Little) (base_image Little) x))
      (2 ∷ 3 ∷ 31 ∷ []) ≡ Dir ∷ Free ∷ Free ∷ []
  pub base_big : map (λ x. class_of (base_layout Big) (inode_of (base_layout Big) (base_image Big) x)) (2 ∷ 3 ∷ [])
      ≡ Dir ∷ Free ∷ []
  -- no type: nothing set, or something
  pub none : map (class_of (base_layout Little)) (inode 0 0 [] ∷ inode 420 0 [] ∷ inode 0 1 [] ∷ inode 0 0 (1 ∷ [])
      ∷ []) ≡ Free ∷ Partial ∷ Partial ∷ Partial ∷ []
  -- the seven types, with nothing else, and 3, which is no type
  pub types : map (λ kind. class_of (base_layout Little) (inode kind 0 []))
      (4096 ∷ 8192 ∷ 16384 ∷ 24576 ∷ 32768 ∷ 40960 ∷ 49152 ∷ 12288 ∷ [])
      ≡ File ∷ File ∷ Dir ∷ File ∷ File ∷ File ∷ File ∷ Unknown ∷ []
  -- an address that the size doesn't use, and one that it uses, each direct and indirect
  pub unused : map (class_of (base_layout Little)) (file_inode 4096 (36 ∷ 40 ∷ []) ∷ file_inode 4097 (36 ∷ 40 ∷ [])
      ∷ file_inode 49152 (replicate 12 36 ++ 40 ∷ []) ∷ file_inode 49153 (replicate 12 36 ++ 40 ∷ []) ∷ [])
      ≡ Unknown ∷ File ∷ Unknown ∷ File ∷ []
  -- a device may set one address more; a short symlink has its text in place of addresses
  pub device : map (class_of (base_layout Little)) (inode 8612 0 (5 ∷ []) ∷ inode 8612 0 (5 ∷ 6 ∷ [])
      ∷ inode 25012 0 (5 ∷ []) ∷ []) ≡ File ∷ Unknown ∷ File ∷ []
  pub symlink : map (class_of (base_layout Little)) (inode 41471 5 (1 ∷ 2 ∷ []) ∷ inode 41471 5 (1 ∷ 2 ∷ 3 ∷ [])
      ∷ inode 41471 60 (36 ∷ 2 ∷ []) ∷ []) ≡ File ∷ Unknown ∷ Unknown ∷ []
  -- too large
  pub large : map (class_of (base_layout Little)) (inode 16877 2147483647 [] ∷ inode 16877 2147483648 []
      ∷ file_inode 4402345721856 [] ∷ file_inode 4402345721857 [] ∷ []) ≡ Dir ∷ Unknown ∷ File ∷ Unknown ∷ []

-- the steps of inodes
pub record StepExamples : Type 0 where
  -- the base image's root
  pub base : steps_of (base_layout Little) (inode_of (base_layout Little) (base_image Little) 2) (base_image Little)
      ≡ Run 36 1 (Some 0) ∷ []
  pub base_big : steps_of (base_layout Big) (inode_of (base_layout Big) (base_image Big) 2) (base_image Big)
      ≡ Run 36 1 (Some 0) ∷ []
  -- whole blocks, a hole, and a last block of two fragments; a whole last block
  pub direct : steps_of (base_layout Little) (file_inode 9300 (36 ∷ 0 ∷ 44 ∷ [])) []
      ≡ Run 36 4 (Some 0) ∷ Gap ∷ Run 44 2 (Some 2) ∷ []
  pub whole : steps_of (base_layout Little) (file_inode 8192 (36 ∷ 40 ∷ [])) []
      ≡ Run 36 4 (Some 0) ∷ Run 40 4 (Some 1) ∷ []
  -- a device and a short symlink have none
  pub device : steps_of (base_layout Little) (inode 8612 0 (5 ∷ [])) [] ≡ []
  pub symlink : steps_of (base_layout Little) (inode 41471 5 (1 ∷ 2 ∷ [])) [] ≡ []
  -- two blocks under an indirect one, the last of them whole; an address past the end of the file
  pub single : steps_of (base_layout Little) (file_inode 53300 (replicate 12 0 ++ 40 ∷ []))
      (words_at Little (word Little 44 ++ word Little 48) [])
      ≡ replicate 12 Gap ++ (Run 40 4 None ∷ Run 44 4 (Some 12) ∷ Run 48 4 (Some 13) ∷ [])
  pub tail : steps_of (base_layout Big) (file_inode 53248 (replicate 12 0 ++ 40 ∷ []))
      (words_at Big (word Big 44 ++ word Big 99) [])
      ≡ replicate 12 Gap ++ (Run 40 4 None ∷ Tail ∷ Run 44 4 (Some 12) ∷ [])
  -- an indirect block that isn't in range isn't looked into
  pub out_of_range : steps_of (base_layout Little) (file_inode 53248 (replicate 12 0 ++ 126 ∷ []))
      (words_at Little (word Little 44) []) ≡ replicate 12 Gap ++ (Run 126 4 None ∷ [])
  -- below a doubly indirect block
  pub double : steps_of (base_layout Little) (file_inode 4243457 (replicate 13 0 ++ 40 ∷ []))
      (words_at Little (word Little 44) (word Little 48))
      ≡ replicate 13 Gap ++ (Run 40 4 None ∷ Run 44 4 None ∷ Run 48 4 (Some 1036) ∷ [])

-- the root, and a file of these steps
unfoldable pub root : Owner
root = record { number = 2; class = Dir; steps = Run 36 1 (Some 0) ∷ []; blocks = 2 }

unfoldable pub file : ℕ → List Step → ℕ → Owner
file n steps blocks = record { number = n; class = File; steps = steps; blocks = blocks }

-- n Runs, all of the same four fragments from `start` on, as the logical blocks of a file
unfoldable pub blocks_at : ℕ → ℕ → List Step
blocks_at start n = map (λ b. Run start 4 (Some b)) (range_with_len 0 n)

-- what phase 1 reports of the base volume with these files, and what phase 1b reports
unfoldable pub first_reported : List Owner → List BlockMessage
first_reported files = phase1_lines (base_layout Little) (root ∷ files)

unfoldable pub second_reported : List Owner → List BlockMessage
second_reported files = phase1b_lines (base_layout Little) (root ∷ files)

-- what phases 1 and 1b report
pub record ClaimExamples : Type 0 where
  -- the base image in both orders
  pub base : phase1_lines (base_layout Little) (owners_of (base_layout Little) (base_image Little)) ≡ []
  pub base_big : phase1_lines (base_layout Big) (owners_of (base_layout Big) (base_image Big)) ≡ []
  -- two files with one fragment; a reserved fragment
  pub shared : first_reported (file 3 (Run 37 1 (Some 0) ∷ []) 2 ∷ file 4 (Run 37 1 (Some 0) ∷ []) 2 ∷ [])
      ≡ Dup 37 4 ∷ []
  pub shared_again : second_reported (file 3 (Run 37 1 (Some 0) ∷ []) 2 ∷ file 4 (Run 37 1 (Some 0) ∷ []) 2 ∷ [])
      ≡ Dup 37 3 ∷ []
  pub reserved : first_reported (file 3 (Run 5 1 (Some 0) ∷ []) 2 ∷ []) ≡ Dup 5 3 ∷ []
  pub reserved_again : second_reported (file 3 (Run 5 1 (Some 0) ∷ []) 2 ∷ []) ≡ Dup 5 3 ∷ []
  -- eleven of twelve bad Runs are reported; ten of them, and two good ones
  pub many_bad : first_reported (file 3 (blocks_at 200 12) 0 ∷ []) ≡ replicate 11 (Bad 200 3) ++ (ManyBad 3 ∷ [])
  pub ten_bad : first_reported (file 3 (blocks_at 200 10 ++ (Run 40 4 (Some 10) ∷ Run 44 4 (Some 11) ∷ [])) 16 ∷ [])
      ≡ replicate 10 (Bad 200 3) ++ (BlockCount 3 16 96 ∷ [])
  -- the eleventh dup offer is reported and kept, and nothing after it
  pub many_dup : first_reported (file 3 (blocks_at 5 3 ++ (Tail ∷ Run 200 4 (Some 3) ∷ [])) 7 ∷ [])
      ≡ Dup 5 3 ∷ Dup 6 3 ∷ Dup 7 3 ∷ Dup 8 3 ∷ Dup 5 3 ∷ Dup 6 3 ∷ Dup 7 3 ∷ Dup 8 3 ∷ Dup 5 3 ∷ Dup 6 3 ∷ Dup 7 3
      ∷ ManyDup 3 ∷ []
  pub many_dup_kept : (after_owners (base_layout Little) (no_claims (base_layout Little))
      (root ∷ file 3 (blocks_at 5 3) 7 ∷ [])).kept ≡ 11
  -- a Run over the end, whose first two fragments are claimed
  pub past_end : first_reported (file 3 (Run 126 4 (Some 0) ∷ []) 8 ∷ []) ≡ Bad 126 3 ∷ []
  pub past_end_used : map (is_set (after_owners (base_layout Little) (no_claims (base_layout Little))
      (root ∷ file 3 (Run 126 4 (Some 0) ∷ []) 8 ∷ [])).used) (range_with_len 125 5)
      ≡ false ∷ true ∷ true ∷ false ∷ false ∷ []
  -- an indirect block that names itself
  pub itself : first_reported (file 3 (Run 40 4 None ∷ Run 40 4 (Some 12) ∷ []) 16 ∷ [])
      ≡ Dup 40 3 ∷ Dup 41 3 ∷ Dup 42 3 ∷ Dup 43 3 ∷ []
  pub itself_again : second_reported (file 3 (Run 40 4 None ∷ Run 40 4 (Some 12) ∷ []) 16 ∷ [])
      ≡ Dup 40 3 ∷ Dup 41 3 ∷ Dup 42 3 ∷ Dup 43 3 ∷ []
  -- two Tails of one inode, reported once; the classes that are reported
  pub truncated : first_reported (file 3 (Run 40 4 None ∷ Tail ∷ Run 44 4 (Some 12) ∷ Tail ∷ []) 16 ∷ [])
      ≡ PartTrunc 3 ∷ []
  pub classes : first_reported (record { number = 3; class = Partial; steps = []; blocks = 1 }
      ∷ record { number = 4; class = Unknown; steps = []; blocks = 1 }
      ∷ record { number = 5; class = Free; steps = []; blocks = 1 } ∷ [])
      ≡ PartAlloc 3 ∷ UnknownType 4 ∷ []
  -- the rule of `KeptByRule` keeps the same offers as `KeptOffers`
  pub by_rule : kept_in_owners (base_layout Little) (no_claims (base_layout Little))
      (root ∷ file 3 (blocks_at 5 3) 7 ∷ [])
      ≡ kept_by_rule (base_layout Little) [] (all_offers (base_layout Little) (root ∷ file 3 (blocks_at 5 3) 7 ∷ []))

-- the free fragments of the base volume and of `two_groups`, and the classes of both
unfoldable pub base_free : ℕ → Bool
base_free f = is_free_of_runs (base_layout Little) (root ∷ []) f

unfoldable pub two_free : ℕ → Bool
two_free f = is_free_of_runs (two_groups Little) (root ∷ []) f

unfoldable pub base_class : ℕ → Class
base_class x = if x == 2 then Dir else Free

-- what phase 5 reports of the base image, where these fragments are free and the superblock's total
-- of loose fragments is this
unfoldable pub groups_reported : Order → (ℕ → Bool) → ℕ → List BlockMessage
groups_reported order free loose = phase5_lines (base_layout order) (base_image order)
    (pos 1 ∷ pos 22 ∷ pos 29 ∷ pos loose ∷ []) free base_class

-- the right counts of groups, and what phase 5 reports
pub record GroupExamples : Type 0 where
  pub base_sums : right_group_counts (base_layout Little) base_free base_class 0
      ≡ record { dirs = 1; blocks = 22; inodes = 29; fragments = 6 }
  pub base_pieces : map (right_frsum (base_layout Little) base_free 0) (range_with_len 0 8)
      ≡ 0 ∷ 0 ∷ 0 ∷ 2 ∷ 0 ∷ 0 ∷ 0 ∷ 0 ∷ []
  -- the second group's last block is cut short by the size
  pub second_sums : right_group_counts (two_groups Little) two_free base_class 1
      ≡ record { dirs = 0; blocks = 26; inodes = 32; fragments = 2 }
  pub second_pieces : map (right_frsum (two_groups Little) two_free 1) (range_with_len 0 8)
      ≡ 0 ∷ 0 ∷ 1 ∷ 0 ∷ 0 ∷ 0 ∷ 0 ∷ 0 ∷ []
  pub total : right_total (two_groups Little) two_free base_class
      ≡ record { dirs = 1; blocks = 48; inodes = 61; fragments = 8 }
  -- the base image in both orders; a total that is wrong
  pub base : groups_reported Little base_free 6 ≡ []
  pub base_big : groups_reported Big base_free 6 ≡ []
  pub total_wrong : groups_reported Little base_free 7 ≡ FreeCounts ∷ []
  -- fragment 37 is used, and its bit says free
  pub bit_wrong : groups_reported Little (λ f. base_free f && not (f == 37)) 6 ≡ FreeCounts ∷ MapsWrong ∷ GroupSums ∷ []
  -- no group block: the summary record alone is tested
  pub no_block : phase5_lines (base_layout Little) (zero_bytes 32768
      ++ (word Little 1 ++ (word Little 22 ++ (word Little 29 ++ word Little 6))))
      (pos 1 ∷ pos 22 ∷ pos 29 ∷ pos 6 ∷ []) base_free base_class ≡ GroupMagic 0 ∷ []
  pub no_record : phase5_lines (base_layout Little) (zero_bytes 32768)
      (pos 1 ∷ pos 22 ∷ pos 29 ∷ pos 6 ∷ []) base_free base_class
      ≡ GroupMagic 0 ∷ FreeCounts ∷ []
  -- nothing is free, and the map of fragments passes the end of its block
  pub map_past_end : phase5_lines (base_layout Little) (changed Little (24576 + 96) 1020 (base_image Little))
      (pos 1 ∷ pos 0 ∷ pos 29 ∷ pos 0 ∷ []) (λ f. false) base_class ≡ FreeCounts ∷ MapsWrong ∷ GroupSums ∷ []
  -- three messages are reported once, that of a magic number for each group
  pub once : reported_once unreported (FreeCounts ∷ MapsWrong ∷ GroupSums ∷ GroupMagic 1 ∷ FreeCounts ∷ MapsWrong
      ∷ GroupSums ∷ GroupMagic 2 ∷ []) ≡ FreeCounts ∷ MapsWrong ∷ GroupSums ∷ GroupMagic 1 ∷ GroupMagic 2 ∷ []
