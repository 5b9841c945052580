-- Which superblocks are accepted, the first fault of those that aren't, and what is reported of them.
use Rattle.std.specs.Prelude.{ℕ, List, Option, ◌≡◌, [], ◌∷◌, pos, negsuc, Some, None, Ok, Err, take, map, replicate}
use Rattle.std.specs.{Prelude.{true, false}, List.range_with_len}
use Rattle.ffs_volume.specs.declared.{Order.TheVariants.{Little, Big}, SuperFault.{SuperFault, TheVariants.CannotRead}}
use Rattle.ffs_volume.specs.declared.SuperFault.TheVariants.{Magic, InodeFormat, Ncg, Cpg, Ncyl, TooLarge, Shape, Short}
use Rattle.ffs_volume.specs.{declared.SuperFault.TheVariants.Disagree, Disk.Areas.{cgstart, cgsblock, cgdmin}}
use Rattle.ffs_volume.specs.Disk.Areas.{group_place, summary_place, inode_place, is_fragment_in_range, is_run_in_range}
use Rattle.ffs_volume.specs.{Disk.{Areas.is_reserved, Outcome.outcome}, Messages.Kinds.{location, image_name, mounted}}
use Rattle.ffs_volume.specs.Messages.Kinds.{bad_super, cannot_read, optimization, minfree, summary}
use Rattle.ffs_volume.specs.{Report.{Opening.{setting_lines, opening_lines}, Whole.summary_of}, Messages.Shown.shown}
use Rattle.ffs_volume.specs.{Messages.Shown.octal, Examples.Images.{zero_bytes, base_layout, base_superblock}}
use Rattle.ffs_volume.specs.Examples.Images.{base_super, base_image, changed, image_of, fault_of, fault_with}
use Rattle.ffs_volume.specs.Examples.Images.{two_groups}

-- the first fault of the base image with another number in the primary alone
abbrev pub fault_at : ℕ → ℕ → Option SuperFault
fault_at place number = fault_with (changed Little place number (base_super Little)) (base_super Little)

-- the base superblock with a second group of 122 fragments, whose parts begin this much above its base
abbrev pub with_second_group : ℕ → List ℕ
with_second_group above =
    changed Little 24 above (changed Little 28 0 (changed Little 36 250
    (changed Little 44 2 (changed Little 176 2 (base_super Little)))))

-- the first fault of an image with this superblock in both places
abbrev pub fault_twice : List ℕ → Option SuperFault
fault_twice super = fault_with super super

-- which superblocks are accepted, and the first fault of others
pub record SuperblockExamples : Type 0 where
  -- the base image in both orders, and its copy where the primary is no superblock
  pub accepted : outcome (base_image Little) None ≡ Ok (base_superblock Little)
  pub accepted_big : outcome (base_image Big) None ≡ Ok (base_superblock Big)
  pub asked : outcome (image_of (changed Little 1372 0 (base_super Little)) (base_super Little)) (Some 32)
      ≡ Ok (base_superblock Little)
  -- each fault
  pub empty : outcome [] None ≡ Err (CannotRead 16)
  pub past_end : fault_of (base_image Little) (Some 254) ≡ Some (CannotRead 254)
  pub magic : fault_with (changed Little 1372 0 (base_super Little)) (base_super Little) ≡ Some Magic
  pub old_inodes : fault_with (changed Little 1324 1 (base_super Little)) (base_super Little) ≡ Some InodeFormat
  pub no_groups : fault_with (changed Little 44 0 (base_super Little)) (base_super Little) ≡ Some Ncg
  pub minus_groups : fault_with (changed Little 44 4294967295 (base_super Little)) (base_super Little) ≡ Some Ncg
  pub no_cylinders : fault_with (changed Little 180 0 (base_super Little)) (base_super Little) ≡ Some Cpg
  pub few_cylinders : fault_with (changed Big 176 0 (base_super Big)) (base_super Big) ≡ Some Ncyl
  pub many_cylinders : fault_with (changed Big 176 2 (base_super Big)) (base_super Big) ≡ Some Ncyl
  pub too_large : fault_with (changed Little 104 8193 (base_super Little)) (base_super Little) ≡ Some TooLarge
  pub block_size : fault_with (changed Little 48 4095 (base_super Little)) (base_super Little) ≡ Some Shape
  pub inode_area : fault_with (changed Little 20 31 (changed Little 152 31 (base_super Little))) (base_super Little)
      ≡ Some Shape
  pub minus_links : fault_with (changed Little 1320 4294967295 (base_super Little)) (base_super Little) ≡ Some Shape
  pub short : fault_of (take 131071 (base_image Little)) None ≡ Some Short
  pub disagree : fault_with (base_super Little) (changed Little 40 94 (base_super Little)) ≡ Some Disagree
  pub other_order : fault_with (base_super Little) (base_super Big) ≡ Some Disagree
  -- the copy is compared only where no sector is asked for, and only in numbers of the layout
  pub not_compared : fault_of (image_of (base_super Little) (changed Little 40 94 (base_super Little))) (Some 16) ≡ None
  pub free_part : fault_with (base_super Little) (changed Little 60 99 (base_super Little)) ≡ None
  -- each number in which the copy must agree, by its place: it differs in the copy alone
  pub compared : map (λ place. fault_with (base_super Little) (changed Little place 77 (base_super Little)))
      (8 ∷ 12 ∷ 16 ∷ 20 ∷ 24 ∷ 28 ∷ 36 ∷ 40 ∷ 44 ∷ 48 ∷ 52 ∷ 56 ∷ 104 ∷ 116 ∷ 120 ∷ 152 ∷ 156 ∷ 160 ∷ 176 ∷ 180
      ∷ 184 ∷ 188 ∷ 1324 ∷ 1356 ∷ 1372 ∷ []) ≡ replicate 25 (Some Disagree)
  -- each condition of a layout that one number can fail alone: sizes, numbers, the parts of a
  -- group, the summary area
  pub sizes : fault_at 56 2 ∷ fault_at 116 1023 ∷ fault_at 120 16 ∷ fault_at 184 0 ∷ fault_at 184 16 ∷ fault_at 188 130
      ∷ [] ≡ replicate 6 (Some Shape)
  pub numbers : fault_at 40 0 ∷ fault_at 1320 61 ∷ fault_at 1356 0 ∷ fault_at 104 1375 ∷ fault_at 36 132 ∷ []
      ≡ replicate 5 (Some Shape)
  pub parts : fault_at 8 0 ∷ fault_at 8 23 ∷ fault_at 12 28 ∷ fault_at 16 29 ∷ fault_at 160 167 ∷ []
      ≡ replicate 5 (Some Shape)
  pub summaries : fault_at 152 33 ∷ fault_at 156 15 ∷ [] ≡ replicate 2 (Some Shape)
  -- a second group is valid, but the image is too short for it; it isn't valid where its parts
  -- begin before its base or end past the volume
  pub second : fault_twice (with_second_group 4) ≡ Some Short
  pub second_early : fault_twice (with_second_group 4294967295) ≡ Some Shape
  pub second_late : fault_twice (with_second_group 91) ≡ Some Shape
  -- the summary area ends in the second group, or past the volume
  pub summaries_on : fault_twice (changed Little 156 99328 (with_second_group 4)) ≡ Some Shape
  pub summaries_out : fault_twice (changed Little 156 99328 (changed Little 188 256 (base_super Little))) ≡ Some Shape
  -- blocks of 2,048 bytes, and of sixteen fragments
  pub small_blocks : fault_twice (changed Little 48 2048 (changed Little 52 512
      (changed Little 116 512 (changed Little 120 16
      (changed Little 16 26 (changed Little 20 40 (changed Little 152 40 (base_super Little)))))))) ≡ Some Shape
  pub many_fragments : fault_twice (changed Little 48 8192 (changed Little 52 512
      (changed Little 56 16 (changed Little 116 2048
      (changed Little 120 64 (changed Little 184 64 (changed Little 20 44
      (changed Little 152 44 (base_super Little))))))))) ≡ Some Shape

-- which fragments are in range or reserved, and where parts of groups lie
pub record AreaExamples : Type 0 where
  -- which fragments are in range: 0 to 15 are, as the boot area, but they are reserved
  pub ok : map (is_fragment_in_range (base_layout Little)) (0 ∷ 15 ∷ 16 ∷ 31 ∷ 32 ∷ 127 ∷ 128 ∷ [])
      ≡ true ∷ true ∷ false ∷ false ∷ true ∷ true ∷ false ∷ []
  pub reserved : map (is_reserved (base_layout Little)) (0 ∷ 31 ∷ 32 ∷ 33 ∷ 127 ∷ [])
      ≡ true ∷ true ∷ true ∷ false ∷ false ∷ []
  pub in_range : (is_run_in_range (base_layout Little) 124 4 ≡ true)
      × (is_run_in_range (base_layout Little) 126 4 ≡ false)
      × (is_run_in_range (base_layout Little) 13 4 ≡ false)
  -- two groups: the second one's parts, and a run that crosses into it
  pub second : (cgstart (two_groups Little) 1 ≡ 132) × (cgsblock (two_groups Little) 1 ≡ 148)
      × (cgdmin (two_groups Little) 1 ≡ 164)
  pub second_places : (group_place (two_groups Little) 1 ≡ 159744) × (summary_place (two_groups Little) 1 ≡ 32784)
      × (inode_place (two_groups Little) 33 ≡ 163968)
  pub crosses : (map (is_fragment_in_range (two_groups Little)) (range_with_len 126 4) ≡ true ∷ true ∷ true ∷ true ∷ [])
      × (is_run_in_range (two_groups Little) 126 4 ≡ false)
  pub base_inode : inode_place (base_layout Little) 2 ≡ 28928

-- what is reported of superblocks, and how numbers and bytes are shown
pub record OpeningExamples : Type 0 where
  -- what is reported of the base image, of one at a sector, and of one that is refused. The image
  -- is called `t`
  pub reported : opening_lines (116 ∷ []) None (outcome (base_image Little) None)
      ≡ image_name (116 ∷ []) ∷ mounted (47 ∷ 109 ∷ 110 ∷ 116 ∷ []) ∷ []
  pub unreadable : opening_lines (116 ∷ []) (Some 1) (outcome [] (Some 1))
      ≡ location 1 ∷ image_name (116 ∷ []) ∷ cannot_read 1 ∷ []
  pub refused : opening_lines (116 ∷ []) None (outcome (zero_bytes 9568) None) ≡ image_name (116 ∷ []) ∷ bad_super Magic ∷ []
  -- settings that aren't valid, and the last that are
  pub settings : setting_lines
      (record { layout = base_layout Little; optim = pos 2; minfree = pos 100; cstotal = []; mount = [] })
      ≡ optimization ∷ minfree (pos 100) ∷ []
  pub minus_settings : setting_lines
      (record { layout = base_layout Little; optim = negsuc 0; minfree = negsuc 0; cstotal = []; mount = [] })
      ≡ optimization ∷ minfree (negsuc 0) ∷ []
  pub last_settings : setting_lines
      (record { layout = base_layout Little; optim = pos 1; minfree = pos 99; cstotal = []; mount = [] })
      ≡ []
  -- the summary: 6 free fragments of 95 are 6.3 percent; -1 of 95 is -1.0 and -1 of 201 is -0.4,
  -- rounded toward zero
  pub summary_base : summary_of (base_superblock Little) 1 1 ≡ summary 1 1 (pos 94) (pos 6) (pos 22) (pos 63)
  pub summary_minus : summary_of (record {
    layout = base_layout Little;
    optim = pos 0;
    minfree = pos 0;
    cstotal = pos 0 ∷ pos 1 ∷ pos 0 ∷ negsuc 0 ∷ [];
    mount = [];
  }) 0 0 ≡ summary 0 0 (pos 3) (negsuc 0) (pos 1) (negsuc 9)
  pub summary_small : summary_of (record {
    layout = two_groups Little;
    optim = pos 0;
    minfree = pos 0;
    cstotal = pos 0 ∷ pos 0 ∷ pos 0 ∷ negsuc 0 ∷ [];
    mount = [];
  }) 0 0 ≡ summary 0 0 (negsuc 0) (negsuc 0) (pos 0) (negsuc 3)
  -- bytes and modes as they are shown
  pub bytes_shown : map shown (10 ∷ 31 ∷ 32 ∷ 126 ∷ 127 ∷ 200 ∷ []) ≡ 63 ∷ 63 ∷ 32 ∷ 126 ∷ 63 ∷ 200 ∷ []
  pub modes_shown : (octal 0 ≡ 48 ∷ []) × (octal 16877 ≡ 52 ∷ 48 ∷ 55 ∷ 53 ∷ 53 ∷ [])
      × (octal 65535 ≡ 49 ∷ 55 ∷ 55 ∷ 55 ∷ 55 ∷ 55 ∷ [])
