-- The lines of groups, and the number of files, by kinds of inodes in place of their classes.
use Rattle.std.proofs.Common.{arith, ◌≡◌, ℕ, ◌-◌, ◌*◌, ℤ, Bool, true, false, List, refl, slice_index, count_by}
use Rattle.std.{specs.List.range_with_len, proofs.Math.Path.fun_ext}
use Rattle.ffs_volume.specs.declared.{Layout.Layout, Inode.Inode, Class.{Class, TheVariants.{Free, Partial, Unknown}}}
use Rattle.ffs_volume.specs.{declared.Class.TheVariants.{File, Dir}, Directories.Volumes.class_at}
use Rattle.ffs_volume.specs.{Report.Whole.file_count, Blocks.Inodes.{is_file_or_dir, is_directory, is_allocated}}
use Rattle.ffs_volume.specs.{Encodings.Kinds.{kind_at, kind_of, class_of_kind}, Groups.GroupCheck.group_lines}
use Rattle.ffs_volume.specs.Groups.{GroupCheck.phase5_lines, Records.{right_group_counts, right_total}}
use Rattle.ffs_volume.specs.Groups.Records.{has_right_record, has_right_maps, has_right_sums, has_right_totals}
use Rattle.ffs_groups.specs.Inodes.{class_in}
use Rattle.ffs_workspace.proofs.KindLaws.{class_is}

abbrev is_part : Class → Bool
is_part Partial = true
is_part Free = false
is_part Unknown = false
is_part File = false
is_part Dir = false

of_part : {T : Type 0} (test : Class → T) → test Free ≡ test Partial → (c : Class) (i : Inode) → is_part c ≡ true →
    test (class_of_kind (kind_of c i)) ≡ test c
of_part test p1 c i p2 = grind arith

pub same_test : {T : Type 0} (test : Class → T) → test Free ≡ test Partial → (v : Layout) (image : List ℕ) (x : ℕ) →
    test (class_of_kind (kind_at v image x)) ≡ test (class_at v image x)
unfolding kind_at
same_test test e v image x = grind (arith, class_is, of_part)

module _ (v : Layout) (free : ℕ → Bool) (a b : ℕ → Class) (d : (x : ℕ) → is_directory (a x) ≡ is_directory (b x))
    (u : (x : ℕ) → is_allocated (a x) ≡ is_allocated (b x)) where
  same_right : (c : ℕ) → right_group_counts v free a c ≡ right_group_counts v free b c
  unfolding right_group_counts
  same_right c = simp (d, u)

  same_group : (image : List ℕ) (c : ℕ) → group_lines v image free a c ≡ group_lines v image free b c
  unfolding has_right_record has_right_maps has_right_sums
  same_group image c = simp (same_right, u)

  same_total : (totals : List ℤ) → has_right_totals v free a totals ≡ has_right_totals v free b totals
  unfolding has_right_totals right_total
  same_total totals = simp same_right

  same_phase5 : (image : List ℕ) (totals : List ℤ) →
      phase5_lines v image totals free a ≡ phase5_lines v image totals free b
  unfolding phase5_lines
  same_phase5 image totals = rw (fun_ext (same_group image), same_total totals) refl

-- the lines of phase 5, by the kinds that a workspace holds
pub by_kinds : (v : Layout) (image : List ℕ) (totals : List ℤ) (free : ℕ → Bool) (kinds : List ℕ) →
    ((x : ℕ) → slice_index kinds x ≡ kind_at v image x) →
    phase5_lines v image totals free (class_in kinds) ≡ phase5_lines v image totals free (class_at v image)
by_kinds v image totals free kinds e = same_phase5 v free (class_in kinds) (class_at v image)
    (λ x. rw (e x) (same_test is_directory refl v image x)) (λ x. rw (e x) (same_test is_allocated refl v image x))
    image totals

-- the lines of a group, by these kinds
pub group_by_kinds : (v : Layout) (image : List ℕ) (free : ℕ → Bool) (kinds : List ℕ) →
    ((x : ℕ) → slice_index kinds x ≡ kind_at v image x) → (c : ℕ) →
    group_lines v image free (class_in kinds) c ≡ group_lines v image free (class_at v image) c
group_by_kinds v image free kinds e = same_group v free (class_in kinds) (class_at v image)
    (λ x. rw (e x) (same_test is_directory refl v image x)) (λ x. rw (e x) (same_test is_allocated refl v image x))
    image

-- how many files and directories there are, by the kinds that a workspace holds
pub files_are : (v : Layout) (image kinds : List ℕ) (files n : ℕ) →
    files ≡ count_by (λ x. is_file_or_dir (class_in kinds x)) (range_with_len 2 (n - 2)) → n ≡ v.ncg * v.ipg →
    ((x : ℕ) → slice_index kinds x ≡ kind_at v image x) → files ≡ file_count v image
unfolding file_count
files_are v image kinds files n e len ks =
    let same : (x : ℕ) → is_file_or_dir (class_in kinds x) ≡ is_file_or_dir (class_at v image x) =
    λ x. rw (ks x) (same_test is_file_or_dir refl v image x) in
    rw (e, len) (simp same)
