-- When blocks are consistent. Nothing here depends on the order in which inodes are read, nor on
-- what they keep.
use Rattle.std.specs.{Prelude.{◌≡◌, ℕ, ◌≤◌, Bool, true, false, ◌||◌, not, List, ◌==◌, length, count_by}, List.list_all}
use Rattle.ffs_volume.specs.declared.{Layout.Layout, Class.{Class, TheVariants.{Partial, Unknown}}, Step.Step}
use Rattle.ffs_volume.specs.{declared.Step.TheVariants.{Run, Tail, Gap}, Disk.Areas.{is_run_in_range, is_reserved}}
use Rattle.ffs_volume.specs.Blocks.{Inodes.is_file_or_dir, Owners.{Owner, fragments_of, all_steps}, BlockCheck.sectors}

-- the class is Free, File or Dir
abbrev pub is_right_class : Class → Bool
is_right_class Partial = false
is_right_class Unknown = false
is_right_class _ = true

-- the step is in range, if it is a Run
abbrev pub is_step_in_range : Layout → Step → Bool
is_step_in_range v (Run start len block) = is_run_in_range v start len
is_step_in_range v Tail = true
is_step_in_range v Gap = true

-- the step is no Tail
abbrev pub is_no_tail : Step → Bool
is_no_tail Tail = false
is_no_tail _ = true

-- how often a number occurs
abbrev pub times : (f : ℕ) (fs : List ℕ) → ℕ
times f fs = count_by (λ g. g == f) fs

-- the blocks field of a file or directory is the number of sectors of all its fragments
abbrev pub is_blocks_field_right : Layout → Owner → Bool
is_blocks_field_right v o = not (is_file_or_dir o.class) || o.blocks == sectors v (length (fragments_of o.steps))

-- all Runs are in range, no fragment is in two places or is reserved, there is no Tail,
-- and each blocks field is that of the inode's fragments
pub record AreRunsRight (v : Layout) (os : List Owner) : Type 0 where
  pub in_range : list_all (is_step_in_range v) (all_steps os) ≡ true
  pub no_tail : list_all is_no_tail (all_steps os) ≡ true
  pub alone : (f : ℕ) → times f (fragments_of (all_steps os)) ≤ 1
  pub unreserved : (f : ℕ) → is_reserved v f ≡ true → times f (fragments_of (all_steps os)) ≡ 0
  pub counted : list_all (is_blocks_field_right v) os ≡ true

-- two of the conditions of `IsConsistent` together, for laws: those on classes and on Runs
pub record BlocksRight (v : Layout) (os : List Owner) : Type 0 where
  pub classes : list_all (λ o. is_right_class o.class) os ≡ true
  pub runs : AreRunsRight v os
