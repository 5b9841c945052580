-- What `fsck_ffs` promises: what its words ask for, by which texts they are refused, and how a check that it
-- runs over an image ends.
use Rattle.std.specs.Prelude.{◌≡◌, ℕ, List, Option}
use Rattle.ffs_volume.specs.{declared.End.End, Report.Whole.status_of}
use Rattle.ffs_check.specs.{Costs.CostsOfSystem, Failures.HaveFailed, Headline.Headline, Moment.Moment, Program.Meaning, Reads.ReadsWithin}
use Rattle.ffs_check.specs.{CommandWords.{AskFor, LacksMemory, fsck_program}, Refusals.{IsTextFor, refusal_text}}

-- an image was checked under a name, its superblock at a sector, and the status is that of the check's end
pub record IsChecked (name : List ℕ) (sector : Option ℕ) (old new : Moment) (status : ℕ) : Type 0 where
  pub end : End
  pub headline : Headline name sector old new end
  pub failures : HaveFailed sector old new end
  pub costs : CostsOfSystem sector old new end
  pub reads_within : ReadsWithin name sector old new
  pub status_is : status ≡ status_of end

-- a check of an image, asked for by its sector
abbrev pub fsck_ffs : Meaning (Option ℕ)
fsck_ffs = record {
  asks = AskFor;
  refuses = IsTextFor fsck_program refusal_text;
  lacks_memory = LacksMemory fsck_program;
  carries_out = IsChecked;
}
