-- Whether the check continues after the root, and what that says of a read that failed.
use Rattle.std.specs.Prelude.{◌≡◌, ℕ, Bool, true, false, List, [], ◌∷◌, ◌++◌, Result, Ok, Err, ⊤, not, ◌||◌, ◌==◌}
use Rattle.std.specs.Prelude.{if◌then◌else◌}
use Rattle.ffs_image.specs.{Device.Device, Known.ForBytes}
use Rattle.ffs_report.specs.{Progress.{Progress, Said}, declared.fault.RunFault.{RunFault, TheVariants.{Read, Out}}}
use Rattle.ffs_volume.specs.{declared.Layout.Layout, Directories.PathnameCheck.continues_after_root}
use Rattle.ffs_volume.specs.{Directories.Volumes.volume_of, Messages.Kinds.{Message, stops_check, TreeMessage}}
use Rattle.ffs_volume.specs.{Messages.Kinds.{reported, of_directory}, Encodings.Kinds.{is_dir_kind, is_empty_dir_kind}}
use Rattle.ffs_volume.specs.declared.tree_lines.DirectoryLine.TheVariants.{RootNone, RootNotDir, RootSuspect}
use Rattle.ffs_workspace.specs.declared.workspace.Workspace.{Workspace}
use Rattle.ffs_pathnames.specs.{Before.KnowsBefore, declared.pass2.Root.{Root, TheVariants.{Go, Stop}}}

-- what is reported of the root, by its kind and by whether it is marked
unfoldable pub root_reported : ℕ → Bool → List TreeMessage
root_reported kind marked =
    if kind == 0 then of_directory RootNone ∷ []
    else (if not (is_dir_kind kind) then of_directory RootNotDir ∷ []
    else reported (marked || is_empty_dir_kind kind) (of_directory RootSuspect))

abbrev pub is_go : Root → Bool
is_go Go = true
is_go Stop = false

-- messages were said, of which the last one stops the check, in any image; and they are `all`
pub record SaidStop (knows : List ℕ → Type 0) (earlier : List Message) (all : List ℕ → List Message)
    (old new : Progress) : Type 0 where
  pub last : Message
  pub stops : stops_check last ≡ true
  pub right : ForBytes knows (λ bytes. earlier ++ (last ∷ []) ≡ all bytes)
  pub said : Said old new (earlier ++ (last ∷ []))

-- the answer is whether the check continues after the root, as the bytes say, and a read failed only
-- where it does
abbrev pub AnswersRoot : Layout → Device → Workspace → Result Root RunFault → Type 0
AnswersRoot v d w (Ok root) =
    ForBytes (KnowsBefore v d.contents w 2) (λ b. is_go root ≡ continues_after_root (volume_of v b))
AnswersRoot v d w (Err (Read fault)) =
    ForBytes (KnowsBefore v d.contents w 2) (λ b. continues_after_root (volume_of v b) ≡ true)
AnswersRoot v d w (Err (Out fault)) = ⊤
