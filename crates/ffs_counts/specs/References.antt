-- What is reported of an inode by its references.
use Rattle.std.specs.Prelude.{ℕ, ◌==◌, ◌&&◌, Bool, not, slice_index, List, [], ◌∷◌, Option, Some, None, if◌then◌else◌}
use Rattle.std.specs.Prelude.{ℤ}
use Rattle.ffs_volume.specs.declared.{constants.TheConstants.LINKS_MET, Attr.Attr, Label.Label}
use Rattle.ffs_volume.specs.{Disk.Numbers.equals_natural, Messages.Kinds.{TreeMessage, reported, of_reference}}
use Rattle.ffs_volume.specs.declared.tree_lines.ReferenceLine.{ReferenceLine, TheVariants.{DeadMarked, DeadZero}}
use Rattle.ffs_volume.specs.declared.tree_lines.ReferenceLine.TheVariants.{LinkCount, Unref, UnrefZero}
use Rattle.ffs_survey.specs.Survey.{dead_at}
use Rattle.ffs_workspace.specs.declared.workspace.Workspace.{Workspace}

-- by whether it is dead and marked, what messages show of it, its count of links and how often it
-- is referred to
abbrev pub reference_reported : (dead marked : Bool) → Label → Attr → ℤ → ℕ → List TreeMessage
reference_reported dead marked label attr nlink refs =
    if dead then (if marked then of_reference (DeadMarked label attr) ∷ [] else of_reference (DeadZero attr) ∷ [])
    else (if refs == 0 then (if equals_natural nlink 0 then of_reference (UnrefZero label attr) ∷ []
    else of_reference (Unref label attr) ∷ [])
    else reported (not (equals_natural nlink refs)) (of_reference (LinkCount label attr nlink refs)))

-- a line, if there is one
abbrev pub lines_as : Option ReferenceLine → List TreeMessage
lines_as None = []
lines_as (Some line) = of_reference line ∷ []

-- whether the inode i is dead, by the lists of a workspace
abbrev pub is_dead_by : Workspace → ℕ → Bool
is_dead_by w i = dead_at w.kinds.items w.marked.items w.named.items i

-- whether the inode i isn't dead by these lists, and its count of references is `LINKS_MET`: as many references as
-- links, at least one (`links_met` of `ffs_volume`)
abbrev pub is_right_by : Workspace → ℕ → Bool
is_right_by w i = (slice_index w.references.items i == LINKS_MET) && not (is_dead_by w i)
