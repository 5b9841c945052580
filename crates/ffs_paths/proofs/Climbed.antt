-- How far a climb to the root has come, and how often it has read.
use Rattle.std.proofs.Common.{◌≡◌, ◌≢◌, ℕ, zero, suc, ◌+◌, ◌*◌, ◌<◌, ◌≤◌, false, List, ◌∷◌, length, ltb-false, Some}
use Rattle.std.proofs.Common.{arith, mul-le-mul_right, Option, Result, sym, ◌∙◌, true}
use Rattle.ffs_workspace.specs.Moments.{WorkMoment}
use Rattle.ffs_image.specs.declared.image.ImageFault.{ImageFault}
use Rattle.ffs_volume.specs.Directories.{Graph.{Graph, level}, Paths.joined, Naming.graph_of, Volumes.volume_of}
use Rattle.ffs_volume.{specs.{declared.Layout.Layout, Encodings.Places.PlaceIsNoted}, proofs.LevelLaws.reached-level}
use Rattle.ffs_survey.proofs.ParentLaws.{root_level}
use Rattle.ffs_workspace.specs.{Found.WithSurvey, Holds.{bool_at, HoldsSurvey}, declared.workspace.Workspace.Workspace}
use Rattle.ffs_paths.specs.{Buffers.HoldsNames, Climbing.IsParentOf, Reads.{ForTree, KnowsPlaces, names_read, names_to, OnlyReads}}
use Rattle.ffs_paths.{specs.Reads.{EachTakesAtMost, ReadsFew, ReadsNames}, proofs.LongestEnds.joined-length}
use Rattle.ffs_paths.{proofs.WaysUp.{IsOnWay, parent_is, way_room}, specs.declared.buffer.PathBuffer.PathBuffer}

-- so many steps were climbed, with a read for each at most, and with a name for each that takes two
-- bytes at least
pub record HasClimbed (steps reads reads' : ℕ) (before after : Workspace) (p : PathBuffer) : Type 0 where
  pub few : ReadsFew steps reads reads' before after
  pub names : List (List ℕ)
  pub held : HoldsNames p names
  pub long : 2 * steps ≤ length (joined names)
  pub most : steps ≤ 513

-- one read after others
pub few_then : {m n reads reads' reads'' : ℕ} {w w' w'' : Workspace} → ReadsFew m reads reads' w w' →
    ReadsFew n reads' reads'' w' w'' → ReadsFew (m + n) reads reads'' w w''
few_then one two = grind arith

pub few_more : {m n reads reads' : ℕ} {w w' : Workspace} → ReadsFew m reads reads' w w' → m ≤ n →
    ReadsFew n reads reads' w w'
few_more one l = record { count = omega (arith, one.count); blocks = one.blocks }

-- with room for a name more there are a step and a read more
pub short_way : {steps reads reads' : ℕ} {w w' : Workspace} {p : PathBuffer} → HasClimbed steps reads reads' w w' p →
    p.cut ≡ false → steps + 1 ≤ 513
short_way {steps = steps} c room = grind (arith, ltb-false)

-- a step more: the name of a directory above was found, and put before the others
pub climb_more : {steps reads reads' reads'' : ℕ} {w w' w'' : Workspace} {p q : PathBuffer} (name : List ℕ) →
    HasClimbed steps reads reads' w w' p → p.cut ≡ false → ReadsFew 1 reads' reads'' w' w'' → 0 < length name
    → ((names : List (List ℕ)) → HoldsNames p names → HoldsNames q (name ∷ names)) →
    HasClimbed (steps + 1) reads reads'' w w'' q
climb_more name c room one some puts = grind (arith, few_then, joined-length, short_way)

-- a place is noted of a directory other than the root that is reached
pub noted_here : {v : Layout} {contents : Option (List ℕ)} {b : List ℕ} {w w' : Workspace} (k d : ℕ) →
    KnowsPlaces v contents w b → w' ≡ record w { windows = w'.windows } →
    level (graph_of (volume_of v b)) d ≡ Some k → d ≢ 2 → PlaceIsNoted v b w'.words.items d
noted_here {v = v} {b = b} zero d knows lists there n = absurd (n (root_level (graph_of (volume_of v b)) d there))
noted_here {v = v} {b = b} (suc j) d knows lists there n = grind arith

-- and so of one for which the survey found a parent
pub noted_child : {v : Layout} {contents : Option (List ℕ)} {b : List ℕ} {w w' : Workspace} {d s : ℕ} →
    KnowsPlaces v contents w b → IsParentOf w d s → w' ≡ record w { windows = w'.windows } →
    PlaceIsNoted v b w'.words.items d
noted_child {v = v} {b = b} {d = d} knows of lists = grind (arith, reached-level, noted_here)

-- ---- a read for each name
-- a climb has made no more steps than its path takes names
steps_below : {g : Graph} {k d at step : ℕ} {p : PathBuffer} → level g d ≡ Some k → IsOnWay g k d at step p →
    step ≤ names_read g d
steps_below l way = rw l (omega (arith, way.steps, way.read))

-- and with room for a name more, below the root, there is a step more
below_root : (g : Graph) (left at : ℕ) → level g at ≡ Some left → at ≢ 2 → 0 < left
below_root g zero at l n = absurd (n (root_level g at l))
below_root g (suc left) at l n = omega arith

pub step_below : {g : Graph} {k d at step : ℕ} {p : PathBuffer} → level g d ≡ Some k → IsOnWay g k d at step p →
    p.cut ≡ false → at ≢ 2 → step + 1 ≤ names_read g d
step_below {g = g} {at = at} l way room below =
    let some = below_root g way.left at way.level below in
    rw l (omega (arith, way.steps, way_room way room, some))

-- so it leaves what it states
pub climb_leaves : {T : Type 0} {v : Layout} {old new : WorkMoment} {x at step : ℕ} {p : PathBuffer}
    {result : Result T ImageFault} → bool_at old.workspace.reached.items x ≡ true →
    OnlyReads v old.image new.image old.workspace new.workspace result →
    ForTree v old.image old.workspace (λ tree. (k : ℕ) → level tree x ≡ Some k → IsOnWay tree k x at step p) →
    ((b : List ℕ) → KnowsPlaces v old.image.contents old.workspace b →
    HasClimbed step old.reads new.reads old.workspace new.workspace p) →
    ((b : List ℕ) (n : ℕ) → WithSurvey v old.image old.workspace b → EachTakesAtMost n v b →
    new.reads ≤ old.reads + step * (1 + n)) → ReadsNames v x old new result
climb_leaves {old = old} {new = new} {x = x} reached reads way counted searched = record {
  reads = reads;
  counted = λ b k. few_more (counted b k).few (counted b k).most;
  names = λ b k.
      let l = reached-level _ x (sym (k.survey.tree.reached x) ∙ reached) in
      omega (arith, (counted b k).few.count, steps_below l.1 (way b k.gives_bytes k.block_check k.survey l.0 l.1));
  searched = λ b n k few.
      let l = reached-level _ x (sym (k.2.tree.reached x) ∙ reached) in
      omega (arith, searched b n k few, mul-le-mul_right (1 + n) (steps_below l.1 (way b k.0 k.1 k.2 l.0 l.1)));
}

-- a directory has a name more than its parent
pub names_more : {v : Layout} {b : List ℕ} {w : Workspace} {d s : ℕ} → HoldsSurvey v b w → IsParentOf w d s →
    names_to (graph_of (volume_of v b)) d ≡ names_to (graph_of (volume_of v b)) s + 1
names_more {v = v} {b = b} {d = d} {s = s} survey of =
    let g = graph_of (volume_of v b) in
    let l = reached-level g d (sym (survey.tree.reached d) ∙ of.reached) in
    let above = parent_is g l.0 d s l.1 (omega (arith, of.below)) (of.is ∙ survey.tree.parents d) in
    rw (l.1, above.level) above.step
