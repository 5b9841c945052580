-- What a path leaves unread where that of the parent is kept.
use Rattle.std.proofs.Common.{◌≡◌, ◌∙◌, ◌↔◌, ◌+◌, ◌≤◌, ℕ, List, Option, Some, None, Result, Ok, Err, sym, subst, refl}
use Rattle.std.{proofs.Common.{ap, arith}, specs.Prelude.OnOk}
use Rattle.ffs_workspace.specs.{Moments.WorkMoment, declared.workspace.Workspace.Workspace}
use Rattle.ffs_image.specs.declared.image.ImageFault.{ImageFault}
use Rattle.ffs_volume.specs.{declared.Layout.Layout, Directories.{Naming.graph_of, Volumes.volume_of}}
use Rattle.ffs_paths.specs.{Climbing.IsParentOf, Reads.{HoldsPlaceOf, KnowsPlaces, names_read, ReadsName, ReadsNames}}
use Rattle.ffs_paths.specs.{Reads.ReadsPartOf, KeptParents.{HasPathOf, HoldsPlaceThen, StoresChild, HoldsKeptParent}}
use Rattle.ffs_paths.specs.KeptParents.{StoresPathOf, KeptMoment, PathCosts, SparesReads}
use Rattle.ffs_paths.{specs.declared.kept_parent.KeptParent.KeptParent, proofs.Climbed.{few_more, few_then, names_more}}
use Rattle.ffs_paths.proofs.{Climbed.noted_child, Keeping.{kept_so, reads_as, reads_then}}

-- the survey found one parent at most
one_parent : {w : Workspace} {x p q : ℕ} → IsParentOf w x p → IsParentOf w x q → p ≡ q
one_parent of is = of.is ∙ sym is.is

-- the path of the parent was kept, and then the name was read
pub spares_name : {v : Layout} {x p mid : ℕ} {w : Workspace} {old new : KeptMoment} →
    IsParentOf old.at.workspace x p → ((b : List ℕ) → KnowsPlaces v old.at.image.contents old.at.workspace b →
    mid ≤ old.at.reads + names_read (graph_of (volume_of v b)) p) →
    (HasPathOf old.kept p → (mid ≡ old.at.reads) × (w ≡ old.at.workspace)) →
    ((b : List ℕ) → KnowsPlaces v old.at.image.contents old.at.workspace b → new.at.reads ≤ mid + 1) →
    ((b : List ℕ) → KnowsPlaces v old.at.image.contents old.at.workspace b → HoldsPlaceOf v w x → new.at.reads ≤ mid) →
    SparesReads v x old new
spares_name {v = v} {x = x} {old = old} of names same one again = record {
  names = λ b k. let a = names b k in let l = one b k in let e = names_more k.survey of in omega (arith, a, l, e);
  kept = λ b q k is has.
      let e = same (subst (HasPathOf old.kept) (one_parent is of) has) in
      let l = one b k in
      omega (arith, e.0, l);
  again = λ b q k is has held.
      let e = same (subst (HasPathOf old.kept) (one_parent is of) has) in
      let l = again b k (subst (λ w. HoldsPlaceOf v w x) (sym e.1) held) in
      omega (arith, e.0, l);
}

pub keeps_child : {w : Workspace} {x p : ℕ} {s s' : KeptParent} → IsParentOf w x p →
    (s'.parent ≡ p) × (s'.child ≡ x) → StoresChild w x s s'
keeps_child {p = p} of kept = grind arith

-- and the window holds the part of the name
held_then : {T : Type 0} {v : Layout} {x : ℕ} (old mid new : WorkMoment) (result : Result T ImageFault) →
    ((b : List ℕ) → KnowsPlaces v old.image.contents old.workspace b → ReadsPartOf v x mid new result) →
    OnOk result (HoldsPlaceThen v x old new)
held_then old mid new (Ok y) name = λ b p k of. (name b k).held
held_then old mid new (Err e) name = tt

pub costs_name : {S T : Type 0} {v : Layout} {x p : ℕ} {old new : KeptMoment} {mid : WorkMoment} {s : KeptParent} {a : S}
    {result : Result T ImageFault} → IsParentOf old.at.workspace x p → StoresPathOf v p old.at mid s (Ok a) →
    (HasPathOf old.kept p → (mid.reads ≡ old.at.reads) × (mid.workspace ≡ old.at.workspace)) →
    ReadsName v x mid new.at result → OnOk result (HoldsKeptParent v new.at.image.contents new.at.workspace new.kept) →
    OnOk result (StoresChild old.at.workspace x old.kept new.kept) → PathCosts v x old new result
costs_name {v = v} {old = old} {new = new} {mid = mid} {result = result} of kept same name right child =
    let reads = kept.reads.reads in
    let part = λ (b : List ℕ) (k : KnowsPlaces v old.at.image.contents old.at.workspace b).
    name.counted b (ap (λ d. d.contents) reads.read ∙ k.gives_bytes) (noted_child k of reads.lists) in
    record {
      leaves = record {
        reads = reads_then reads name.reads;
        counted = λ b k. few_then (kept.reads.counted b k) (part b k).few;
        kept_parent = right;
      };
      spares = spares_name of kept.reads.names same (λ b k. (part b k).few.count) (λ b k. (part b k).again);
      keeps = child;
      held = held_then old.at mid new.at result part;
    }

-- ---- an inode without a parent
none_some : {o : Option ℕ} {p : ℕ} → o ≡ None → o ≡ Some p → ⊥
none_some n s = grind arith

pub no_parent : {w : Workspace} {x : ℕ} {o : Option ℕ} → o ≡ None → ((p : ℕ) → (o ≡ Some p) ↔ IsParentOf w x p) →
    (p : ℕ) → IsParentOf w x p → ⊥
no_parent none some p of = none_some none ((some p).1 of)

-- a fact of every answer
pub on_all : {T E : Type 0} (r : Result T E) (P : Type 0) → P → OnOk r P
on_all (Ok x) P h = h
on_all (Err e) P h = tt

-- its path is read anew, and what was kept stays
pub costs_none : {T : Type 0} {v : Layout} {x : ℕ} {old new : WorkMoment} {result : Result T ImageFault}
    (s : KeptParent) → ((p : ℕ) → IsParentOf old.workspace x p → ⊥) → HoldsKeptParent v old.image.contents old.workspace s →
    ReadsNames v x old new result → PathCosts v x (record { at = old; kept = s }) (record { at = new; kept = s }) result
costs_none {result = result} s none right left = record {
  leaves = record {
    reads = left.reads;
    counted = λ b k. few_more (left.counted b k) (omega arith);
    kept_parent = kept_so result s left.reads right;
  };
  spares = record {
    names = λ b k. omega (arith, left.names b k);
    kept = λ b p k of has. absurd (none p of);
    again = λ b p k of has held. absurd (none p of);
  };
  keeps = on_all result _ (record { parent = λ p of. absurd (none p of); same = λ n. refl });
  held = on_all result _ (λ b p k of. absurd (none p of));
}

-- the same of another answer, which is no fault either
pub costs_as : {S T : Type 0} {v : Layout} {x : ℕ} {old new : KeptMoment} {a : S} {b : T} →
    PathCosts v x old new (Ok a) → PathCosts v x old new (Ok b)
costs_as costs = grind (arith, reads_as)

-- and of a fault
pub costs_fault : {S T : Type 0} {v : Layout} {x : ℕ} {old new : KeptMoment} {e : ImageFault} →
    PathCosts {T = S} v x old new (Err e) → PathCosts {T = T} v x old new (Err e)
costs_fault costs = grind arith
