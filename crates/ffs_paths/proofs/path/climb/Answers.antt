use Rattle.std.proofs.Common.{◌≡◌, ◌<◌, ◌∙◌, ◌∷◌, ap, length, sym, subst, arith, ℕ, slice_index}
use Rattle.std.proofs.{Common.{List, Ok, ◌+◌}, lemmas.List.get_or_default, Math.Nat.{add-mul, mul-le-mul_right}}
use Rattle.ffs_volume.{proofs.LevelLaws.reached-level, specs.Directories.{Graph.{Graph}, Naming.graph_of}}
use Rattle.ffs_volume.specs.{Directories.Volumes.volume_of, declared.Layout.Layout}
use Rattle.ffs_paths.{specs.{Climbing.IsNameIn, Buffers.HoldsNames, NameTexts.name_bytes}, proofs.Climbed.climb_leaves}
use Rattle.ffs_paths.proofs.{Climbed.{climb_more, few_more, few_then, noted_here, short_way, step_below}, Keeping.reads_then}
use Rattle.ffs_paths.proofs.{Keeping.tree_on, WaysUp.{parent_is, way_root, way_cut, way_long, way_up, count_is}}
use Rattle.ffs_paths.specs.Reads.{OnlyReads}
use Rattle.ffs_image.specs.Device.{Device}
use Rattle.ffs_workspace.{proofs.Leaving.claims_held, specs.Found.{WithBlockCheck, WithSurvey}}
use Rattle.ffs_workspace.specs.declared.workspace.Workspace.{Workspace}
use Rattle.ffs_paths.proofs.path.climb.Goals as goal

-- what the block check found is held after reads, too
read_before : {T : Type 0} {v : Layout} {d d' : Device} {w w' : Workspace} {x : T} {b : List ℕ} →
    OnlyReads v d d' w w' (Ok x) → WithSurvey v d w b → WithBlockCheck v d' w' b
read_before {v = v} {b = b} r k = (ap (λ d. d.contents) r.read ∙ k.0, claims_held v b _ _ r.lists k.1)

pub returns-then-at-eq-ROOTINO-clause-path : goal.returns-then-at-eq-ROOTINO-clause-path
returns-then-at-eq-ROOTINO-clause-path g c = λ b t claims survey k l.
    way_root (c.up.invariant.path b t claims survey k l) (omega arith)

pub returns-then-path-clause-path : goal.returns-then-path-clause-path
returns-then-path-clause-path g c = λ b t claims survey k l.
    way_cut (c.up.invariant.path b t claims survey k l) c.if-path.true

pub returns-then-parent-count-clause-path : goal.returns-then-parent-count-clause-path
returns-then-parent-count-clause-path g c = λ b t claims survey k l.
    let i = c.up.invariant in
    let way = i.path b t claims survey k l in
    let at = i.at in
    let long = i.reads.ready.ready.made.parents in
    let below = (parent_is _ way.left c.up.at c.index-parent.result.now way.level (omega arith)
    (c.index-parent.ensures ∙ (get_or_default c.up.workspace.parents.items c.up.at c.index-parent.result.now 0
    (omega arith) ∙ (ap (λ w. slice_index w.parents.items c.up.at) i.reads.lists ∙ survey.tree.parents c.up.at)))).below in
    absurd (omega (arith, count_is c.args.geometry.now.layout b, c.if-parent-count.true, c.requires.ready.ready.made.notes))

pub returns-clause-path : goal.returns-clause-path
returns-clause-path g c = λ b t claims survey k l.
    let below = way_long (c.up.invariant.path b t claims survey k l) l in
    absurd (omega (arith, count_is c.args.geometry.now.layout b, c.up-test.false, c.requires.ready.ready.made.notes))

pub up-preserved : goal.up-preserved
up-preserved g c =
    let i = c.up.invariant in
    let found = c.in_ok-find_name.ensures in
    let p : ℕ = c.index-parent.result.now in
    let at = i.at in
    let long = i.reads.ready.ready.made.parents in
    let is : p ≡ slice_index c.up.workspace.parents.items c.up.at =
    c.index-parent.ensures ∙ get_or_default c.up.workspace.parents.items c.up.at p 0 (omega arith) in
    record {
      at = omega (arith, c.requires.ready.ready.made.notes, c.if-parent-count.false);
      reads = reads_then i.reads found.leaves.reads;
      path = λ b t claims survey k l.
          let G : Graph = graph_of (volume_of c.args.geometry.now.layout b) in
          let way = i.path b t claims survey k l in
          let above = parent_is G way.left c.up.at p way.level (omega arith)
          (is ∙ (ap (λ w. slice_index w.parents.items c.up.at) i.reads.lists ∙ survey.tree.parents c.up.at)) in
          let name = c.as_slice.ensures.value ∙ tree_on (λ g. IsNameIn g c.up.at p (name_bytes c.find_name.new.name)) i.reads
          found.finds.name b t claims survey above.is above.dir in
          way_up p c.push_front.new.self way c.if-path.false above (λ following held.
          subst (λ n. HoldsNames c.push_front.new.self (n ∷ following)) name (c.push_front.ensures following held));
      counted = λ b knows.
          let t = ap (λ d. d.contents) i.reads.read ∙ knows.gives_bytes in
          let l = reached-level _ c.args.dir (sym (knows.survey.tree.reached c.args.dir) ∙ c.requires.reached) in
          let way = i.path b knows.gives_bytes knows.block_check knows.survey l.0 l.1 in
          let noted = noted_here way.left c.up.at knows i.reads.lists way.level (omega arith) in
          climb_more c.as_slice.result.now (i.counted b knows) c.if-path.false (found.leaves.counted b t noted).few
          (subst (λ name. 0 < length name) (sym c.as_slice.ensures.value) (found.finds.some b t noted)) c.push_front.ensures;
      searched = λ b n k few.
          let l = reached-level _ c.args.dir (sym (k.2.tree.reached c.args.dir) ∙ c.requires.reached) in
          let way = i.path b k.0 k.1 k.2 l.0 l.1 in
          let above = parent_is _ way.left c.up.at p way.level (omega arith)
          (is ∙ (ap (λ w. slice_index w.parents.items c.up.at) i.reads.lists ∙ k.2.tree.parents c.up.at)) in
          let one = found.counted b (read_before i.reads k) above.dir in
          omega (arith, i.searched b n k few, one, few p, add-mul c.up.step 1 (1 + n));
    }

-- a read failed, with names that have room
pub returns-in_err-find_name-clause-leaves : goal.returns-in_err-find_name-clause-leaves
returns-in_err-find_name-clause-leaves g c =
    let i = c.up.invariant in
    record {
      reads = grind (arith, reads_then);
      counted = λ b knows.
          let l = reached-level _ c.args.dir (sym (knows.survey.tree.reached c.args.dir) ∙ c.requires.reached) in
          let way = i.path b knows.gives_bytes knows.block_check knows.survey l.0 l.1 in
          let h = i.counted b knows in
          few_more (few_then h.few
          (c.in_err-find_name.ensures.leaves.counted b (ap (λ d. d.contents) i.reads.read ∙ knows.gives_bytes)
          (noted_here way.left c.up.at knows i.reads.lists way.level (omega arith))).few)
          (short_way h c.if-path.false);
      names = λ b knows.
          let l = reached-level _ c.args.dir (sym (knows.survey.tree.reached c.args.dir) ∙ c.requires.reached) in
          let way = i.path b knows.gives_bytes knows.block_check knows.survey l.0 l.1 in
          let one = (c.in_err-find_name.ensures.leaves.counted b (ap (λ d. d.contents) i.reads.read ∙ knows.gives_bytes)
          (noted_here way.left c.up.at knows i.reads.lists way.level (omega arith))).few in
          omega (arith, (i.counted b knows).few.count, one.count, step_below l.1 way c.if-path.false (omega arith));
      searched = λ b n k few.
          let l = reached-level _ c.args.dir (sym (k.2.tree.reached c.args.dir) ∙ c.requires.reached) in
          let way = i.path b k.0 k.1 k.2 l.0 l.1 in
          let p : ℕ = c.index-parent.result.now in
          let at = i.at in
          let long = i.reads.ready.ready.made.parents in
          let is = c.index-parent.ensures ∙ get_or_default c.up.workspace.parents.items c.up.at p 0 (omega arith) in
          let over = parent_is _ way.left c.up.at p way.level (omega arith)
          (is ∙ (ap (λ w. slice_index w.parents.items c.up.at) i.reads.lists ∙ k.2.tree.parents c.up.at)) in
          let one = c.in_err-find_name.ensures.counted b (read_before i.reads k) over.dir in
          let more = mul-le-mul_right (1 + n) (step_below l.1 way c.if-path.false (omega arith)) in
          omega (arith, i.searched b n k few, one, few p, add-mul c.up.step 1 (1 + n), more);
    }

pub returns-then-at-eq-ROOTINO-clause-leaves : goal.returns-then-at-eq-ROOTINO-clause-leaves
returns-then-at-eq-ROOTINO-clause-leaves g c = let i = c.up.invariant in climb_leaves c.requires.reached i.reads i.path i.counted i.searched

pub returns-then-path-clause-leaves : goal.returns-then-path-clause-leaves
returns-then-path-clause-leaves g c = let i = c.up.invariant in climb_leaves c.requires.reached i.reads i.path i.counted i.searched

pub returns-then-parent-count-clause-leaves : goal.returns-then-parent-count-clause-leaves
returns-then-parent-count-clause-leaves g c = let i = c.up.invariant in climb_leaves c.requires.reached i.reads i.path i.counted i.searched

pub returns-clause-leaves : goal.returns-clause-leaves
returns-clause-leaves g c = let i = c.up.invariant in climb_leaves c.requires.reached i.reads i.path i.counted i.searched
