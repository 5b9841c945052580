use Rattle.std.proofs.{Common.{◌≡◌, ◌∙◌, ap, rules, slice_index}, lemmas.List.with_items_is}
use Rattle.ffs_workspace.{proofs.Leaving.{leaves_more, windows_leave}, specs.declared.workspace.Workspace.Workspace}
use Rattle.ffs_pathnames.proofs.{ReadyLaws.ready_passed, StampLaws.{none_due, none_stamped}}
use Rattle.ffs_pathnames.proofs.pass2.clear_passed_and_windows.Goals as goal

pub returns : goal.returns
returns c =
    let old = c.args.workspace.now in
    let mid = c.forget_windows.new.self in
    let forgot = c.forget_windows.ensures.only in
    let kinds : mid.kinds ≡ old.kinds = ap (λ (w : Workspace). w.kinds) forgot in
    let marked : mid.marked ≡ old.marked = ap (λ (w : Workspace). w.marked) forgot in
    let flags : mid.flags ≡ old.flags = ap (λ (w : Workspace). w.flags) forgot in
    record {
      survey = leaves_more {b = mid} (windows_leave old mid forgot) (search rules);
      flags = λ x. rw (← kinds, ← marked, ← flags) (search (rules, with_items_is));
      stamps = λ x. none_stamped _ _ x
          (none_due _ x (ap (λ (w : Workspace). slice_index w.words.items x) forgot ∙ c.requires.unnoted x));
      ready = λ v d r. ready_passed v d mid _ _ (c.forget_windows.ensures.forgets v d r) (search rules) (search rules);
    }
