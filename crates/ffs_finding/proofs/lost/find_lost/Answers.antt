use Rattle.std.proofs.Common.{arith}
use Rattle.std.proofs.{Common.{◌∙◌, ap, Bool, Err}, lemmas.Result.err_from_is_err_and}
use Rattle.ffs_image.specs.Device.{Device}
use Rattle.ffs_workspace.specs.declared.workspace.Workspace.{Workspace}
use Rattle.ffs_finding.proofs.{Leaving.{block_read, size_after}, LostParts.{fault_in_first, fault_in_second, printed_both}}
use Rattle.ffs_finding.proofs.LostParts.{failed_in_first, failed_in_second}
use Rattle.ffs_check.specs.Moment.{moment}
use Rattle.ffs_finding.proofs.lost.find_lost.Goals as goal

pub find_wrong-requires : goal.find_wrong-requires
find_wrong-requires g c =
    let can = c.forget_windows.ensures.forgets c.args.geometry.now.layout _ c.requires.ready in
    record {
      volume = c.requires.ready.volume;
      size = can.ready.made.used;
      window = record { room = can.ready.made.current; holds = can.windows.current };
    }

pub returns-in_err-lost-clause-prints : goal.returns-in_err-lost-clause-prints
returns-in_err-lost-clause-prints g c = grind (arith, fault_in_first)

pub returns-in_err-free-clause-prints : goal.returns-in_err-free-clause-prints
returns-in_err-free-clause-prints g c =
    let p = err_from_is_err_and c.from_residual-in_err-free.result c.from_residual-in_err-free.ensures.1 in
    let used = ap (λ (w : Workspace). w.used) c.forget_windows.ensures.only in
    let one = rw used at c.in_ok-lost.ensures.prints.lines.found in
    let two = rw (one.image, used) at c.in_err-free.ensures.prints.lines.found in
    rw (p.1, p.2) (record {
      found = record {
        image = two.image;
        text = fault_in_second c.args.geometry.now.layout (g.I.Image.device c.args.image.now) c.args.workspace.now
            _ _ _ c.in_ok-lost.lost _ one.text two.text;
      };
      any = tt;
    })

pub returns-in_err-lost-clause-before_fault : goal.returns-in_err-lost-clause-before_fault
returns-in_err-lost-clause-before_fault g c =
    let p = err_from_is_err_and c.from_residual.result c.from_residual.ensures.1 in
    let used = ap (λ (w : Workspace). w.used) c.forget_windows.ensures.only in
    let did = rw used at c.in_err-lost.ensures.prints in
    rw (p.1, p.2) (failed_in_first c.args.geometry.now.layout (g.I.Image.device c.args.image.now) c.args.workspace.now
    (g.I.Image.reads c.args.image.now) (g.W.Output.sink c.args.out.now)
    (moment g.I.Image g.W.Output c.find_wrong.new.image c.find_wrong.new.out) c.in_err-lost.field-0.0 did.failed)

pub returns-in_err-free-clause-before_fault : goal.returns-in_err-free-clause-before_fault
returns-in_err-free-clause-before_fault g c =
    let p = err_from_is_err_and c.from_residual-in_err-free.result c.from_residual-in_err-free.ensures.1 in
    let used = ap (λ (w : Workspace). w.used) c.forget_windows.ensures.only in
    let one = rw used at c.in_ok-lost.ensures.prints in
    let two = rw (one.lines.found.image, used) at c.in_err-free.ensures.prints in
    rw (p.1, p.2) (failed_in_second c.args.geometry.now.layout (g.I.Image.device c.args.image.now) c.args.workspace.now
    (g.I.Image.reads c.args.image.now) _ (g.W.Output.sink c.args.out.now) _
    (moment g.I.Image g.W.Output c.find_wrong-2.new.image c.find_wrong-2.new.out) c.in_ok-lost.lost c.in_err-free.field-0.0
    one.reads one.lines.found.text two.failed)

pub returns-clause-prints : goal.returns-clause-prints
returns-clause-prints g c =
    let d = g.I.Image.device c.args.image.now in
    let used = ap (λ (w : Workspace). w.used) c.forget_windows.ensures.only in
    let one = rw used at c.in_ok-lost.ensures.prints.lines in
    let two = rw (one.found.image, used) at c.in_ok-free.ensures.prints.lines in
    let all = printed_both c.args.geometry.now.layout d c.args.workspace.now _ _ _ c.in_ok-lost.lost c.in_ok-free.free
    one.found.text one.any two.found.text two.any in
    record { found = record { image = two.found.image; text = all.printed }; any = all.any_is }

pub returns-in_err-lost-clause-ready : goal.returns-in_err-lost-clause-ready
returns-in_err-lost-clause-ready g c =
    let can = c.forget_windows.ensures.forgets c.args.geometry.now.layout _ c.requires.ready in
    let did = c.in_err-lost.ensures in
    block_read _ _ _ _ _ (size_after {T = Bool} _ _ (Err c.in_err-lost.field-0.0) did.prints.lines.found.image)
    can.ready did.window

pub returns-in_err-free-clause-ready : goal.returns-in_err-free-clause-ready
returns-in_err-free-clause-ready g c =
    let can = c.forget_windows.ensures.forgets c.args.geometry.now.layout _ c.requires.ready in
    let first = c.in_ok-lost.ensures.prints.lines.found.image in
    let did = c.in_err-free.ensures in
    block_read _ _ _ _ _ (size_after {T = Bool} _ _ (Err c.in_err-free.field-0.0) did.prints.lines.found.image
    ∙ ap (λ (d : Device). d.size) first)
    can.ready did.window

pub returns-clause-ready : goal.returns-clause-ready
returns-clause-ready g c =
    let can = c.forget_windows.ensures.forgets c.args.geometry.now.layout _ c.requires.ready in
    let first = c.in_ok-lost.ensures.prints.lines.found.image in
    let did = c.in_ok-free.ensures in
    block_read _ _ _ _ _ (ap (λ (d : Device). d.size) (did.prints.lines.found.image ∙ first)) can.ready did.window
