use Rattle.std.proofs.{Common.{◌+◌, ap, refl, ◌∙◌, arith, rules, Err, Ok}, lemmas.Result.err_from_is_err_and}
use Rattle.ffs_volume.{specs.Directories.Volumes.volume_of, proofs.Numbered.{from_next, from_end}}
use Rattle.ffs_volume.{specs.Blocks.Inodes.inodes_of, proofs.Results.fails_with}
use Rattle.ffs_volume.specs.Directories.Connectivity.{unref_dir_lines}
use Rattle.ffs_report.proofs.{Paying.{paid_answer, paid_fault, paid_says, paid_stops, paid_then}, Reporting.of_fault}
use Rattle.ffs_report.proofs.Reporting.{of_part, of_same, reports_knowing, said_knows, says_heading, heading_alone}
use Rattle.ffs_report.proofs.Reporting.{heading_part, stops_heading}
use Rattle.ffs_image.specs.Known.{ForBytes}
use Rattle.ffs_workspace.specs.{Found.WithSurvey, declared.workspace.Workspace.Workspace}
use Rattle.ffs_workspace.proofs.{PlaceLaws.filled_noted, Leaving.{claims_left, survey_left, leaves_more, windows_leave}}
use Rattle.ffs_workspace.proofs.TableReadLaws.{none_read, passed_over, read_next, read_within}
use Rattle.ffs_connectivity.proofs.UnrefLines.{fails_after, lines_begin, lines_from_dir, no_line}
use Rattle.ffs_connectivity.proofs.pass3.phase3.Goals.{At-loop-number}
use Rattle.ffs_connectivity.proofs.pass3.phase3.Given as given
use Rattle.ffs_connectivity.proofs.pass3.phase3.Goals as goal

-- what is known of the bytes in the loop
known : (g : given.Over) (c : At-loop-number g) →
    ForBytes (WithSurvey c.args.geometry.now.layout (g.I.Image.device c.args.image.now) c.args.workspace.now)
    (WithSurvey c.args.geometry.now.layout (g.I.Image.device c.loop-number.image) c.loop-number.workspace)
known g c bytes k = grind (arith, claims_left, survey_left)

pub returns-in_err-say-clause-text : goal.returns-in_err-say-clause-text
returns-in_err-say-clause-text g c =
    rw (fails_with _ c.from_residual.ensures.1) (stops_heading c.in_err-say.ensures.said)

pub returns-in_err-say-clause-ready : goal.returns-in_err-say-clause-ready
returns-in_err-say-clause-ready g c =
    (c.forget_windows.ensures.forgets c.args.geometry.now.layout _ c.requires.ready).ready

pub returns-then-first-len-clause-ready : goal.returns-then-first-len-clause-ready
returns-then-first-len-clause-ready g c =
    (c.forget_windows.ensures.forgets c.args.geometry.now.layout _ c.requires.ready).ready

pub returns-then-first-len-clause-text : goal.returns-then-first-len-clause-text
returns-then-first-len-clause-text g c =
    let v = c.args.geometry.now.layout in
    let kinds = c.deref.ensures.value ∙ ap (λ (w : Workspace). w.kinds.items) c.forget_windows.ensures.only in
    let reached = ap (λ (w : Workspace). w.reached.items) c.forget_windows.ensures.only in
    let long = (c.forget_windows.ensures.forgets v _ c.requires.ready).ready.made.kinds in
    says_heading (λ bytes k. lines_begin v bytes c.args.workspace.now _ _ kinds reached k.1 k.2
    c.first_unreached-first.result (omega (arith, long)) c.first_unreached-first.ensures.before
    ∙ from_end (unref_dir_lines (volume_of v bytes)) _ (inodes_of v) (omega (arith, long))) c.in_ok-say.ensures.said

pub loop-number-init : goal.loop-number-init
loop-number-init g c =
    let v = c.args.geometry.now.layout in
    let forgot = c.forget_windows.ensures.only in
    let can = c.forget_windows.ensures.forgets v (g.I.Image.device c.args.image.now) c.requires.ready in
    let kinds = c.deref.ensures.value ∙ ap (λ (w : Workspace). w.kinds.items) forgot in
    let reached = ap (λ (w : Workspace). w.reached.items) forgot in
    record {
      ready = search (rules, arith);
      device = refl;
      low = omega arith;
      survey = leaves_more {b = c.forget_windows.new.self} (windows_leave _ _ forgot) (grind (arith, filled_noted));
      leaders = grind arith;
      reads = λ bytes k.
          let unreached = c.first_unreached-first.ensures.before in
          passed_over v _ 0 c.first_unreached-first.result _ _ _ (omega arith)
          (λ x _ low. no_line v bytes c.args.workspace.now _ _ kinds reached k.1 k.2 _ (omega arith) unreached x
          (unreached x low))
          (none_read v _ _ _ _ c.forget_windows.ensures.empty (omega arith));
      said = says_heading
          (λ bytes k. lines_begin v bytes c.args.workspace.now _ _ kinds reached k.1 k.2
          c.first_unreached-first.result (omega arith) c.first_unreached-first.ensures.before) c.in_ok-say.ensures.said;
      heading = heading_alone c.in_ok-say.ensures.said;
      paid = paid_says _ c.in_ok-say.ensures.said (omega arith) (omega arith);
    }

pub returns-in_err-report_unref-clause-text : goal.returns-in_err-report_unref-clause-text
returns-in_err-report_unref-clause-text g c =
    let v = c.args.geometry.now.layout in
    let n = c.loop-number.number in
    let fault = c.in_err-report_unref.field-0.0 in
    rw (fails_with _ c.from_residual-in_err-report_unref.ensures.1)
    (of_fault (Unit {0}) (Unit {0}) _ _ _ (lines_from_dir v (n + 1)) _ _ _ _ fault c.loop-number.invariant.said
    (λ bytes k. from_next (unref_dir_lines (volume_of v bytes)) n (inodes_of v) (omega arith))
    (reports_knowing (Unit {0}) _ _ _ _ _ (Err fault)
    (known g (goal.at.returns-in_err-report_unref-clause-text g c).At-loop-number)
    c.in_err-report_unref.ensures.text))

pub loop-number-preserved : goal.loop-number-preserved
loop-number-preserved g c =
    let v = c.args.geometry.now.layout in
    let inv = c.loop-number.invariant in
    let n = c.loop-number.number in
    let ok = c.in_ok-report_unref.ensures in
    let more = known g (goal.at.loop-number-preserved g c).At-loop-number in
    record {
      ready = ok.stays.can_read;
      device = ok.faults ∙ inv.device;
      low = omega arith;
      survey = leaves_more inv.survey (windows_leave _ _ ok.stays.held);
      leaders = grind arith;
      reads = λ bytes k. read_next v _ n _ _ _ c.args.geometry.now.sound (inv.reads bytes k) tt
          (ok.reads bytes (more bytes k));
      said = of_part inv.said
          (λ bytes k. from_next (unref_dir_lines (volume_of v bytes)) n (inodes_of v) (omega arith))
          (said_knows more ok.text);
      heading = heading_part _ _ (Ok tt) inv.heading ok.text;
      paid = paid_then inv.paid (paid_answer ok.paid);
    }

pub returns-clause-text : goal.returns-clause-text
returns-clause-text g c = grind (arith, of_same, from_end)

pub returns-in_err-say-clause-paid : goal.returns-in_err-say-clause-paid
returns-in_err-say-clause-paid g c = grind (arith, err_from_is_err_and, paid_stops)

pub returns-then-first-len-clause-paid : goal.returns-then-first-len-clause-paid
returns-then-first-len-clause-paid g c = paid_says _ c.in_ok-say.ensures.said (omega arith) (omega arith)

pub returns-in_err-report_unref-clause-reads : goal.returns-in_err-report_unref-clause-reads
returns-in_err-report_unref-clause-reads g c bytes k =
    let more = known g (goal.at.returns-in_err-report_unref-clause-reads g c).At-loop-number bytes k in
    read_within c.args.geometry.now.layout _ _ _ _ _ c.args.geometry.now.sound (c.loop-number.invariant.reads bytes k) _
    (omega arith) (c.in_err-report_unref.ensures.reads bytes more)

pub returns-in_err-report_unref-clause-paid : goal.returns-in_err-report_unref-clause-paid
returns-in_err-report_unref-clause-paid g c = grind (arith, err_from_is_err_and, paid_then, paid_fault)

pub returns-clause-paid : goal.returns-clause-paid
returns-clause-paid g c = grind (arith, paid_answer)

pub returns-in_err-report_unref-clause-leaves : goal.returns-in_err-report_unref-clause-leaves
returns-in_err-report_unref-clause-leaves g c = grind arith

pub returns-in_err-report_unref-clause-heading : goal.returns-in_err-report_unref-clause-heading
returns-in_err-report_unref-clause-heading g c = grind (arith, err_from_is_err_and, heading_part)

pub returns-in_err-report_unref-clause-before_fault : goal.returns-in_err-report_unref-clause-before_fault
returns-in_err-report_unref-clause-before_fault g c =
    let more = known g (goal.at.returns-in_err-report_unref-clause-before_fault g c).At-loop-number in
    rw (fails_with _ c.from_residual-in_err-report_unref.ensures.1)
    (fails_after (Unit {0}) (Unit {0}) _ _ _ _ _ _ _ c.in_err-report_unref.field-0.0 (omega arith)
    c.loop-number.invariant.said more c.in_err-report_unref.ensures.before_fault)
