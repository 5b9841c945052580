use Rattle.std.proofs.{Common.{◌≡◌, ◌∙◌, ◌+◌, arith, Err, Ok, refl}, lemmas.Result.err_from_is_err_and}
use Rattle.ffs_volume.specs.Directories.{ReferenceCheck.reference_lines_at, Volumes.volume_of}
use Rattle.ffs_volume.{proofs.Numbered.{from_next, from_end}, specs.Blocks.Inodes.inodes_of}
use Rattle.ffs_volume.proofs.Results.{fails_with}
use Rattle.ffs_report.proofs.{Paying.{paid_answer, paid_fault, paid_says, paid_stops, paid_then}, Reporting.of_fault}
use Rattle.ffs_report.proofs.Reporting.{of_part, of_same, reports_knowing, said_knows, says_heading, heading_alone}
use Rattle.ffs_report.proofs.Reporting.{heading_part, stops_heading}
use Rattle.ffs_image.specs.Known.{ForBytes}
use Rattle.ffs_workspace.{specs.Found.WithFindings, proofs.Leaving.findings_held}
use Rattle.ffs_workspace.proofs.TableReadLaws.{none_read, passed_over, read_next, read_within}
use Rattle.ffs_counts.proofs.Holding.{held_on, lines_after, lines_begin, none_passed, passed_lines}
use Rattle.ffs_counts.proofs.InodesBelow.{fails_before}
use Rattle.ffs_counts.proofs.pass4.phase4.Goals.{After-skipped_from-skipped, At-loop-number}
use Rattle.ffs_counts.proofs.pass4.phase4.Given as given
use Rattle.ffs_counts.proofs.pass4.phase4.Goals as goal

-- what is known of the bytes in the loop
known : (g : given.Over) (c : At-loop-number g) →
    ForBytes (WithFindings c.args.geometry.now.layout (g.I.Image.device c.args.image.now) c.args.workspace.now)
    (WithFindings c.args.geometry.now.layout (g.I.Image.device c.loop-number.image) c.loop-number.workspace)
known g c bytes k = grind (arith, findings_held)

-- the inodes that are passed over have no lines
passed : (g : given.Over) (c : After-skipped_from-skipped g) →
    ForBytes (WithFindings c.args.geometry.now.layout (g.I.Image.device c.args.image.now) c.args.workspace.now)
    (λ bytes. lines_after c.args.geometry.now.layout c.loop-number.number bytes
    ≡ lines_after c.args.geometry.now.layout (c.loop-number.number + c.skipped_from-skipped.result) bytes)
passed g c bytes k = grind (arith, passed_lines)

pub returns-in_err-say-clause-text : goal.returns-in_err-say-clause-text
returns-in_err-say-clause-text g c =
    rw (fails_with _ c.from_residual.ensures.1) (stops_heading c.in_err-say.ensures.said)

pub returns-in_err-say-clause-leaves : goal.returns-in_err-say-clause-leaves
returns-in_err-say-clause-leaves g c = c.forget_windows.ensures.only

pub returns-in_err-say-clause-ready : goal.returns-in_err-say-clause-ready
returns-in_err-say-clause-ready g c =
    (c.forget_windows.ensures.forgets c.args.geometry.now.layout _ c.requires.ready).ready

pub loop-number-init : goal.loop-number-init
loop-number-init g c =
    let v = c.args.geometry.now.layout in
    record {
      within = omega arith;
      ready = c.forget_windows.ensures.forgets v _ c.requires.ready;
      device = refl;
      held = c.forget_windows.ensures.only;
      reads = λ bytes k. none_read v _ _ _ _ c.forget_windows.ensures.empty (omega arith);
      said = says_heading (λ bytes k. lines_begin v bytes) c.in_ok-say.ensures.said;
      heading = heading_alone c.in_ok-say.ensures.said;
      paid = paid_says _ c.in_ok-say.ensures.said (omega arith) (omega arith);
    }

pub returns-in_err-report_references-clause-text : goal.returns-in_err-report_references-clause-text
returns-in_err-report_references-clause-text g c =
    let v = c.args.geometry.now.layout in
    let n = c.loop-number.number in
    let fault = c.in_err-report_references.field-0.0 in
    rw (fails_with _ c.from_residual-in_err-report_references.ensures.1)
    (of_fault (Unit {0}) (Unit {0}) _ _ _ (lines_after v (n + 1)) _ _ _ _ fault c.loop-number.invariant.said
    (λ bytes k. from_next (reference_lines_at (volume_of v bytes)) n (inodes_of v)
    (omega (arith, c.loop-number-test.true)))
    (reports_knowing (Unit {0}) _ _ _ _ _ (Err fault)
    (known g (goal.at.returns-in_err-report_references-clause-text g c).At-loop-number)
    c.in_err-report_references.ensures.text))

pub returns-in_err-report_references-clause-before_fault : goal.returns-in_err-report_references-clause-before_fault
returns-in_err-report_references-clause-before_fault g c =
    rw (fails_with _ c.from_residual-in_err-report_references.ensures.1)
    (fails_before (Unit {0}) (Unit {0}) _ c.args.geometry.now.layout c.loop-number.number _ _ _
    c.in_err-report_references.field-0.0 (omega (arith, c.loop-number-test.true)) c.loop-number.invariant.said c.in_err-report_references.ensures.before_fault)

pub loop-number-preserved-then-skipped-eq0 : goal.loop-number-preserved-then-skipped-eq0
loop-number-preserved-then-skipped-eq0 g c =
    let v = c.args.geometry.now.layout in
    let inv = c.loop-number.invariant in
    let n = c.loop-number.number in
    let ok = c.in_ok-report_references.ensures in
    let more = known g (goal.at.loop-number-preserved-then-skipped-eq0 g c).At-loop-number in
    record {
      within = omega (arith, c.loop-number-test.true);
      ready = ok.stays.can_read;
      device = ok.faults ∙ inv.device;
      held = held_on c.args.workspace.now c.loop-number.workspace c.report_references.new.workspace inv.held ok.stays.held;
      reads = λ bytes k. read_next v _ n _ _ _ c.args.geometry.now.sound (inv.reads bytes k) tt
          (ok.reads bytes (more bytes k));
      said = of_part inv.said
          (λ bytes k. from_next (reference_lines_at (volume_of v bytes)) n (inodes_of v)
          (omega (arith, c.loop-number-test.true)))
          (said_knows more ok.text);
      heading = heading_part _ _ (Ok tt) inv.heading ok.text;
      paid = paid_then inv.paid (paid_answer ok.paid);
    }

pub loop-number-preserved : goal.loop-number-preserved
loop-number-preserved g c = let inv = c.loop-number.invariant in record {
  within = omega arith;
  ready = inv.ready;
  device = inv.device;
  held = inv.held;
  reads = λ bytes k. passed_over _ _ c.loop-number.number _ _ _ _ (omega arith) (none_passed c.args.geometry.now.layout
      bytes c.loop-number.workspace _ _ (findings_held _ bytes c.args.workspace.now _ inv.held k.1)
      c.skipped_from-skipped.ensures.right (omega arith)) (inv.reads bytes k);
  said = grind (arith, passed, of_same);
  heading = inv.heading;
  paid = inv.paid;
}

pub returns-clause-text : goal.returns-clause-text
returns-clause-text g c = grind (arith, of_same, from_end)

pub returns-in_err-say-clause-paid : goal.returns-in_err-say-clause-paid
returns-in_err-say-clause-paid g c = grind (arith, err_from_is_err_and, paid_stops)

pub returns-in_err-report_references-clause-reads : goal.returns-in_err-report_references-clause-reads
returns-in_err-report_references-clause-reads g c bytes k =
    let more = known g (goal.at.returns-in_err-report_references-clause-reads g c).At-loop-number bytes k in
    read_within c.args.geometry.now.layout _ _ _ _ _ c.args.geometry.now.sound (c.loop-number.invariant.reads bytes k) _
    (omega arith) (c.in_err-report_references.ensures.reads bytes more)

pub returns-in_err-report_references-clause-paid : goal.returns-in_err-report_references-clause-paid
returns-in_err-report_references-clause-paid g c = grind (arith, err_from_is_err_and, paid_then, paid_fault)

pub returns-clause-paid : goal.returns-clause-paid
returns-clause-paid g c = grind (arith, paid_answer)

pub returns-in_err-report_references-clause-heading : goal.returns-in_err-report_references-clause-heading
returns-in_err-report_references-clause-heading g c = grind (arith, err_from_is_err_and, heading_part)
