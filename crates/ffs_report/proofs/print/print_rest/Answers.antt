use Rattle.std.proofs.{Common.{◌∙◌, ap, arith, length, subst, sym}, lemmas.List.{drop-drop, length-drop}}
use Rattle.ffs_report.specs.Sink.{GoesAtOnce}
use Rattle.ffs_report.proofs.Sinks.{puts_more, goes_refused, put_of_rest, put_refused, rest_at, took_more}
use Rattle.ffs_report.proofs.print.print_rest.Goals as goal

pub returns-in_err-at-clause-refused : goal.returns-in_err-at-clause-refused
returns-in_err-at-clause-refused g c = put_refused _ _ _ _ _ _ c.in_err-at.ensures.once

pub returns-in_err-at-clause-at_once : goal.returns-in_err-at-clause-at_once
returns-in_err-at-clause-at_once g c =
    let bytes = c.args.bytes.now in
    let at = c.loop-at.at in
    let put = put_of_rest g.W.Output.was_put _ _ bytes at _ c.in_err-at.ensures.once in
    c.loop-at.invariant.goes _ (goes_refused g.W.Output.was_put _ _ _
    (omega (arith, length-drop at bytes, c.loop-at-test.true)) _ put)

pub loop-at-preserved : goal.loop-at-preserved
loop-at-preserved g c =
    let bytes = c.args.bytes.now in
    let at = c.loop-at.at in
    let n = c.in_ok-at.field-0 in
    let long = length-drop at bytes in
    let puts = c.in_ok-at.ensures.puts in
    let put = put_of_rest g.W.Output.was_put _ _ bytes at _ c.in_ok-at.ensures.once in
    record {
      within = omega (arith, puts.some.1, ap length (rest_at bytes at) ∙ long);
      took = took_more _ _ _ bytes at n c.loop-at.invariant.took puts.ok;
      goes = λ new q. c.loop-at.invariant.goes new (puts_more g.W.Output.was_put _ _ _
          (omega (arith, long, c.loop-at-test.true)) new n put (subst (GoesAtOnce _ _ new) (sym (drop-drop n at bytes)) q));
    }
