use Rattle.std.proofs.Common.{◌∙◌, ◌+◌, [], arith, refl, ap, length}
use Rattle.ffs_volume.{specs.{Blocks.Steps.steps_of, Encodings.Replay.fresh_replay}, proofs.Results.fails_with}
use Rattle.ffs_report.proofs.Sinks.{took_nil}
use Rattle.ffs_walk.{proofs.Counted.{top_held, top_unread}, specs.SeenRuns.{indirect_in_run, seen_runs_left}}
use Rattle.ffs_walk.proofs.ReplayedRuns.{indirect_most, runs_counted}
use Rattle.ffs_finding.{specs.Keepers.{lines_of_runs, lines_of_run}, proofs.Printing.{prints, reads_after, stops}}
use Rattle.ffs_finding.proofs.{Replayed.{lines_next, lines_none, text_is}, Walking.{blocks_on, most_small}}
use Rattle.ffs_finding.proofs.owner.find_kept_offers.Goals as goal

pub loop-run-init : goal.loop-run-init
loop-run-init g c =
    let v = c.args.geometry.now.layout in
    let begun = c.start-runs.ensures.runs in
    let top = c.start-runs.ensures.top in
    record {
      device = refl;
      geometry = c.start-runs.ensures.geometry;
      blocks = record { size = refl; holds = c.requires.holds };
      held = top_held c.start-runs.result.walk top _;
      room = omega (arith, most_small c.start-runs.result.walk top);
      paid = λ b k. rw (begun b, top_unread c.start-runs.result.walk top)
          (omega (arith, runs_counted v c.args.sought.cut fresh_replay (steps_of v c.args.inode.now b)));
      printed = record { lines = []; right = λ b k. rw (begun b) refl; took = took_nil _ };
    }

pub next-requires : goal.next-requires
next-requires g c = grind arith

pub returns-in_err-run-clause-finds : goal.returns-in_err-run-clause-finds
returns-in_err-run-clause-finds g c =
    let inv = c.loop-run.invariant in
    let reads = c.in_err-run.ensures.counted inv.held in
    rw (fails_with _ c.from_residual.ensures.1) (record {
      found = record {
        image = rw inv.device at c.in_err-run.ensures.leaves.read;
        text = reads_after inv.printed;
      };
      reads = λ b k. omega (arith, inv.paid b k, reads.most);
    })

pub print_run-requires : goal.print_run-requires
print_run-requires g c = omega (arith, c.loop-run.invariant.room)

pub returns-in_err-print_run-clause-finds : goal.returns-in_err-print_run-clause-finds
returns-in_err-print_run-clause-finds g c =
    let from = c.from_residual-in_err-print_run in
    let inv = c.loop-run.invariant in
    let s = c.args.sought in
    let run = c.in-Some.run' in
    let next = rw (inv.device, c.in-Some.is) at c.in_ok-run.ensures.run.runs in
    let reads = c.in_ok-run.ensures.counted inv.held in
    rw (fails_with _ from.ensures.1) (record {
      found = record {
        image = c.in_ok-run.ensures.leaves.read ∙ inv.device;
        text = stops _ _ (λ b. lines_of_runs s.fragment s.number (c.loop-run.earlier + indirect_in_run run)
            (seen_runs_left b c.next.new.self)) _ (lines_of_run s.fragment s.number c.loop-run.earlier run) _ _ _ inv.printed
            (λ b k. lines_next s.fragment s.number c.loop-run.earlier _ run _ _ (next b k) refl)
            (rw (text_is s c.loop-run.earlier run) at c.in_err-print_run.ensures);
      };
      reads = λ b k. omega (arith, inv.paid b k, reads.most);
    })

pub overflow_add-earlier : goal.overflow_add-earlier
overflow_add-earlier g c =
    omega (arith, c.loop-run.invariant.room, c.indirect_in-earlier.ensures, indirect_most c.in-Some.run'.block)

pub loop-run-preserved : goal.loop-run-preserved
loop-run-preserved g c =
    let inv = c.loop-run.invariant in
    let s = c.args.sought in
    let run = c.in-Some.run' in
    let did = c.in_ok-run.ensures in
    let next = rw (inv.device, c.in-Some.is) at did.run.runs in
    let reads = did.counted inv.held in
    let paid = rw c.in-Some.is at reads.paid in
    let image = did.leaves.read ∙ inv.device in
    record {
      device = image;
      geometry = did.geometry ∙ inv.geometry;
      blocks = blocks_on (g.I.Image.device c.args.image.now) (g.I.Image.device c.next.new.image) inv.geometry
          (ap (λ d. d.contents) image) inv.blocks c.next.ensures.leaves.kept;
      held = reads.held;
      room = omega (
        arith,
        inv.room,
        rw c.in-Some.is at did.run.falls,
        c.indirect_in-earlier.ensures,
        indirect_most run.block,
      );
      paid = λ b k. omega (arith, inv.paid b k, paid, ap length (next b k), indirect_most run.block);
      printed = prints _ _ _ _ (lines_of_run s.fragment s.number c.loop-run.earlier run) _ _ _ inv.printed
          (λ b k. lines_next s.fragment s.number c.loop-run.earlier _ run _ _ (next b k)
          (ap (λ n. c.loop-run.earlier + n) c.indirect_in-earlier.ensures))
          (rw (text_is s c.loop-run.earlier run) at c.in_ok-print_run.ensures);
    }

pub returns-clause-finds : goal.returns-clause-finds
returns-clause-finds g c = grind (arith, lines_none)
