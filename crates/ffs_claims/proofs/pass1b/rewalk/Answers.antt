use Rattle.std.proofs.Common.{◌∙◌, [], arith, refl, ap, length, List}
use Rattle.ffs_volume.{specs.Blocks.BlockCheck.{first_offer_lines, set_count}, proofs.Results.fails_with}
use Rattle.ffs_report.proofs.Reporting.{of_begins, of_reads, of_same, of_says, of_stops}
use Rattle.ffs_maps.specs.Bits.{bits_of}
use Rattle.ffs_walk.{proofs.{Counted.{top_held, top_unread}, ReplayedRuns.indirect_most}, specs.SeenRuns.seen_runs_left}
use Rattle.ffs_claims.proofs.{Duplicates.{none_first, none_left, some_left}, Frames.{can_walk, claims_none, ready_read}}
use Rattle.ffs_claims.proofs.{Frames.ready_walked, Reportings.{lines_split, part_from, part_now, part_then}}
use Rattle.ffs_claims.proofs.{Clearing.{clears_from, clears_none, clears_read, clears_then}, Rewalks.counted_most}
use Rattle.ffs_claims.proofs.Rewalks.{rereads_on, rewalk_begins, rewalk_ends, rewalk_on, rewalk_over, runs_pay_on}
use Rattle.ffs_claims.specs.{Lines.of_lines, Rewalking.{indirect_among, offers_of_runs}}
use Rattle.ffs_workspace.specs.declared.workspace.Windows.{Windows}
use Rattle.ffs_claims.proofs.pass1b.rewalk.Goals as goal

pub loop-run-init : goal.loop-run-init
loop-run-init g c =
    let top = c.start-runs.ensures.top in
    let begun = λ (bytes : List _). rw c.noted_cut.ensures at (c.start-runs.ensures.runs bytes) in
    let unread = top_unread c.start-runs.result.walk top in
    record {
      left = record { image = refl; ready = c.requires.ready; stays = claims_none c.args.workspace.now };
      pending = c.requires.pending;
      geometry = c.start-runs.ensures.geometry;
      held = top_held c.start-runs.result.walk top _;
      table = refl;
      counted = record { rises = λ _. omega arith; paid = λ _. omega (arith, unread) };
      indirect = λ bytes t. rw (begun bytes) (omega (arith, unread));
      walk = λ bytes t. rewalk_begins (begun bytes);
      said = of_same of_begins (λ bytes t. rw (begun bytes) refl);
      clears = clears_none refl refl;
    }

pub next-requires : goal.next-requires
next-requires g c = can_walk c.loop-run.invariant.geometry c.loop-run.invariant.left.ready

pub returns-in_err-run-clause-walks : goal.returns-in_err-run-clause-walks
returns-in_err-run-clause-walks g c =
    let inv = c.loop-run.invariant in
    let err = c.in_err-run.ensures.leaves.read in
    let reads = c.in_err-run.ensures.counted inv.held in
    let ready = ready_read {d' = g.I.Image.device c.next.new.image} err.contents err.size inv.geometry
    c.next.ensures.leaves.kept inv.left.ready in
    rw (fails_with _ c.from_residual.ensures.1) (record {
      text = of_reads inv.said;
      rewalked = tt;
      part = λ bytes t. part_now (inv.walk bytes t).reported refl refl;
      runs = λ bytes t. omega (arith, (inv.walk bytes t).runs);
      clears = clears_read (clears_then inv.clears (clears_none refl refl));
      left = grind arith;
      counted = grind arith;
      known = λ bytes t. omega (arith, inv.indirect bytes t, reads.most);
    })

pub returns-in_err-report_run-clause-walks : goal.returns-in_err-report_run-clause-walks
returns-in_err-report_run-clause-walks g c =
    let from = c.from_residual-in_err-report_run in
    let inv = c.loop-run.invariant in
    let n = c.args.number in
    let did = c.in_err-report_run.ensures.reported in
    let next = rw (inv.left.image, c.in-Some.is) at c.in_ok-run.ensures.run.runs in
    let paid = rw c.in-Some.is at (c.in_ok-run.ensures.counted inv.held).paid in
    let on = rereads_on c.in_ok-run.ensures.leaves.read inv.geometry c.next.ensures.leaves.kept did.only inv.left in
    let counts = c.report_run.ensures.runs ∙ c.saturating_add-workspace.ensures in
    rw (fails_with _ from.ensures.1) (record {
      text = of_stops _ _ _ _ _ _ _ _ inv.said
          (λ bytes t. lines_split (bits_of c.loop-run.workspace.duplicates) _ _ _ _ (ap (offers_of_runs n) (next bytes t)) refl)
          did.said;
      rewalked = tt;
      part = λ bytes t. part_then _ (inv.walk bytes t).reported (ap (offers_of_runs n) (next bytes t))
          (part_from _ _ _ did.part refl refl);
      runs = λ bytes t. omega (arith, (inv.walk bytes t).runs, counted_most _ _ counts, ap length (next bytes t));
      clears = clears_then inv.clears (clears_from did.clears refl refl);
      left = record { image = on.image; ready = on.ready; stays = on.stays };
      counted = runs_pay_on inv.counted counts (omega (arith, paid, indirect_most c.in-Some.run'.block));
      known = λ bytes t. omega (arith, inv.indirect bytes t, paid, ap indirect_among (next bytes t));
    })

pub loop-run-preserved : goal.loop-run-preserved
loop-run-preserved g c =
    let inv = c.loop-run.invariant in
    let did = c.in_ok-report_run.ensures.reported in
    let next = rw (inv.left.image, c.in-Some.is) at c.in_ok-run.ensures.run.runs in
    let reads = c.in_ok-run.ensures.counted inv.held in
    let paid = rw c.in-Some.is at reads.paid in
    let counts = c.report_run.ensures.runs ∙ c.saturating_add-workspace.ensures in
    record {
      left = rereads_on c.in_ok-run.ensures.leaves.read inv.geometry c.next.ensures.leaves.kept did.only inv.left;
      pending = some_left _ _ c.has_unreported_dups.ensures c.if-not-has_unreported_dups.false;
      geometry = c.in_ok-run.ensures.geometry ∙ inv.geometry;
      held = rw did.only.windows reads.held;
      table = ap (λ (x : Windows). x.table) did.only.windows ∙ inv.table;
      counted = runs_pay_on inv.counted counts (omega (arith, paid, indirect_most c.in-Some.run'.block));
      indirect = λ bytes t. omega (arith, inv.indirect bytes t, paid, ap indirect_among (next bytes t));
      walk = λ bytes t. rewalk_on _ (next bytes t) inv.pending refl refl did.reported counts (inv.walk bytes t);
      said = of_says inv.said
          (λ bytes t. lines_split _ (bits_of c.report_run.new.workspace.duplicates) _ _ _
          (ap (offers_of_runs c.args.number) (next bytes t)) did.reported.duplicates) did.said;
      clears = clears_then inv.clears (clears_from did.clears refl refl);
    }

pub returns-then-not-has_unreported_dups-clause-walks : goal.returns-then-not-has_unreported_dups-clause-walks
returns-then-not-has_unreported_dups-clause-walks g c =
    let inv = c.loop-run.invariant in
    let did = c.in_ok-report_run.ensures.reported in
    let d' = bits_of c.report_run.new.workspace.duplicates in
    let none = none_left (set_count d') _ c.has_unreported_dups.ensures c.if-not-has_unreported_dups.true in
    let next = rw (inv.left.image, c.in-Some.is) at c.in_ok-run.ensures.run.runs in
    let paid = rw c.in-Some.is at (c.in_ok-run.ensures.counted inv.held).paid in
    let counts = c.report_run.ensures.runs ∙ c.saturating_add-workspace.ensures in
    record {
      text = of_same {rest' = λ bytes. of_lines []} (of_says
          {rest' = λ bytes. of_lines (first_offer_lines d' (offers_of_runs c.args.number
          (seen_runs_left bytes c.next.new.self)))} inv.said
          (λ bytes t. lines_split _ d' _ _ _ (ap (offers_of_runs c.args.number) (next bytes t)) did.reported.duplicates)
          did.said) (λ bytes t. ap of_lines (none_first d' _ none));
      rewalked = λ bytes t. rewalk_over none
          (rewalk_on _ (next bytes t) inv.pending refl refl did.reported counts (inv.walk bytes t));
      part = tt;
      runs = λ bytes t. omega (arith, (inv.walk bytes t).runs, counted_most _ _ counts, ap length (next bytes t));
      clears = clears_then inv.clears (clears_from did.clears refl refl);
      left = rereads_on c.in_ok-run.ensures.leaves.read inv.geometry c.next.ensures.leaves.kept did.only inv.left;
      counted = runs_pay_on inv.counted counts (omega (arith, paid, indirect_most c.in-Some.run'.block));
      known = λ bytes t. omega (arith, inv.indirect bytes t, paid, ap indirect_among (next bytes t));
    }

pub returns-in_default-clause-walks : goal.returns-in_default-clause-walks
returns-in_default-clause-walks g c =
    let inv = c.loop-run.invariant in
    let d = bits_of c.loop-run.workspace.duplicates in
    let ready = ready_walked c.in_ok-run.ensures.leaves.read inv.geometry c.next.ensures.leaves.kept inv.left.ready in
    let over = rw (inv.left.image, c.in_default.is) at c.in_ok-run.ensures.run.runs in
    let paid = rw c.in_default.is at (c.in_ok-run.ensures.counted inv.held).paid in
    record {
      text = of_same inv.said
          (λ bytes t. ap (λ rs. of_lines (first_offer_lines d (offers_of_runs c.args.number rs))) (over bytes t));
      rewalked = λ bytes t. rewalk_ends (over bytes t) (inv.walk bytes t);
      part = tt;
      runs = λ bytes t. omega (arith, (inv.walk bytes t).runs);
      clears = clears_then inv.clears (clears_none refl refl);
      left = grind arith;
      counted = grind arith;
      known = λ bytes t. omega (arith, inv.indirect bytes t, paid);
    }
