use Rattle.std.proofs.Common.{◌∙◌, ◌+◌, ℕ, List, [], ◌++◌, ap, arith, refl, sym}
use Rattle.ffs_volume.proofs.Results.{fails_with}
use Rattle.ffs_maps.specs.Bits.{bits_of}
use Rattle.ffs_groups.specs.Free.{free_in}
use Rattle.ffs_report.proofs.Sinks.{took_nil}
use Rattle.ffs_finding.proofs.{Printing.{prints_whether, reads_after, stops}, LostGroups.{groups_begin, groups_end}}
use Rattle.ffs_finding.{specs.LostMaps.from_group, proofs.LostGroups.groups_next}
use Rattle.ffs_finding.proofs.lost.find_wrong.Goals as goal

pub loop-group-init : goal.loop-group-init
loop-group-init g c =
    let v = c.args.geometry.now.layout in
    record {
      device = refl;
      window = c.requires.window;
      reads = omega arith;
      printed = record {
        printed = record {
          lines = [];
          right = λ b k. groups_begin c.args.how v (free_in (bits_of c.args.used.now) v.size) b;
          took = took_nil _;
        };
        any_is = refl;
      };
    }

pub returns-in_err-fill_group-clause-prints : goal.returns-in_err-fill_group-clause-prints
returns-in_err-fill_group-clause-prints g c =
    let inv = c.loop-group.invariant in
    let fill = rw (inv.device) at c.in_err-fill_group.ensures.fills in
    rw (fails_with _ c.from_residual.ensures.1) (record {
      lines = record { found = record { image = fill.read; text = reads_after inv.printed.printed }; any = tt };
      reads = omega (arith, inv.reads, fill.counted, c.loop-group-test.true);
      failed = record {
        group = c.loop-group.group;
        below = c.loop-group-test.true;
        failed = fill.sector;
        printed = inv.printed.printed;
        reads = omega (arith, inv.reads, fill.counted);
      };
    })

pub returns-in_err-found-clause-prints : goal.returns-in_err-found-clause-prints
returns-in_err-found-clause-prints g c =
    let v = c.args.geometry.now.layout in
    let free = free_in (bits_of c.args.used.now) v.size in
    let inv = c.loop-group.invariant in
    let n = c.loop-group.group in
    let fill = rw (inv.device) at c.in_ok-fill_group.ensures.fills in
    rw (fails_with _ c.from_residual-in_err-found.ensures.1) (record {
      lines = record {
        found = record {
          image = fill.read;
          text = stops _ _ (from_group c.args.how v free (n + 1)) _ _ _ _ _ inv.printed.printed
              (λ b k. groups_next c.args.how v free b _ n c.loop-group-test.true (c.bytes.ensures ∙ fill.bytes b k))
              c.in_err-found.ensures.text;
        };
        any = tt;
      };
      reads = omega (arith, inv.reads, fill.counted, c.loop-group-test.true);
      failed = tt;
    })

pub loop-group-preserved : goal.loop-group-preserved
loop-group-preserved g c =
    let v = c.args.geometry.now.layout in
    let free = free_in (bits_of c.args.used.now) v.size in
    let inv = c.loop-group.invariant in
    let n = c.loop-group.group in
    let fill = rw (inv.device) at c.in_ok-fill_group.ensures.fills in
    record {
      device = fill.read;
      window = record { room = fill.room ∙ inv.window.room; holds = rw (fill.read) at fill.holds };
      reads = omega (arith, inv.reads, fill.counted);
      printed = prints_whether _ _ (from_group c.args.how v free (n + 1)) _ _ _ _ _ _ _ inv.printed
          (λ b k. groups_next c.args.how v free b _ n c.loop-group-test.true (c.bytes.ensures ∙ fill.bytes b k))
          c.in_ok-found.ensures.text c.in_ok-found.ensures.any;
    }

pub returns-clause-prints : goal.returns-clause-prints
returns-clause-prints g c =
    let v = c.args.geometry.now.layout in
    let free = free_in (bits_of c.args.used.now) v.size in
    let inv = c.loop-group.invariant in
    let n = c.loop-group.group in
    record {
      lines = record {
        found = record {
          image = inv.device;
          text = record {
            lines = inv.printed.printed.lines;
            right = λ b k. sym (ap (λ (ls : List (List ℕ)). inv.printed.printed.lines ++ ls)
                (groups_end c.args.how v free b n c.loop-group-test.false)) ∙ inv.printed.printed.right b k;
            took = inv.printed.printed.took;
          };
        };
        any = inv.printed.any_is;
      };
      reads = omega (arith, inv.reads, c.loop-group.auto.group-end);
      failed = tt;
    }

pub returns-clause-window : goal.returns-clause-window
returns-clause-window g c = let inv = c.loop-group.invariant in rw (inv.device) (inv.window)
