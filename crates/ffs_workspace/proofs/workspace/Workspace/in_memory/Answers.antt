-- What the requests result in, where each is granted.
use Rattle.std.proofs.Common.{arith, refl, rules}
use Rattle.ffs_memory.proofs.Asking.{granted_both}
use Rattle.ffs_workspace.proofs.Requests.{both}
use Rattle.ffs_workspace.proofs.workspace.Workspace.in_memory.Goals as goal

pub returns-clause-made : goal.returns-clause-made
returns-clause-made g c =
    record {
      new = record {
        made = grind arith;
        fresh = search rules;
        has_dups = refl;
        unsurveyed = search rules;
        uncounted = search rules;
        windows = λ contents. record {
          table = c.in_ok-windows.ensures.made.new.table_holds contents;
          blocks = c.in_ok-windows.ensures.made.new.blocks_hold contents;
          current = c.in_ok-windows.ensures.made.new.current_holds contents;
          other = c.in_ok-windows.ensures.made.new.other_holds contents;
        };
      };
      asks = grind (arith, granted_both, both);
    }
