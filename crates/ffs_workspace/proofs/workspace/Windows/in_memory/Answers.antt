use Rattle.std.proofs.Common.{◌≡◌, arith, vec_len}
use Rattle.ffs_memory.proofs.Asking.{granted_both}
use Rattle.ffs_workspace.proofs.Requests.{both}
use Rattle.ffs_workspace.proofs.workspace.Windows.in_memory.Goals as goal

pub returns-clause-made : goal.returns-clause-made
returns-clause-made g c =
    let empty = c.over-table.ensures.empty in
    let room : vec_len c.over-table.result.window.buffer ≡ c.args.geometry.now.layout.bsize = grind arith in
    record {
      new = record {
        table = room;
        blocks = grind arith;
        current = grind arith;
        other = grind arith;
        table_holds = λ contents. record {
          made = record { room = room; inodes = λ x held. absurd (omega (arith, held.0, held.1, empty)) };
          holds = c.over-table.ensures.holds contents;
        };
        blocks_hold = c.over-blocks.ensures.holds c.args.geometry.now.layout;
        current_holds = c.over-current.ensures.holds;
        other_holds = c.over-other.ensures.holds;
      };
      asks = grind (arith, granted_both, both);
    }
