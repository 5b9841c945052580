use Rattle.std.proofs.Common.{◌∙◌, ap, arith, rules, vec_len}
use Rattle.ffs_base_tests.proofs.workspace.root_by_parts.Goals as goal

pub by_parts-found-requires-clause-ready : goal.by_parts-found-requires-clause-ready
by_parts-found-requires-clause-ready c =
    let table = c.over-table.ensures in
    record {
      volume = search rules;
      made = record {
        room = ap vec_len (table.buffer ∙ c.new.ensures) ∙ c.in_ok-buffer.ensures.len;
        inodes = λ x has. omega (arith, has.0, has.1, table.empty);
      };
      holds = table.holds _;
    }
