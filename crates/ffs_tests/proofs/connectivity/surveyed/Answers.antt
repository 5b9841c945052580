use Rattle.std.proofs.Common.{◌∙◌}
use Rattle.ffs_tests.proofs.connectivity.surveyed.Goals as goal

pub returns : goal.returns
returns c =
    let h = c.in_ok-workspace.ensures.new.made in
    record {
      made = record {
        used = h.used;
        duplicates = h.duplicates;
        kinds = c.set_first.ensures ∙ h.kinds;
        marked = h.marked;
        named = h.named;
        reached = c.set_first_filled.ensures ∙ h.reached;
        flags = h.flags;
        references = h.references;
        notes = h.notes;
        parents = c.set_first_filled-2.ensures ∙ h.parents;
        words = h.words;
        table = h.table;
        blocks = h.blocks;
        current = h.current;
        other = h.other;
      };
    }
