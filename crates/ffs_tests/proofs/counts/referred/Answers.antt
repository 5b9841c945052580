use Rattle.std.proofs.Common.{◌∙◌}
use Rattle.ffs_tests.proofs.counts.referred.Goals as goal

pub returns : goal.returns
returns c =
    let h = c.in_ok-workspace.ensures.new.made in
    record {
      made = record {
        used = h.used;
        duplicates = h.duplicates;
        kinds = c.set_first.ensures ∙ h.kinds;
        marked = c.set_first_filled.ensures ∙ h.marked;
        named = h.named;
        reached = h.reached;
        flags = h.flags;
        references = c.set_first_filled-2.ensures ∙ h.references;
        notes = h.notes;
        parents = h.parents;
        words = h.words;
        table = h.table;
        blocks = h.blocks;
        current = h.current;
        other = h.other;
      };
    }
