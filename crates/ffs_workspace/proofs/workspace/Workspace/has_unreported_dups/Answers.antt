use Rattle.std.proofs.Common.{ℕ, ◌==◌, not, ap, sym, ◌∙◌}
use Rattle.ffs_maps.{specs.{Bits.bits_of, WordBits.set_among}, proofs.Bits.bits_long}
use Rattle.ffs_workspace.proofs.DupCounts.{count_all}
use Rattle.ffs_workspace.proofs.workspace.Workspace.has_unreported_dups.Goals as goal

pub returns : goal.returns
returns c =
    let map = c.args.self.now.duplicates in
    ap (λ (n : ℕ). not (n == 0))
    (c.count_ones.ensures ∙ ap (set_among (bits_of map) 0) (sym (bits_long map)) ∙ count_all (bits_of map))
