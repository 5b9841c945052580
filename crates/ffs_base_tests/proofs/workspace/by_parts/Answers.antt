use Rattle.std.{proofs.Common.{◌∙◌, arith, sym, subst}, specs.Prelude.{◌*◌, ◌≤◌}}
use Rattle.ffs_image.specs.Device.{Device}
use Rattle.ffs_base_tests.proofs.workspace.by_parts.Goals as goal

pub inode_by_piece-requires-2 : goal.inode_by_piece-requires-2
inode_by_piece-requires-2 g c =
    let v = c.args.geometry.now.layout in
    let read = sym c.in_ok-far.ensures.inode.reads.read in
    record {
      number = omega (arith, c.requires.inodes);
      ready = record {
        volume = subst (λ (d : Device). v.size * v.fsize ≤ d.size) read c.requires.ready.volume;
        made = c.inode_by_piece.ensures.inode.reads.kept.made;
        holds = c.inode_by_piece.ensures.inode.reads.kept.holds;
      };
    }

pub inode_by_piece-requires-3 : goal.inode_by_piece-requires-3
inode_by_piece-requires-3 g c =
    let v = c.args.geometry.now.layout in
    let read = sym (c.in_ok-next.ensures.inode.reads.read ∙ c.in_ok-far.ensures.inode.reads.read) in
    record {
      number = omega (arith, c.requires.inodes);
      ready = record {
        volume = subst (λ (d : Device). v.size * v.fsize ≤ d.size) read c.requires.ready.volume;
        made = c.inode_by_piece-2.ensures.inode.reads.kept.made;
        holds = c.inode_by_piece-2.ensures.inode.reads.kept.holds;
      };
    }
