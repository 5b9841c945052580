use Rattle.std.{proofs.Common.{arith, sym, subst}, specs.Prelude.{◌*◌, ◌≤◌}}
use Rattle.ffs_image.specs.Device.{Device}
use Rattle.ffs_base_tests.proofs.workspace.by_blocks.Goals as goal

pub inode-requires-2 : goal.inode-requires-2
inode-requires-2 g c =
    let v = c.args.geometry.now.layout in
    let read = sym c.in_ok-root.ensures.inode.reads.read in
    record {
      number = omega (arith, c.requires.inodes);
      ready = record {
        volume = subst (λ (d : Device). v.size * v.fsize ≤ d.size) read c.requires.ready.volume;
        made = c.inode.ensures.inode.reads.kept.made;
        holds = c.inode.ensures.inode.reads.kept.holds;
      };
    }
