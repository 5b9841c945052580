use Rattle.std.proofs.Common.{refl, rules}
use Rattle.ffs_volume.specs.declared.Inode.{Inode}
use Rattle.ffs_walk.specs.Windows.{held_bytes}
use Rattle.ffs_workspace.{proofs.TablePlaces.inode_there, specs.Tables.{FailsInPiece, TakesPiece}}
use Rattle.ffs_workspace.proofs.table.Table.inode.Goals as goal

pub returns-clause-inode : goal.returns-clause-inode
unfolding TakesPiece FailsInPiece
returns-clause-inode g c = record {
  reads = record {
    inode = λ bytes t.
        inode_there (λ (i : Inode). i) c.args.geometry.now.layout c.args.number c.in_ok-at.at bytes
        (held_bytes c.load.new.self.window) c.bytes-bytes.result.now c.decode_inode.result
        c.bytes-bytes.ensures (c.in_ok-at.ensures.loads.there.bytes bytes t) c.decode_inode.ensures;
    kept = search rules;
    read = search rules;
  };
  counted = c.load.ensures.loads.counted;
  again = c.load.ensures.loads.again;
  piece = c.in_ok-at.ensures.loads.block;
  fault = (λ held. refl, tt);
  begins = tt;
}
