use Rattle.std.proofs.Common.{length, ◌-◌, ◌≡◌, ◌≤◌, take}
use Rattle.ffs_image.specs.Source.{AreAt, IsReadTo}
use Rattle.ffs_image.proofs.source.fill.Given as goal

abbrev pub invariant-loop-filled : goal.invariant-loop-filled
invariant-loop-filled g l = record {
  within : l.filled ≤ length l.buf;
  left : g.S.Source.state l.source ≡ g.S.Source.state l.initial.source;
  bytes : AreAt (g.S.Source.state l.initial.source).contents l.at (take l.filled l.buf);
  read : IsReadTo g.S.Source.was_read l.at (length l.initial.buf) l.filled l.initial.source l.source;
}

abbrev pub decreases-loop-filled : goal.decreases-loop-filled
decreases-loop-filled g l = length l.initial.buf - l.filled
