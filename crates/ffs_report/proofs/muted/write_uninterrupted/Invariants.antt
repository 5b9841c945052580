use Rattle.std.specs.Io.KnownBytes.{Keeps}
use Rattle.ffs_image.specs.Interrupted.{Interruptions}
use Rattle.ffs_report.proofs.muted.write_uninterrupted.Given as goal

abbrev pub invariant-loop : goal.invariant-loop
invariant-loop g l = record {
  kept : Keeps (g.S.Outlet.contents l.initial.inner) (g.S.Outlet.contents l.inner);
  tried : Interruptions (λ writer. g.S.Outlet.was_written writer l.buf) l.counter l.initial.inner l.inner;
}
