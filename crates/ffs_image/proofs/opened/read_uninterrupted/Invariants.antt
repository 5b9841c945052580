use Rattle.std.proofs.Common.{◌≡◌, length}
use Rattle.ffs_image.specs.Interrupted.{Interruptions}
use Rattle.ffs_image.proofs.opened.read_uninterrupted.Given as goal

abbrev pub invariant-loop : goal.invariant-loop
invariant-loop g l = record {
  kept : g.F.RawFile.contents l.file ≡ g.F.RawFile.contents l.fn.file;
  long : length l.buf ≡ length l.fn.buf;
  tried : Interruptions (λ old. g.F.RawFile.was_read old l.at (length l.fn.buf)) l.counter l.fn.file l.file;
}
