use Rattle.std.proofs.Common.{◌≡◌, ◌+◌, ◌-◌, ◌*◌, ◌/◌, ◌<◌, ◌≤◌, vec_len}
use Rattle.ffs_image.specs.{Device.ForContents, Known.IsContents}
use Rattle.ffs_walk.specs.Windows.{WindowHolds}
use Rattle.ffs_volume.specs.Find.Copies.{copies_lines}
use Rattle.ffs_finding.specs.{Outcome.PrintedOf, Copies.{IsWindowOf, copies_from, window_bytes}}
use Rattle.ffs_finding.proofs.CopyLaws.{magics}
use Rattle.ffs_finding.proofs.copies.find_copies.Given as goal

abbrev pub invariant-loop-sector : goal.invariant-loop-sector
invariant-loop-sector g l =
    let d = g.I.Image.device l.fn.image in
    let reads = g.I.Image.reads l.fn.image in
    record {
      device : g.I.Image.device l.image ≡ d;
      room : vec_len l.window.buffer ≡ window_bytes;
      holds : WindowHolds d.contents l.window;
      at : 1 < l.sector → IsWindowOf d (l.sector - 1) l.window;
      first : l.sector ≡ 1 → g.I.Image.reads l.image ≤ reads;
      known : ForContents d.contents (λ b. g.I.Image.reads l.image
          ≤ reads + (l.sector + 129) / 128 + magics b (l.sector - 1));
      any : g.I.Image.reads l.image ≤ reads + 2 * (l.sector - 1);
      printed : PrintedOf (IsContents d.contents) (λ b. copies_from b l.sector) copies_lines
          (g.W.Output.sink l.fn.out) (g.W.Output.sink l.out);
    }
