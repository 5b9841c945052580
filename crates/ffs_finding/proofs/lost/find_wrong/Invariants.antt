use Rattle.std.proofs.Common.{◌≡◌, ◌≤◌, ◌+◌}
use Rattle.ffs_maps.specs.Bits.{bits_of}
use Rattle.ffs_groups.specs.Free.{free_in}
use Rattle.ffs_image.specs.Known.{IsContents}
use Rattle.ffs_finding.{specs.LostMaps.{IsBlockWindow, from_group, lines_of_groups}, proofs.Printing.PrintedWhether}
use Rattle.ffs_finding.proofs.lost.find_wrong.Given as goal

abbrev pub invariant-loop-group : goal.invariant-loop-group
invariant-loop-group g l =
    let d = g.I.Image.device l.fn.image in
    let v = l.geometry.layout in
    let free = free_in (bits_of l.used) v.size in
    record {
      device : g.I.Image.device l.image ≡ d;
      window : IsBlockWindow v d l.window;
      reads : g.I.Image.reads l.image ≤ g.I.Image.reads l.fn.image + l.group;
      printed : PrintedWhether (IsContents d.contents) (from_group l.how v free l.group)
          (lines_of_groups l.how v free) l.any (g.W.Output.sink l.fn.out) (g.W.Output.sink l.out);
    }
