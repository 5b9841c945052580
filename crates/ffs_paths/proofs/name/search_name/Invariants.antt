use Rattle.std.proofs.Common.{◌≡◌, ◌≤◌, ◌+◌, [], Ok}
use Rattle.ffs_image.specs.{Device.ForContents, Known.ForBytes}
use Rattle.ffs_names.specs.{Costs.{HoldsEntries, reads_for_entries}, Entering.{to_come, most_to_come}}
use Rattle.ffs_volume.specs.Costs.DirectoryReads.{directory_runs}
use Rattle.ffs_workspace.specs.Found.{WithBlockCheck}
use Rattle.ffs_paths.specs.{Climbing.name_in, NameTexts.name_bytes, Reads.OnlyReads}
use Rattle.ffs_paths.proofs.name.search_name.Given as goal

abbrev pub invariant-entries : goal.invariant-entries
invariant-entries g l = let device = g.I.Image.device in record {
  name : ForContents (device l.fn.image).contents
      (λ b. name_in l.dir (to_come b l.initial.entries) ≡ name_in l.dir (to_come b l.entries));
  none : name_bytes l.name ≡ [];
  geometry : l.entries.chunks.walk.geometry ≡ l.geometry;
  reads : OnlyReads {T = Unit {0}} l.geometry.layout (device l.fn.image) (device l.image) l.fn.workspace l.workspace
      (Ok tt);
  counted : ForBytes (WithBlockCheck l.geometry.layout (device l.fn.image) l.fn.workspace) (λ b.
      (g.I.Image.reads l.image + reads_for_entries b l.entries
      ≤ g.I.Image.reads l.fn.image + (1 + directory_runs l.geometry.layout b l.parent))
      × HoldsEntries l.workspace.windows.blocks l.workspace.windows.other l.entries);
}

abbrev pub decreases-entries : goal.decreases-entries
decreases-entries g l = most_to_come l.entries
