use Rattle.std.proofs.Common.{◌≡◌, ◌<◌, ◌≤◌, ◌+◌, ℕ, false, slice_index}
use Rattle.ffs_image.specs.Known.{ForBytes}
use Rattle.ffs_workspace.specs.{Found.WithSurvey, Ready.CanRead}
use Rattle.ffs_volume.specs.{Encodings.Places.{is_due as is_to_be_read, AreParts}, Costs.DirectoryReads.costs_below}
use Rattle.ffs_volume.specs.Costs.DirectoryReads.{noted_directory_cost}
use Rattle.ffs_names.{specs.Noting.has_child, proofs.PlacesNoted.{AreComing, OnlyParents}}
use Rattle.ffs_names.proofs.places.note_places_unlimited.Given as goal

abbrev pub invariant-loop-dir : goal.invariant-loop-dir
invariant-loop-dir g l = let device = g.I.Image.device in
    let known = WithSurvey l.geometry.layout (device l.fn.image) l.fn.workspace in record {
      same : device l.image ≡ device l.fn.image;
      lists : l.workspace ≡ record l.fn.workspace { windows = l.workspace.windows; words = l.workspace.words };
      ready : CanRead l.geometry.layout (device l.image) l.workspace;
      low : 2 ≤ l.dir;
      were_read : (x : ℕ) → x < l.dir → is_to_be_read (slice_index l.workspace.words.items x) ≡ false;
      only : OnlyParents l.fn.workspace.reached.items l.fn.workspace.parents.items l.workspace.words.items;
      reads : ForBytes known (λ b.
          g.I.Image.reads l.image ≤ g.I.Image.reads l.fn.image
          + costs_below (has_child l.fn.workspace.reached.items l.fn.workspace.parents.items)
          (noted_directory_cost l.geometry.layout b) l.dir);
      places : ForBytes known (λ b. AreParts l.geometry.layout b l.workspace.words.items);
      noted : ForBytes known (λ b. AreComing l.geometry.layout b l.workspace.words.items);
    }
