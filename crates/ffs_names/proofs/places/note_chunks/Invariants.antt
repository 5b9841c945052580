use Rattle.std.proofs.Common.{◌≡◌, ◌≤◌, ◌+◌, flat_map, vec_len}
use Rattle.ffs_image.specs.Device.{ForContents}
use Rattle.ffs_volume.specs.Directories.Roles.{roled_chunk}
use Rattle.ffs_names.specs.{Costs.{HoldsReading, to_read}, Noting.{NotesChildren, NotesRight}, Readings.rest}
use Rattle.ffs_names.{specs.Windows.CanReadChunks, proofs.PlacesNoted.{AreToCome, AreUnnamed, AreWaiting}}
use Rattle.ffs_names.proofs.places.note_chunks.Given as goal

abbrev pub invariant-chunks : goal.invariant-chunks
invariant-chunks g l = let device = g.I.Image.device in record {
  same : device l.image ≡ device l.fn.image;
  geometry : l.chunks.walk.geometry ≡ l.fn.chunks.walk.geometry;
  ready : CanReadChunks l.fn.chunks.walk.geometry.layout (device l.image) l.windows.blocks l.windows.current;
  long : vec_len l.words ≡ vec_len l.fn.words;
  children : NotesChildren l.parents.items l.fn.words.items l.words.items l.dir;
  others : l.windows ≡ record l.fn.windows { blocks = l.windows.blocks; current = l.windows.current };
  reads : HoldsReading l.fn.windows.blocks l.fn.windows.current l.fn.chunks → ForContents (device l.fn.image).contents
      (λ b. (g.I.Image.reads l.image + to_read b l.chunks ≤ g.I.Image.reads l.fn.image + to_read b l.fn.chunks)
      × HoldsReading l.windows.blocks l.windows.current l.chunks);
  right : ForContents (device l.fn.image).contents (λ b. NotesRight l.fn.chunks.walk.geometry.layout b
      (flat_map roled_chunk (rest b l.fn.chunks)) l.fn.words.items l.words.items);
  unnamed : ForContents (device l.fn.image).contents (λ b. AreUnnamed l.fn.chunks.walk.geometry.layout b
      l.parents.items l.words.items l.dir l.chunks.run_cursor);
  waiting : ForContents (device l.fn.image).contents (λ b. AreWaiting l.fn.chunks.walk.geometry.layout b
      l.parents.items l.fn.words.items l.words.items l.dir (flat_map roled_chunk (rest b l.fn.chunks))
      (flat_map roled_chunk (rest b l.chunks)));
  to_come : ForContents (device l.fn.image).contents (λ b. AreToCome l.parents.items l.words.items l.dir
      (flat_map roled_chunk (rest b l.fn.chunks)) (flat_map roled_chunk (rest b l.chunks)));
}

abbrev pub decreases-chunks : goal.decreases-chunks
decreases-chunks g l = l.chunks.chunks_left
