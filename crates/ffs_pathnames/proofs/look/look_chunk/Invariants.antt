use Rattle.std.proofs.Common.{◌≡◌, ◌-◌, ◌&&◌}
use Rattle.ffs_volume.specs.Directories.{Entries.is_sound, Roles.Volume}
use Rattle.ffs_names.{proofs.Shaped.fills_from, specs.EntriesToCome.roled_to_come}
use Rattle.ffs_pathnames.specs.{Looks.roled_in, PassedNames.are_quiet, PassedNames.after_looks, Sees.Sees, Sees.stamps_in}
use Rattle.ffs_pathnames.specs.Stamps.{KeepsWords}
use Rattle.ffs_pathnames.proofs.look.look_chunk.Given as goal

abbrev pub invariant-entries : goal.invariant-entries
invariant-entries l =
    let dir = l.chunk.dir in
    let all = roled_in l.fn.order l.chunk in
    let left = roled_to_come l.chunk.at_start l.entries in
    record {
      words : KeepsWords l.fn.words l.words;
      quiet : (vol : Volume) → Sees vol l.inodes → are_quiet vol dir l.flags.items (stamps_in l.inodes l.initial.words.items) all
          ≡ (l.quiet && are_quiet vol dir l.flags.items (stamps_in l.inodes l.words.items) left);
      stamps : (vol : Volume) → Sees vol l.inodes → after_looks vol dir (stamps_in l.inodes l.initial.words.items) all
          ≡ after_looks vol dir (stamps_in l.inodes l.words.items) left;
      sound : fills_from l.entries.order l.entries.chunk.now l.entries.place ≡ is_sound l.fn.order l.chunk.bytes.now;
    }

abbrev pub decreases-entries : goal.decreases-entries
decreases-entries l = 512 - l.entries.place
