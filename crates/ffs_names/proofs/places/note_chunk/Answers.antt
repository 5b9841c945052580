use Rattle.std.proofs.Common.{◌∙◌}
use Rattle.ffs_volume.proofs.Reading.{entries_end}
use Rattle.ffs_names.proofs.{PlacesNoted.{notes_end, notes_next}, Stepping.left_on}
use Rattle.ffs_names.proofs.places.note_chunk.Goals as goal

pub entries-preserved : goal.entries-preserved
entries-preserved c = record {
  long = c.note_entry.ensures.long ∙ c.entries.invariant.long;
  noted = λ new h. c.entries.invariant.noted new
      (notes_next c.requires.some (left_on c.in-Some.ensures.steps) c.note_entry.ensures.noted h);
}

pub returns : goal.returns
returns c = record {
  noted = c.entries.invariant.noted c.entries.words.items
      (notes_end (entries_end _ _ c.entries.entries.place c.in_default.ensures.steps.0));
  long = c.entries.invariant.long;
}
