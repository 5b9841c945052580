use Rattle.std.proofs.{Common.{◌∙◌, ap, arith}, lemmas.Grind.{common_steps, get_or_default_zero}}
use Rattle.ffs_volume.proofs.Results.{on_ok}
use Rattle.ffs_names.proofs.{Continuing.contents_kept, places.note_directory.Goals.After-chunks_of}
use Rattle.ffs_names.proofs.places.note_directory.Goals as goal

pub returns-clause-notes : goal.returns-clause-notes
returns-clause-notes g c = λ b k dir.
    let begun = c.in_ok-chunks.ensures in
    let now = ap (λ d. d.contents) begun.leaves.read ∙ k.0 in
    let begins = begun.chunks b k.0 (grind (arith, common_steps, get_or_default_zero)) dir in
    record {
      right = rw (begins.chunks, ap (λ x. x.layout) begun.begins.geometry) at (c.note_chunks.ensures.right b now);
      each = on_ok c.note_chunks.result _ _
          (λ s. rw (begins.chunks, ap (λ x. x.layout) begun.begins.geometry) at (s b now)) c.note_chunks.ensures.each;
      counted = omega (arith, begins.within, c.note_chunks.ensures.leaves.counted (begun.begins.held _ _) b now);
    }

pub returns-clause-leaves : goal.returns-clause-leaves
returns-clause-leaves g c = grind (arith, contents_kept)
