use Rattle.std.proofs.Common.{◌≡◌, ◌∷◌, ◌∙◌, ℕ, List, Some, ap, arith, flat_map, sym}
use Rattle.ffs_volume.specs.{Directories.{Entries.chunk_of, Roles.roled_chunk}, Disk.Numbers.piece}
use Rattle.ffs_workspace.specs.declared.workspace.Windows.{Windows}
use Rattle.ffs_names.{specs.Readings.rest, proofs.PlacesNoted.{NotesNext, all_noted, children_more, coming_after}}
use Rattle.ffs_names.proofs.PlacesNoted.{noted_chunk, unnamed_after, waiting_after}
use Rattle.ffs_names.proofs.places.note_chunks.Goals as goal

pub chunks-preserved : goal.chunks-preserved
chunks-preserved g c =
    let inv = c.chunks.invariant in
    let v = c.args.chunks.now.walk.geometry.layout in
    let words = c.args.words.now.items in
    let all = λ (b : List ℕ). flat_map roled_chunk (rest b c.args.chunks.now) in
    let went = c.in_ok-_offset.ensures in
    let now = λ (b : List ℕ) (t : (g.I.Image.device c.args.image.now).contents ≡ Some b). ap (λ d. d.contents) inv.same
    ∙ t in
    let noted : (b : List ℕ) → (g.I.Image.device c.args.image.now).contents ≡ Some b → NotesNext v b
    c.args.parents.now.items c.chunks.words.items c.note_chunk.new.words.items c.args.dir c.word_of_part-word.result
    c.last_place.result c.in-Some._offset c.next.new.chunk (rest b c.chunks.chunks) (rest b c.next.new.self)
    c.chunks.chunks.run_cursor c.next.new.self.run_cursor = λ b t.
    record {
      sound = c.args.chunks.now.walk.geometry.sound;
      last = c.last_place.ensures;
      fits = rw (went.leaves.geometry ∙ inv.geometry) at c.next.new.self.cursor_fits;
      steps = rw c.in-Some.is at went.leaves.steps;
      unnamed = inv.unnamed b t;
      number = rw (went.leaves.geometry ∙ inv.geometry) at c.word_of_part-word.ensures.value;
      inside = rw (sym c.last_place.ensures, inv.geometry) at (rw c.in-Some.is at went.leaves.place).inside;
      held = (rw c.in-Some.is at went.leaves.place).bytes b (now b t)
          ∙ ap (λ (n : ℕ). piece n 512 b) (sym c.last_place.ensures);
      next = ((rw c.in-Some.is at went.chunk) b (now b t)).chunks
          ∙ ap (λ q. chunk_of q.layout.order c.in-Some._offset c.next.new.chunk ∷ rest b c.next.new.self) inv.geometry;
      noted = c.note_chunk.ensures.noted;
    } in
    record {
      same = went.leaves.read ∙ inv.same;
      geometry = went.leaves.geometry ∙ inv.geometry;
      ready = rw inv.geometry at went.leaves.ready;
      long = c.note_chunk.ensures.long ∙ inv.long;
      others = ap (λ (w : Windows). record w { blocks = c.next.new.blocks; current = c.next.new.window }) inv.others;
      children = children_more c.note_chunk.ensures.noted inv.children;
      reads = λ held b t.
          let old = inv.reads held b t in
          let took = went.reads old.1 b (now b t) in
          (omega (arith, took.paid, old.0), took.held);
      right = λ b t. noted_chunk (noted b t) words (all b) (inv.to_come b t) (inv.right b t);
      unnamed = λ b t. unnamed_after (noted b t);
      to_come = λ b t. coming_after (noted b t) (all b) (inv.to_come b t);
      waiting = λ b t. waiting_after (noted b t) words (all b) (inv.waiting b t);
    }

pub returns-clause-each : goal.returns-clause-each
returns-clause-each g c = λ b t.
    let inv = c.chunks.invariant in
    let v = c.args.chunks.now.walk.geometry.layout in
    let now : (g.I.Image.device c.chunks.image).contents ≡ Some b = ap (λ d. d.contents) inv.same ∙ t in
    let none = (rw c.in_default.is at (c.in_ok-_offset.ensures.chunk b now)).chunks.0 in
    all_noted v b c.args.parents.now.items c.args.words.now.items c.chunks.words.items c.args.dir
    (flat_map roled_chunk (rest b c.args.chunks.now)) (rest b c.chunks.chunks) none (inv.waiting b t)

pub returns-clause-leaves : goal.returns-clause-leaves
returns-clause-leaves g c = grind arith
