use Rattle.std.proofs.Common.{◌∙◌, ◌≡◌, ℕ, Bool, List, Result, OnOk, true, ◌&&◌, ap, arith, if◌then◌else◌, slice_index, sym, []}
use Rattle.std.proofs.lemmas.{Grind.{common_steps, get_or_default_zero}, Result.err_from_is_err_and}
use Rattle.ffs_volume.specs.{Directories.{Roles.{is_dir, roled_entries}, Volumes.volume_of}, Encodings.Kinds.kind_at}
use Rattle.ffs_volume.{proofs.Results.on_ok, specs.{Encodings.Notes.note_at, Costs.Calm.is_right_shape}}
use Rattle.ffs_names.proofs.{DirCosts.{inode_read, noted_is}, DirLaws.kind_dirs, NotedDirs.{read_by_chunk, read_by_cut}}
use Rattle.ffs_names.proofs.{NotedDirs.ready_read, reader.DirectoryReaderDirectories.start.Goals.After-address_in}
use Rattle.ffs_names.proofs.reader.DirectoryReaderDirectories.start.Given as given
use Rattle.ffs_names.proofs.reader.DirectoryReaderDirectories.start.Goals as goal

-- what follows of an Ok answer
ok_then : {T E P Q : Type 0} (r : Result T E) → OnOk r P → (P → Q) → OnOk r Q
ok_then {P = P} {Q = Q} r h f = on_ok r P Q f h

-- the number is that of a directory, and the note is that of the directory
is_dir_here : (g : given.Over) (c : After-address_in g) (b : List ℕ) →
    ((x : ℕ) → slice_index c.args.self.now.kinds.now x ≡ kind_at c.args.self.now.geometry.layout b x) →
    is_dir (volume_of c.args.self.now.geometry.layout b) c.args.dir ≡ true
is_dir_here g c b kinds = grind (arith, kind_dirs)

note_here : (g : given.Over) (c : After-address_in g) (b : List ℕ) →
    ((x : ℕ) → slice_index c.args.self.now.notes.now.items x ≡ note_at c.args.self.now.geometry.layout b x) →
    c.index-note.result.now ≡ note_at c.args.self.now.geometry.layout b c.args.dir
note_here g c b notes = grind (arith, common_steps, get_or_default_zero)

pub returns-then-not-is_dir-clause-rest : goal.returns-then-not-is_dir-clause-rest
returns-then-not-is_dir-clause-rest g c = grind (arith, kind_dirs)

pub returns-then-not-is_dir-clause-shape : goal.returns-then-not-is_dir-clause-shape
returns-then-not-is_dir-clause-shape g c = grind (arith, kind_dirs)

-- its inode is read
pub returns-clause-reader : goal.returns-clause-reader
returns-clause-reader g c = grind (arith, ready_read)

pub returns-clause-rest : goal.returns-clause-rest
returns-clause-rest g c = λ b k.
    let at = (goal.at.returns-clause-rest g c).After-address_in in
    let t = c.args.self.now in
    let v = t.geometry.layout in
    let dir = is_dir_here g at b k.kinds in
    let read = read_by_cut v b c.args.dir t.geometry.sound dir (c.in_ok-inode.ensures.inode.reads.inode b k.bytes)
    (note_here g at b k.notes) c.cut_in.ensures in
    (((rw c.requires.ready.1 at c.restart.ensures.begins) (sym read.is_dir)).gives b read.small).entries
    ∙ (read.entries ∙ sym (ap (λ x. if x then roled_entries (volume_of v b) c.args.dir else []) dir))

pub returns-clause-shape : goal.returns-clause-shape
returns-clause-shape g c = λ b k.
    let at = (goal.at.returns-clause-shape g c).After-address_in in
    let t = c.args.self.now in
    let v = t.geometry.layout in
    let dir = is_dir_here g at b k.kinds in
    let read = read_by_cut v b c.args.dir t.geometry.sound dir (c.in_ok-inode.ensures.inode.reads.inode b k.bytes)
    (note_here g at b k.notes) c.cut_in.ensures in
    (((rw c.requires.ready.1 at c.restart.ensures.begins) (sym read.is_dir)).gives b read.small).shape
    ∙ (read.shape ∙ sym (ap (λ x. x && is_right_shape (volume_of v b) c.args.dir) dir))

-- the only chunk of a directory is noted
pub returns-in-Some-clause-rest : goal.returns-in-Some-clause-rest
returns-in-Some-clause-rest g c = ok_then c.restart_at.result (rw c.requires.ready.1 at c.restart_at.ensures.gives) (λ gives b k.
    let at = (goal.at.returns-in-Some-clause-rest g c).After-address_in in
    let t = c.args.self.now in
    let v = t.geometry.layout in
    let dir = is_dir_here g at b k.kinds in
    let read = read_by_chunk v b c.args.dir c.in-Some.address t.geometry.sound dir
    (sym (note_here g at b k.notes) ∙ c.in-Some.ensures) in
    (gives b k.bytes).entries
    ∙ (read.entries ∙ sym (ap (λ (x : Bool). if x then roled_entries (volume_of v b) c.args.dir else []) dir)))

pub returns-in-Some-clause-shape : goal.returns-in-Some-clause-shape
returns-in-Some-clause-shape g c = ok_then c.restart_at.result (rw c.requires.ready.1 at c.restart_at.ensures.gives) (λ gives b k.
    let at = (goal.at.returns-in-Some-clause-shape g c).After-address_in in
    let t = c.args.self.now in
    let v = t.geometry.layout in
    let dir = is_dir_here g at b k.kinds in
    let read = read_by_chunk v b c.args.dir c.in-Some.address t.geometry.sound dir
    (sym (note_here g at b k.notes) ∙ c.in-Some.ensures) in
    (gives b k.bytes).shape
    ∙ (read.shape ∙ sym (ap (λ (x : Bool). x && is_right_shape (volume_of v b) c.args.dir) dir)))

-- the reads that were made, and those that are still to come
pub returns-then-not-is_dir-clause-counted : goal.returns-then-not-is_dir-clause-counted
returns-then-not-is_dir-clause-counted g c = λ b k.
    let none = c.stop.ensures.stopped.reads b in
    record { most = omega arith; paid = omega (arith, none); held = c.stop.ensures.stopped.held _ _ }

pub returns-clause-counted : goal.returns-clause-counted
returns-clause-counted g c = λ b k.
    let at = (goal.at.returns-clause-counted g c).After-address_in in
    let t = c.args.self.now in
    let v = t.geometry.layout in
    let dir = is_dir_here g at b k.kinds in
    let read = read_by_cut v b c.args.dir t.geometry.sound dir (c.in_ok-inode.ensures.inode.reads.inode b k.bytes)
    (note_here g at b k.notes) c.cut_in.ensures in
    let begins = (rw c.requires.ready.1 at c.restart.ensures.begins) (sym read.is_dir) in
    let cost = noted_is v b c.args.dir dir in
    let read_one = inode_read v b c.args.dir c.index-note.result.now (note_here g at b k.notes)
    (rw c.in_default.is at c.address_in.ensures) in
    let one = c.in_ok-inode.ensures.inode.counted in
    record {
      most = omega (arith, one, cost, read_one);
      paid = omega (arith, one, cost, read_one, read.runs, begins.to_read b);
      held = begins.held _ _;
    }

pub returns-in-Some-clause-counted : goal.returns-in-Some-clause-counted
returns-in-Some-clause-counted g c = λ b k.
    let at = (goal.at.returns-in-Some-clause-counted g c).After-address_in in
    let t = c.args.self.now in
    let v = t.geometry.layout in
    let dir = is_dir_here g at b k.kinds in
    let read = read_by_chunk v b c.args.dir c.in-Some.address t.geometry.sound dir
    (sym (note_here g at b k.notes) ∙ c.in-Some.ensures) in
    let cost = noted_is v b c.args.dir dir in
    let took = (rw c.requires.ready.1 at c.restart_at.ensures.reads) b k.bytes in
    record {
      most = omega (arith, took.most, cost, read.runs);
      paid = ok_then c.restart_at.result took.paid (λ paid. omega (arith, paid, cost, read.runs));
      held = ok_then c.restart_at.result took.held (λ held. held _ _);
    }

pub returns-in_err-inode-clause-counted : goal.returns-in_err-inode-clause-counted
returns-in_err-inode-clause-counted g c =
    rw (err_from_is_err_and c.from_residual.result c.from_residual.ensures.1).1 (λ b k.
    let at = (goal.at.returns-in_err-inode-clause-counted g c).After-address_in in
    let v = c.args.self.now.geometry.layout in
    let cost = noted_is v b c.args.dir (is_dir_here g at b k.kinds) in
    let read_one = inode_read v b c.args.dir c.index-note.result.now (note_here g at b k.notes)
    (rw c.in_default.is at c.address_in.ensures) in
    record { most = omega (arith, c.in_err-inode.ensures.inode.counted, cost, read_one); paid = tt; held = tt })
