use Rattle.std.proofs.Common.{◌≡◌, ◌==◌, ◌∙◌, ◌*◌, false, true, length, refl, sym, ap, arith}
use Rattle.std.proofs.lemmas.{Bool.{Decides.nat_tests}}
use Rattle.ffs_names.proofs.{OneChunks.{ended_held, ended_reads, gives_only_chunk, one_chunk_class, runs_of_one}}
use Rattle.ffs_names.proofs.{Entered.end_seen, RunChunks.run_in_volume}
use Rattle.ffs_names.proofs.entries.Entries.restart_at.Goals.{After-end_chunks, then-address-eq0-via-then-address-eq0}
use Rattle.ffs_names.proofs.entries.Entries.restart_at.Goals.{then-address-eq0-via-else-address-eq0+then-not-in_range}
use Rattle.ffs_names.proofs.entries.Entries.restart_at.Given as given
use Rattle.ffs_names.proofs.entries.Entries.restart_at.Goals as goal

-- a hole, or an address out of range
pub returns-then-address-eq0-clause-gives : goal.returns-then-address-eq0-clause-gives
returns-then-address-eq0-clause-gives g c = λ b t.
    let begins = (rw c.one_chunk_at.ensures at c.restart.ensures.begins)
    (sym (one_chunk_class _ c.args.address c.args.self.now.chunks.walk.geometry.sound)) in
    begins.gives b (omega arith)

pub returns-then-address-eq0-clause-reads : goal.returns-then-address-eq0-clause-reads
returns-then-address-eq0-clause-reads g c = λ b t.
    let begins = (rw c.one_chunk_at.ensures at c.restart.ensures.begins)
    (sym (one_chunk_class _ c.args.address c.args.self.now.chunks.walk.geometry.sound)) in
    record { most = omega arith; paid = omega (arith, begins.to_read b); held = begins.held }

pub returns-then-address-eq0-clause-chunks : goal.returns-then-address-eq0-clause-chunks
returns-then-address-eq0-clause-chunks g c = grind (arith, one_chunk_class)

-- the chunk lies in the volume
place_is : (g : given.Over) (c : After-end_chunks g) →
    c.from.result * c.from-2.result ≡ c.args.address * c.args.self.now.chunks.walk.geometry.layout.fsize
place_is g c = grind arith

pub read_at-requires : goal.read_at-requires
read_at-requires g c = grind (arith, run_in_volume)

pub invariant_of-self : goal.invariant_of-self
invariant_of-self g c = grind arith

pub invariant_of-self-2 : goal.invariant_of-self-2
invariant_of-self-2 g c = grind arith

pub returns-in_err-read_at-clause-reads : goal.returns-in_err-read_at-clause-reads
returns-in_err-read_at-clause-reads g c = grind (arith, nat_tests, runs_of_one)

pub returns-in_err-read_at-clause-stopped : goal.returns-in_err-read_at-clause-stopped
returns-in_err-read_at-clause-stopped g c = grind (arith, end_seen)

-- its entries are to come
pub returns-clause-gives : goal.returns-clause-gives
returns-clause-gives g c = λ b t.
    let q = c.args.self.now.chunks.walk.geometry in
    let s = c.end_chunks.new.self in
    let some : (c.args.address == 0) ≡ false = grind (arith, nat_tests) in
    let long : length c.read_at.new.buf ≡ 512 = omega arith in
    gives_only_chunk q.sound some (sym c.in_range.ensures ∙ c.if-not-in_range.false) c.end_chunks.ensures.ended
    (s.same_order ∙ ap (λ x. x.layout.order) c.end_chunks.ensures.geometry)
    ((rw (long, place_is g (goal.at.returns-clause-gives g c).After-end_chunks) at c.in_ok-read_at.ensures.bytes.bytes) b t)
    refl refl refl refl

pub returns-clause-reads : goal.returns-clause-reads
returns-clause-reads g c = λ b t.
    let q = c.args.self.now.chunks.walk.geometry in
    let ended = c.end_chunks.ensures.ended in
    let some : (c.args.address == 0) ≡ false = grind (arith, nat_tests) in
    let one = runs_of_one q.layout c.args.address b q.sound some in
    record {
      most = omega (arith, c.read_at.ensures.counted, one);
      paid = omega (arith, c.read_at.ensures.counted, one, ended_reads b true c.end_chunks.new.self.chunks ended);
      held = ended_held true c.end_chunks.new.self.chunks ended;
    }

pub returns-clause-geometry : goal.returns-clause-geometry
returns-clause-geometry g c = c.end_chunks.ensures.geometry
