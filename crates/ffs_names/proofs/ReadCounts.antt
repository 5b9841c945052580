-- Laws of the reads that are still to come of a reading.
use Rattle.std.proofs.Common.{◌≡◌, ◌≤◌, ◌==◌, ◌&&◌, nat_lt, if◌then◌else◌, ℕ, Option, Some, None, arith, inl, inr, refl}
use Rattle.std.proofs.lemmas.Bool.Decides.{nat_tests}
use Rattle.ffs_volume.specs.declared.Step.TheVariants.{Run}
use Rattle.ffs_layout.specs.declared.geometry.Geometry.{Geometry}
use Rattle.ffs_walk.proofs.Counted.{top_held, top_unread}
use Rattle.ffs_walk.specs.{Counts.indirect_in_step, Rests.IsAtTop, declared.window.Window.Window}
use Rattle.ffs_names.specs.{Costs.{BeginsReads, HoldsRun, unread_run}, RunCursors.IsWhole}
use Rattle.ffs_names.specs.declared.{chunks.Chunks.Chunks, run_cursor.RunCursor.RunCursor}

-- the current Run is no read where it has no chunk left
pub run_over : (cursor : RunCursor) → cursor.next ≡ cursor.count → unread_run cursor ≡ 0
run_over cursor e = grind (arith, nat_tests)

-- so where it is passed over
pub run_passed : (n : ℕ) → if◌then◌else◌ {A = ℕ} ((n == 0) && nat_lt 0 n) 1 0 ≡ 0
run_passed n = grind (arith, nat_tests)

-- and a window needs no such Run
pub over_held : (cursor : RunCursor) → cursor.next ≡ cursor.count → (w : Window) → HoldsRun w cursor
over_held cursor over w = λ some left. absurd (omega (arith, over, left))

pub whole_held : (cursor : RunCursor) → IsWhole cursor → (w : Window) → HoldsRun w cursor
whole_held cursor (inl first) = grind arith
whole_held cursor (inr over) = over_held cursor over

-- a reading that begins
pub begins_reads : {g : Geometry} {c : Chunks} → c.walk.geometry ≡ g → IsAtTop c.walk →
    c.run_cursor.next ≡ c.run_cursor.count → c.run_cursor.next ≡ 0 → BeginsReads g c
begins_reads {c = c} same top over first = grind (arith, top_unread, run_over, top_held, over_held)

-- a Run that is seen is no more than one indirect block, and none where it is one of data
pub entered_one : (start len : ℕ) (block : Option ℕ) → indirect_in_step (Run start len block) ≤ 1
entered_one start len None = omega arith
entered_one start len (Some block) = omega arith

pub entered_none : (start len : ℕ) (block : Option ℕ) (at : ℕ) → block ≡ Some at → indirect_in_step (Run start len block) ≡ 0
entered_none start len block at e = rw e refl
