-- What is left of one sector, by what was found there.
use Rattle.std.proofs.Common.{◌≡◌, ℕ, List, ◌+◌, ◌*◌, ◌≤◌, ◌∙◌, true, false, [], Option, Some, Ok, Err, arith, ap, sym, inl, inr}
use Rattle.ffs_image.specs.Device.{Device, ForContents, IsSized}
use Rattle.ffs_volume.specs.{Disk.{Outcome.{outcome, outcome_in, outcome_of, super_verdict}, Superblock.Superblock}}
use Rattle.ffs_volume.specs.{Find.Copies.{copies_lines, copy_lines_of}, declared.SuperFault.{SuperFault, TheVariants.CannotRead}}
use Rattle.ffs_volume.proofs.OutcomeLaws.{no_read_fault}
use Rattle.ffs_image.specs.Known.{ForBytes}
use Rattle.ffs_report.specs.{Fails.FailsIn, Sink.Sink, declared.fault.RunFault.{RunFault, TheVariants.{Read, Out}}}
use Rattle.ffs_layout.specs.Super.{ReadsSuper}
use Rattle.ffs_walk.specs.{Windows.WindowHolds, declared.window.Window.Window}
use Rattle.ffs_finding.{specs.Copies.{FailsBeforeCopy, IsReadForCopy, has_magic, copies_from, super_reads}, proofs.Magics.no_magic}
use Rattle.ffs_finding.specs.Outcome.{PrintedOf}

-- no magic number, no line
pub no_line : (d : Device) (sector : ℕ) → IsSized d → sector * 512 + 1376 ≤ d.size →
    ForContents d.contents (λ b. false ≡ has_magic b sector) →
    ForContents d.contents (λ b. copy_lines_of sector (outcome b (Some sector)) ≡ [])
no_line d sector sized inside none b k = grind (arith, no_magic)

pub one_read : (d : Device) (sector : ℕ) → ForContents d.contents (λ b. true ≡ has_magic b sector) →
    ForContents d.contents (λ b. super_reads b sector ≡ 1)
one_read d sector there b k = let is = there b k in grind arith

-- the superblock that was read is the one of the image's bytes
pub same_super : {d old new : Device} {sector : Option ℕ} {s : Superblock} → old ≡ d →
    ReadsSuper old new sector (Ok s) → (new ≡ d) × ForContents d.contents (λ b. Ok s ≡ outcome b sector)
same_super {d} {old} {new} {sector} {s} same p = grind arith

-- a superblock at a sector that can't be read is that one
unread_at : (b : List ℕ) (sector at : ℕ) → outcome b (Some sector) ≡ Err (CannotRead at) → at ≡ sector
unfolding outcome outcome_of outcome_in super_verdict
unread_at b sector at e = grind (arith, no_read_fault)

pub super_unread : {d old new : Device} {sector at : ℕ} {fault : SuperFault} → fault ≡ CannotRead at → old ≡ d →
    ReadsSuper old new (Some sector) (Err fault) → ForContents d.contents (λ b. at ≡ sector)
super_unread is same (inl (failed, place)) b k =
    let here = place b (ap (λ x. x.contents) same ∙ k) in grind (arith, here)
super_unread is same (inr (unread, right)) b k =
    unread_at b _ _ (sym (right b (ap (λ x. x.contents) same ∙ k)) ∙ ap (λ x. Err x) is)

-- where a read for a sector failed, the lines of lesser ones were printed
pub fails_before : (knows : List ℕ → Type 0) (sector : ℕ) (a b c : Sink) (fault : RunFault) →
    PrintedOf knows (λ bytes. copies_from bytes sector) copies_lines a b →
    FailsIn {T = Unit {0}} (λ at. (c ≡ b) × ForBytes knows (λ bytes. IsReadForCopy sector at)) (Err fault) →
    FailsIn {T = Unit {0}} (FailsBeforeCopy knows a c) (Err fault)
fails_before knows sector a b c (Read fault) p q = record { sector = sector; failed = q.1; printed = rw q.0 p }
fails_before knows sector a b c (Out fault) p q = tt

-- the window holds what the image gives, which is the same after a read
pub holds_on : {d d1 d2 : Device} {w : Window} → d1 ≡ d → d2 ≡ d → WindowHolds d1.contents w → WindowHolds d2.contents w
holds_on {d} {d1} {d2} {w} same after p = grind arith
