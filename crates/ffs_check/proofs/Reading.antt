-- How often a check reads its image.
use Rattle.std.proofs.Common.{◌≡◌, ◌≤◌, ◌+◌, ℕ, List, length, ap, ◌∙◌, sym, refl, subst, arith, Option, Result, Ok, Err}
use Rattle.std.proofs.lemmas.List.{length-append}
use Rattle.ffs_volume.specs.{declared.{Layout.Layout, SuperFault.SuperFault}, Disk.Outcome.outcome}
use Rattle.ffs_volume.specs.{Disk.Superblock.Superblock, Report.{Reads.{opening_reads, phase_reads}, Whole.phase_lines}}
use Rattle.ffs_volume.specs.Report.{Opening.opening_lines, Whole.report_of}
use Rattle.ffs_layout.specs.{declared.superblock.Super.Super, Super.{ReadsSuper, superblock_in}}
use Rattle.ffs_image.specs.Device.{ForContents}
use Rattle.ffs_check.specs.{Moment.Moment, Opening.OpeningOf, Reads.{PhasesReadWithin, ReadsWithin}}
use Rattle.ffs_check.proofs.{Headlines.whole_there, Openings.{found_of, unfailed_of}}

pub phases_more : (v : Layout) (n m : ℕ) → n ≤ m → phase_reads v n ≤ phase_reads v m
phases_more v n m h = omega (arith, h)

-- the messages of the phases are among those of the report
report_among : (bytes name : List ℕ) (sector : Option ℕ) (s : Superblock) → Ok s ≡ outcome bytes sector →
    length (phase_lines bytes s) ≤ length (report_of bytes name sector)
report_among bytes name sector s accepted =
    let whole = ap length (whole_there bytes name sector s (phase_lines bytes s) accepted refl) in
    omega (arith, whole, length-append (opening_lines name sector (Ok s)) (phase_lines bytes s))

-- a superblock was accepted, and the phases follow, or nothing is read any more
pub found_within : (name : List ℕ) (sector : Option ℕ) (old on new : Moment) (found : Super) →
    OpeningOf name sector old on (Ok found) → on.reads ≤ old.reads + opening_reads sector →
    ForContents on.image.contents (λ bytes. PhasesReadWithin (superblock_in found) bytes on.reads new.reads) →
    ReadsWithin name sector old new
found_within name sector old on new found o opened follows =
    let answers = subst (ReadsSuper old.image on.image sector) o.ends.1 o.super_is_read in
    let still = unfailed_of old.image on.image sector (superblock_in found) answers in
    let is = found_of old.image on.image sector (superblock_in found) answers in
    let there : ForContents old.image.contents (λ bytes. (s : Superblock) → outcome bytes sector ≡ Ok s →
    PhasesReadWithin s bytes on.reads new.reads) = λ bytes t s e.
    let same : superblock_in found ≡ s = ap (λ r. found_or r s) (is bytes t ∙ e) in
    subst (λ x. PhasesReadWithin x bytes on.reads new.reads) same (follows bytes (ap (λ d. d.contents) still ∙ t)) in
    record {
      refused = λ bytes t fault e. let no : Ok (superblock_in found) ≡ Err fault = is bytes t ∙ e in absurd (cc);
      accepted = λ bytes t s e. omega (
        arith,
        opened,
        (there bytes t s e).limit,
        phases_more s.layout _ _ (report_among bytes name sector s (sym e)),
      );
      volume = λ bytes t s e. omega (arith, opened, (there bytes t s e).volume);
    }
  where
    found_or : Result Superblock SuperFault → Superblock → Superblock
    found_or (Ok s) d = s
    found_or (Err fault) d = d

-- nothing was read but the superblock and its last copy
pub opened_within : (name : List ℕ) (sector : Option ℕ) (old new : Moment) → new.reads ≤ old.reads + opening_reads sector →
    ReadsWithin name sector old new
opened_within name sector old new opened = grind arith
