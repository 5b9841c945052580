-- A target found in a volume, as the command that asks for it.
use Rattle.std.proofs.Common.{◌≡◌, ◌*◌, ◌+◌, ◌≤◌, ℕ, Bool, List, Option, Result, Ok, Err, sym, ap, arith, inl, inr}
use Rattle.std.{proofs.Common.{refl, is_ok}, specs.Prelude.⊤}
use Rattle.ffs_check.specs.{Moment.Moment, Taken.AsksMemory}
use Rattle.ffs_image.specs.{Device.{Device, ForContents}, Known.ForBytes}
use Rattle.ffs_memory.specs.Account.{Account, RefusedOneMore}
use Rattle.ffs_volume.specs.{declared.Layout.Layout, Disk.{Superblock.Superblock, Outcome.outcome}}
use Rattle.ffs_volume.specs.{Laws.Geometry.IsAcceptedLayout, Report.Reads.opening_reads}
use Rattle.ffs_report.specs.{Sink.Sink, declared.fault.RunFault.TheVariants.{Read, Out}}
use Rattle.ffs_finding.specs.declared.find.FindFault.{FindFault, TheVariants.{Refused, Failed, NoMemory}}
use Rattle.ffs_finding.specs.declared.request.Target.{Target, TheVariants.{Inode, Fields, Lost, Owner}}
use Rattle.ffs_finding.specs.{declared.request.Command.TheVariants.InVolume, Headline.{AnswersCommand, AnswersWith}}
use Rattle.ffs_finding.specs.Headline.{FindsTarget, GroundsOf, IsAcceptedIn, IsGranted, IsReadFor, IsRefusedBy}
use Rattle.ffs_finding.specs.Headline.{IsReadForTarget, TakesForTarget, TakesMemory, PrintedAll, lines_by, target_lines}
use Rattle.ffs_finding.specs.Fields.{WithSuper}
use Rattle.ffs_finding.proofs.{LostParts.fails_later, Printing.{first_knowing, printed_knowing}}

-- memory was refused, where the answer says so
refused : (target : Target) (v : Layout) (held held' : Account) → TakesForTarget target v held held' (Err NoMemory) →
    RefusedOneMore held held'
refused (Inode number) v held held' p = absurd (p.1 refl)
refused Fields v held held' p = absurd (p.1 refl)
refused Lost v held held' p = p.rose
refused (Owner fragment) v held held' p = p.rose

-- an answer where more is known, and with that these are the same lines
pub all_knowing : {are_defects : Bool} {knows knows' : List ℕ → Type 0} {lines lines' : List ℕ → List (List ℕ)}
    {a b : Sink} {defect : Bool} → ForBytes knows' (λ b. knows b × (lines b ≡ lines' b)) →
    PrintedAll are_defects knows lines a b defect → PrintedAll are_defects knows' lines' a b defect
all_knowing more p = record { printed = printed_knowing more p.printed; defect_is = p.defect_is }

knowing_more : (are_defects : Bool) {knows knows' : List ℕ → Type 0} {lines lines' : List ℕ → List (List ℕ)}
    (d : Device) (reads reads' : ℕ) (a : Sink) (m : Moment) (r : Result Bool FindFault) →
    ForBytes knows' (λ b. knows b × (lines b ≡ lines' b)) →
    AnswersWith are_defects knows lines (record { image = d; reads = reads; out = a }) m r →
    AnswersWith are_defects knows' lines' (record { image = d; reads = reads'; out = a }) m r
knowing_more are_defects d reads reads' a m (Ok defect) more p = (p.0, all_knowing more p.1)
knowing_more are_defects d reads reads' a m (Err (Refused fault)) more p = p
knowing_more are_defects d reads reads' a m (Err (Failed (Read fault))) more p =
    record { image = p.image; text = first_knowing more p.text }
knowing_more are_defects d reads reads' a m (Err (Failed (Out fault))) more p =
    record { image = p.image; text = first_knowing more p.text }
knowing_more are_defects d reads reads' a m (Err NoMemory) more p = p

-- where a read failed, by what is known once the superblock is accepted
read_for : (target : Target) (sector : Option ℕ) (s : Superblock) (knows knows' : List ℕ → Type 0) (begun begun' at : ℕ)
    (a : Sink) (m : Moment) → ForBytes knows' knows → begun ≤ begun' →
    IsReadForTarget target sector s knows begun a m at → IsReadForTarget target sector s knows' begun' a m at
read_for (Inode number) sector s knows knows' begun begun' at a m more few p = p
read_for Fields sector s knows knows' begun begun' at a m more few p = p
read_for Lost sector s knows knows' begun begun' at a m more few (inl none) = inl none
read_for Lost sector s knows knows' begun begun' at a m more few (inr p) =
    inr (fails_later knows knows' s.layout _ _ a m at more (omega (arith, few)) p)
read_for (Owner fragment) sector s knows knows' begun begun' at a m more few p = p

module _ (target : Target) (sector : Option ℕ) (s : Superblock) (d : Device)
    (accepted : ForContents d.contents (λ b. outcome b sector ≡ Ok s)) where
  grounds : (reads between : ℕ) (a : Sink) (m : Moment) (held held' : Account) (r : Result Bool FindFault) →
      between ≤ reads + opening_reads sector →
      GroundsOf r ⊤ (λ fault. ⊥) (IsReadForTarget target sector s (WithSuper d sector s) between a m) ⊤ →
      TakesForTarget target s.layout held held' r →
      GroundsOf r (ForContents d.contents (IsAcceptedIn (InVolume target sector)))
      (IsRefusedBy (InVolume target sector) d m.image)
      (IsReadFor (InVolume target sector) (record { image = d; reads = reads; out = a }) m) (RefusedOneMore held held')
  grounds reads between a m held held' (Ok defect) opened p t = λ b k. ap is_ok (accepted b k)
  grounds reads between a m held held' (Err (Refused fault)) opened p t = absurd p
  grounds reads between a m held held' (Err (Failed (Read fault))) opened p t = λ b k. rw (accepted b k)
      (read_for target sector s _ _ _ _ fault.sector a m (λ x here. (here, accepted x here)) opened p)
  grounds reads between a m held held' (Err (Failed (Out fault))) opened p t = tt
  grounds reads between a m held held' (Err NoMemory) opened p t = refused target s.layout held held' t

asked : (bytes : ℕ) (held held' : Account) (r : Result Bool FindFault) → IsGranted bytes held held' r →
    AsksMemory held held' bytes
asked bytes held held' (Ok defect) p = inl p
asked bytes held held' (Err (Refused fault)) p = inl p
asked bytes held held' (Err (Failed fault)) p = inl p
asked bytes held held' (Err NoMemory) p = inr p

takes : (target : Target) (sector : Option ℕ) (s : Superblock) (d : Device) (held held' : Account)
    (r : Result Bool FindFault) → ForContents d.contents (λ b. outcome b sector ≡ Ok s) →
    IsAcceptedLayout s.layout → s.layout.size * s.layout.fsize ≤ d.size →
    TakesForTarget target s.layout held held' r → TakesMemory (InVolume target sector) d held held'
takes (Inode number) sector s d held held' r accepted sound inside p = p.0
takes Fields sector s d held held' r accepted sound inside p = p.0
takes Lost sector s d held held' r accepted sound inside p = grind arith
takes (Owner fragment) sector s d held held' r accepted sound inside p = grind arith

-- a target was found after the superblock was read
pub answered : (target : Target) (sector : Option ℕ) (s : Superblock) (d : Device) (before between : ℕ) (a : Sink)
    (m : Moment) (held held' : Account) (r : Result Bool FindFault) →
    ForContents d.contents (λ b. outcome b sector ≡ Ok s) → IsAcceptedLayout s.layout →
    s.layout.size * s.layout.fsize ≤ d.size → between ≤ before + opening_reads sector →
    FindsTarget target sector s (record { image = d; reads = between; out = a }) m r →
    TakesForTarget target s.layout held held' r →
    AnswersCommand (InVolume target sector) (record { image = d; reads = before; out = a }) m held held' r
answered target sector s d before between a m held held' r accepted sound inside opened p t = record {
  answer = knowing_more _ d between before a m r
      (λ b k. ((k, accepted b k), sym (ap (lines_by (target_lines target sector b)) (accepted b k)))) p.answer;
  grounds = grounds target sector s d accepted before between a m held held' r opened p.grounds t;
  memory = takes target sector s d held held' r accepted sound inside t;
  reads = inr (record {
    found = s;
    accepted = accepted;
    sound = sound;
    inside = inside;
    reads = omega (arith, opened, p.reads);
  });
}
