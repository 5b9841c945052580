-- How many reads and writes failed, by the headline.
use Rattle.std.proofs.Common.{arith, ◌≡◌, inl, inr, ap, ℕ, true, List, Option}
use Rattle.ffs_image.specs.Device.{Device}
use Rattle.ffs_volume.specs.{declared.End.{End, TheVariants.{Refused, ReadFault, WriteFault}}, Messages.Kinds.Message}
use Rattle.ffs_volume.specs.declared.SuperFault.TheVariants.{CannotRead}
use Rattle.ffs_check.specs.{Ends.Cut, Failures.{ReadsFailed, WritesFailed}, Moment.Moment}
use Rattle.ffs_check.{specs.{Headline.{IsCutOfReport, Headline}, AllPhases.can_end_report}, proofs.Headlines.can_end_of}

reads_none : (end : End) (old new : ℕ) → can_end_report end ≡ true → new ≡ old → ReadsFailed end old new
reads_none (Refused (CannotRead sector)) old new c e = inl e
reads_none (ReadFault sector) old new c e = absurd (cc)
reads_none WriteFault old new c e = inl e
reads_none end old new c e = e

writes_none : (end : End) (old new : ℕ) → can_end_report end ≡ true → new ≡ old → WritesFailed end old new
writes_none WriteFault old new c e = absurd (cc)
writes_none end old new c e = e

-- where a check is cut short, one read had failed, or the memory was refused
cut_reads : {image image' : Device} {name : List ℕ} {sector : Option ℕ} {text : List Message} {cut : Cut} →
    IsCutOfReport name sector image image' text cut →
    ReadsFailed cut.end image.failures image'.failures × ReadsFailed WriteFault image.failures image'.failures
cut_reads (inl super) = (rw super.end_is (inr super.faulted.rose), inr super.faulted.rose)
cut_reads (inr (inl later)) = (rw later.end_is later.faulted.rose, inr later.faulted.rose)
cut_reads (inr (inr unstarted)) = grind arith

cut_writes : {image image' : Device} {name : List ℕ} {sector : Option ℕ} {text : List Message} {cut : Cut}
    (old new : ℕ) → IsCutOfReport name sector image image' text cut → new ≡ old → WritesFailed cut.end old new
cut_writes old new (inl super) e = rw super.end_is e
cut_writes old new (inr (inl later)) e = rw later.end_is e
cut_writes old new (inr (inr unstarted)) e = rw unstarted.end_is e

module _ (name : List ℕ) (sector : Option ℕ) (old new : Moment) (end : End) (h : Headline name sector old new end) where
  pub reads_failed : ReadsFailed end old.image.failures new.image.failures
  reads_failed = elim h.ends [
    | inl read ↦
        let same = ap (λ (d : Device). d.failures) read.image in
        elim read.ends [
          | inl whole ↦ reads_none end old.image.failures new.image.failures (can_end_of name sector h.text end whole.1.agrees) same
          | inr part ↦ rw part.1 (inl same)
        ]
    | inr short ↦
        let failed = cut_reads short.is_cut in
        elim short.ends [ inl went ↦ rw went.1 failed.0 | inr broke ↦ rw broke.1 failed.1 ]
  ]

  pub writes_failed : WritesFailed end old.out.failures new.out.failures
  writes_failed = elim h.ends [
    | inl read ↦ elim read.ends [
      | inl whole ↦ writes_none end old.out.failures new.out.failures (can_end_of name sector h.text end whole.1.agrees) whole.0.failures
      | inr part ↦ rw part.1 part.0.rose
    ]
    | inr short ↦ elim short.ends [
      | inl went ↦ rw went.1 (cut_writes old.out.failures new.out.failures short.is_cut went.0.failures)
      | inr broke ↦ rw broke.1 (rw broke.0.went_out.failures at broke.0.broke_off.rose)
    ]
  ]
