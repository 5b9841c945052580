-- The headline, of an opening and of what follows it.
use Rattle.std.proofs.Common.{arith, ◌≡◌, ◌⊎◌, inl, inr, refl, ◌∙◌, sym, ap, subst, ℕ, Bool, true, List, [], ◌∷◌, ◌++◌}
use Rattle.std.proofs.Common.{append_assoc, append-nil, Option, Result, Ok, Err}
use Rattle.ffs_image.specs.Device.{Device, Faulted, ForContents}
use Rattle.ffs_volume.specs.declared.{SuperFault.{SuperFault, TheVariants.CannotRead}, End.{End, TheVariants.Refused}}
use Rattle.ffs_volume.specs.declared.End.TheVariants.{WriteFault, Consistent, Defects, RootStop, ReadFault, NoMemory}
use Rattle.ffs_volume.specs.Disk.{Superblock.Superblock, Outcome.{outcome, IsSuperSector}}
use Rattle.ffs_volume.specs.Directories.{PathnameCheck.continues_after_root, Volumes.volume_of}
use Rattle.ffs_volume.specs.{Messages.Kinds.{Message, has_defect}, Report.Opening.{head_lines, super_lines, fault_line}}
use Rattle.ffs_volume.specs.Report.{Opening.opening_lines, Whole.{phase_lines, report_lines, end_by, end_of, EndAgrees}}
use Rattle.ffs_volume.specs.Report.Whole.{lines_by_outcome, end_by_outcome, report_of, report_end}
use Rattle.ffs_volume.specs.Messages.{Texts.texts_of, Kinds.{stops_at_last, stops_check}}
use Rattle.ffs_report.specs.Sink.{BrokeOff, Took}
use Rattle.ffs_layout.specs.Super.{ReadsSuper}
use Rattle.ffs_certificate.proofs.ReportLaws.{certified}
use Rattle.ffs_check.{specs.{Ends.BrokeOffAfter, Headline.{Certifies, Headline}}, proofs.Sections.HeadingsOfCheck}
use Rattle.ffs_check.{specs.{Moment.Moment, AllPhases.can_end_report, Opening.OpeningOf}, proofs.EndLaws.broke_after}
use Rattle.ffs_check.proofs.{EndLaws.broke_more, Endings.{at_contents, at_known}, Openings.no_defect_head}

-- ---- the report, in its parts
report_there : (bytes name : List ℕ) (sector : Option ℕ) (found : Result Superblock SuperFault) →
    found ≡ outcome bytes sector → head_lines name sector ++ lines_by_outcome bytes found ≡ report_of bytes name sector
unfolding report_of
report_there bytes name sector found e = ap (λ f. head_lines name sector ++ lines_by_outcome bytes f) e

pub end_there : (bytes : List ℕ) (sector : Option ℕ) (found : Result Superblock SuperFault) →
    found ≡ outcome bytes sector → end_by_outcome bytes found ≡ report_end bytes sector
unfolding report_end
end_there bytes sector found e = ap (end_by_outcome bytes) e

-- what follows the opening
more_of : List ℕ → Result Superblock SuperFault → List Message
more_of bytes (Ok s) = phase_lines bytes s
more_of bytes (Err fault) = []

opening_then : (bytes name : List ℕ) (sector : Option ℕ) (found : Result Superblock SuperFault) →
    opening_lines name sector found ++ more_of bytes found ≡ head_lines name sector ++ lines_by_outcome bytes found
unfolding report_lines more_of
opening_then bytes name sector found = grind (arith, append_assoc, append-nil)

pub whole_there : (bytes name : List ℕ) (sector : Option ℕ) (s : Superblock) (text : List Message) →
    Ok s ≡ outcome bytes sector → text ≡ phase_lines bytes s →
    opening_lines name sector (Ok s) ++ text ≡ report_of bytes name sector
unfolding report_lines
whole_there bytes name sector s text e t =
    ap (λ xs. opening_lines name sector (Ok s) ++ xs) t
    ∙ append_assoc (head_lines name sector) (super_lines s) (phase_lines bytes s)
    ∙ report_there bytes name sector (Ok s) e

pub defect_there : (bytes : List ℕ) (s : Superblock) (text : List Message) → text ≡ phase_lines bytes s →
    has_defect (super_lines s ++ text) ≡ has_defect (report_lines bytes s)
unfolding report_lines
defect_there bytes s text t = ap (λ xs. has_defect (super_lines s ++ xs)) t

pub end_of_there : (bytes : List ℕ) (s : Superblock) (on defect : Bool) →
    on ≡ continues_after_root (volume_of s.layout bytes) → defect ≡ has_defect (report_lines bytes s) →
    end_by on defect ≡ end_of bytes s
unfolding end_of
end_of_there bytes s on defect e d = grind arith

pub can_end_by : (on defect : Bool) → can_end_report (end_by on defect) ≡ true
can_end_by on defect = grind arith

pub can_end_of : (name : List ℕ) (sector : Option ℕ) (text : List Message) (end : End) → EndAgrees name sector text end →
    can_end_report end ≡ true
can_end_of name sector text Consistent e = refl
can_end_of name sector text Defects e = refl
can_end_of name sector text (Refused fault) e = refl
can_end_of name sector text RootStop e = refl
can_end_of name sector text (ReadFault at) e = ap can_end_report e ∙ can_end_by _ _
can_end_of name sector text WriteFault e = ap can_end_report e ∙ can_end_by _ _
can_end_of name sector text NoMemory e = ap can_end_report e ∙ can_end_by _ _

-- what the last message of a text says
pub last_says : (xs : List Message) (x : Message) → stops_at_last (xs ++ (x ∷ [])) ≡ stops_check x
last_says [] x = refl
last_says (y ∷ []) x = refl
last_says (y ∷ z ∷ xs) x = last_says (z ∷ xs) x

-- ---- the certificate
report_defect : (bytes name : List ℕ) (sector : Option ℕ) (s : Superblock) → outcome bytes sector ≡ Ok s →
    has_defect (report_of bytes name sector) ≡ has_defect (report_lines bytes s)
report_defect bytes name sector s e = ap has_defect (sym (report_there bytes name sector (Ok s) (sym e)))
    ∙ no_defect_head name sector (report_lines bytes s)

pub certifies : (bytes name : List ℕ) (sector : Option ℕ) (text : List Message) (end : End) →
    text ≡ report_of bytes name sector → end ≡ report_end bytes sector →
    (s : Superblock) → outcome bytes sector ≡ Ok s → Certifies bytes s text end
certifies bytes name sector text end t e s o =
    let law = certified bytes sector s o in
    let last : end ≡ end_of bytes s = e ∙ sym (end_there bytes sector (Ok s) (sym o)) in
    let defect : has_defect text ≡ has_defect (report_lines bytes s) = ap has_defect t
    ∙ report_defect bytes name sector s o in
    record {
      end_says = ((λ p. law.end_is.0 (sym last ∙ p)), (λ p. last ∙ law.end_is.1 p));
      text_says = ((λ p. law.silent.0 (sym defect ∙ p)), (λ p. defect ∙ law.silent.1 p));
    }

-- the report, where the superblock's read failed: what comes after the opening line is the image's
abbrev whole_report : Device → List ℕ → Option ℕ → List Message
whole_report image name sector = head_lines name sector
    ++ at_contents image.contents (λ bytes. lines_by_outcome bytes (outcome bytes sector))

whole_right : (image : Device) (name : List ℕ) (sector : Option ℕ) →
    ForContents image.contents (λ bytes. whole_report image name sector ≡ report_of bytes name sector)
whole_right image name sector bytes t = grind (arith, at_known, report_there)

module _ (name : List ℕ) (sector : Option ℕ) (old new : Moment) where
  -- ---- a read of the superblock, or of its last copy, failed
  failed : (fault : SuperFault) (end : End) → fault ≡ CannotRead new.image.failed_sector →
      Faulted old.image new.image new.image.failed_sector →
      ForContents old.image.contents (λ bytes. IsSuperSector bytes sector new.image.failed_sector) →
      (Took old.out new.out (texts_of (head_lines name sector ++ (fault_line fault ∷ []))) × (end ≡ Refused fault))
      ⊎ (BrokeOffAfter old.out new.out (head_lines name sector) (fault_line fault ∷ []) × (end ≡ WriteFault)) →
      Headline name sector old new end
  failed fault end e f at ends = record {
    text = whole_report old.image name sector;
    is_report = whole_right old.image name sector;
    ends = inr (record {
      cut = record { said = head_lines name sector; line = fault_line fault; end = Refused fault };
      is_cut = inl (record {
        faulted = f;
        place = at;
        said_is = refl;
        line_is = ap fault_line e;
        end_is = ap Refused e;
      });
      ends = ends;
    });
    headings = elim ends [
      | inl whole ↦ subst (HeadingsOfCheck name sector old.out new.out) (sym whole.1) tt
      | inr part ↦ subst (HeadingsOfCheck name sector old.out new.out) (sym part.1) tt
    ];
  }

  -- ---- the opening ended the check
  refused : (fault : SuperFault) → ReadsSuper old.image new.image sector (Err fault) →
      Took old.out new.out (texts_of (opening_lines name sector (Err fault))) →
      Headline name sector old new (Refused fault)
  refused fault (inl read) said = failed fault (Refused fault) read.0.0 read.0.1 read.1 (inl (said, refl))
  refused fault (inr read) said =
      let text = opening_lines name sector (Err fault) in
      let report : ForContents old.image.contents (λ bytes. text ≡ report_of bytes name sector) =
      λ bytes t. report_there bytes name sector (Err fault) (read.1 bytes t) in
      let last : ForContents old.image.contents (λ bytes. Refused fault ≡ report_end bytes sector) =
      λ bytes t. end_there bytes sector (Err fault) (read.1 bytes t) in
      record {
        text = text;
        is_report = report;
        ends = inl (record {
          image = read.0;
          ends = inl (
            said,
            record {
              agrees = refl;
              value = last;
              certifies = λ bytes t. certifies bytes name sector text (Refused fault) (report bytes t) (last bytes t);
            },
          );
        });
        headings = tt;
      }

  -- the output failed where no read had
  stopped : (found : Result Superblock SuperFault) → new.image ≡ old.image →
      ForContents old.image.contents (λ bytes. found ≡ outcome bytes sector) →
      BrokeOff old.out new.out (texts_of (opening_lines name sector found)) → Headline name sector old new WriteFault
  stopped found none_failed right stop =
      let more = at_contents old.image.contents (λ bytes. more_of bytes found) in
      record {
        text = opening_lines name sector found ++ more;
        is_report = λ bytes t. ap (λ xs. opening_lines name sector found ++ xs)
            (at_known old.image.contents (λ bytes. more_of bytes found) bytes t)
            ∙ opening_then bytes name sector found ∙ report_there bytes name sector found (right bytes t);
        ends = inl (record {
          image = none_failed;
          ends = inr (broke_more old.out new.out (opening_lines name sector found) more stop, refl);
        });
        headings = tt;
      }

  -- the output failed in the line of a fault
  stopped_in_line : (fault : SuperFault) → ReadsSuper old.image new.image sector (Err fault) →
      BrokeOffAfter old.out new.out (head_lines name sector) (fault_line fault ∷ []) →
      Headline name sector old new WriteFault
  stopped_in_line fault (inl read) stop = failed fault WriteFault read.0.0 read.0.1 read.1 (inr (stop, refl))
  stopped_in_line fault (inr read) stop = stopped (Err fault) read.0 read.1
      (broke_after old.out stop.between new.out (head_lines name sector) (fault_line fault ∷ []) stop.went_out
      stop.broke_off)

  -- the opening's answer
  pub opening_ends : (end : End) → OpeningOf name sector old new (Err end) → Headline name sector old new end
  opening_ends end o =
      let read : (fault : SuperFault) → o.found ≡ Err fault → ReadsSuper old.image new.image sector (Err fault) =
      λ fault e. subst (ReadsSuper old.image new.image sector) e o.super_is_read in
      elim o.ends [
        | inl not_accepted ↦ subst (Headline name sector old new) (sym not_accepted.end_is)
            (refused not_accepted.fault (read not_accepted.fault not_accepted.found_is) not_accepted.went_out)
        | inr stops ↦ elim stops [
          | inl stop ↦ subst (Headline name sector old new) (sym stop.end_is)
              (stopped o.found stop.no_read_failed stop.found_is stop.broke_off)
          | inr stop ↦ subst (Headline name sector old new) (sym stop.end_is)
              (stopped_in_line stop.fault (read stop.fault stop.found_is) stop.in_line)
        ]
      ]
