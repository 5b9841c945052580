-- The headline, of a check after an accepted superblock.
use Rattle.std.proofs.Common.{arith, ◌≡◌, inl, inr, refl, ◌∙◌, sym, ap, subst, ℕ, Bool, true, false, not, List, [], ◌∷◌}
use Rattle.std.proofs.Common.{◌++◌, append_assoc, IfSome, None, Option, Some, Ok}
use Rattle.ffs_image.{specs.{Device.{Device, ForContents}, Known.IsContents}, proofs.Devices.faulted_there}
use Rattle.ffs_volume.specs.declared.{SuperFault.SuperFault, End.{End, TheVariants.{Refused, ReadFault, NoMemory}}}
use Rattle.ffs_volume.specs.{Disk.{Superblock.Superblock, Outcome.outcome}, Report.Opening.{head_lines, opening_lines}}
use Rattle.ffs_volume.specs.{Report.Opening.super_lines, Messages.Kinds.{Message, cannot_read, cannot_alloc}}
use Rattle.ffs_volume.specs.{Messages.{Kinds.{has_defect, stops_at_last}, Texts.texts_of}, Report.Whole.phase_lines}
use Rattle.ffs_volume.specs.Report.{Whole.{end_by, report_of, report_end, EndAgrees}, Headings.headings_before}
use Rattle.ffs_report.specs.{Sink.Took, Progress.Progress}
use Rattle.ffs_layout.specs.{declared.superblock.Super.Super, Super.{ReadsSuper, superblock_in}}
use Rattle.ffs_check.specs.{Ends.Cut, Headline.{Headline, IsCutOfReport, IsEndOfReport}, Moment.{Moment, ReportMoment}}
use Rattle.ffs_check.{specs.{Moment.at_output, Headings.TookSections}, proofs.Sections.HeadingsOfCheck}
use Rattle.ffs_check.{proofs.Sections.HeadingsWentOut, specs.{Opening.OpeningOf, AllPhases.{IsCutByRead, IsEndByRoot}}}
use Rattle.ffs_check.{specs.AllPhases.{LastStops, SaysNoMemory, SaysRest}, proofs.Openings.{found_of, no_defect_head}}
use Rattle.ffs_check.proofs.{Openings.unfailed_of, Endings.{at_contents, at_known}, EndLaws.{cut_after, ends_after}}
use Rattle.ffs_check.proofs.{EndLaws.{line_after, took_messages}, Headlines.{whole_there, defect_there, end_of_there}}
use Rattle.ffs_check.proofs.Headlines.{end_there, certifies, last_says}

-- the end that the root and a text's defects make agrees with that text
agrees_by : (name : List ℕ) (sector : Option ℕ) (text : List Message) (continued defect : Bool) →
    has_defect text ≡ defect → stops_at_last text ≡ not continued → EndAgrees name sector text (end_by continued defect)
agrees_by name sector text true true e f = rw (e, f) refl
agrees_by name sector text true false e f = rw (e, f) refl
agrees_by name sector text false defect e f = rw f refl

module _ (name : List ℕ) (sector : Option ℕ) (old : Moment) (s : Superblock)
    (accepted : ForContents old.image.contents (λ bytes. Ok s ≡ outcome bytes sector)) (between : ℕ)
    (report : Progress) (opened : Took old.out report.sink (texts_of (opening_lines name sector (Ok s))))
    (working : report.failed ≡ false) (new : ReportMoment) (end : End) where
  -- the memory was refused
  unstarted : new.image ≡ old.image → SaysNoMemory report new.report end → Headline name sector old (at_output new) end
  unstarted none_failed refusal =
      let head = opening_lines name sector (Ok s) in
      record {
        text = head ++ at_contents old.image.contents (λ bytes. phase_lines bytes s);
        is_report = λ bytes t. whole_there bytes name sector s _ (accepted bytes t)
            (at_known old.image.contents (λ bytes. phase_lines bytes s) bytes t);
        ends = inr (record {
          cut = record { said = head; line = cannot_alloc; end = NoMemory };
          is_cut = inr (inr (record {
            no_read_failed = none_failed;
            found = s;
            accepted = λ bytes t. sym (accepted bytes t);
            said_is = refl;
            line_is = refl;
            end_is = refl;
          }));
          ends = line_after old.out report new.report head cannot_alloc NoMemory end opened working refusal;
        });
        headings = elim refusal [
          | inl said ↦ subst (HeadingsOfCheck name sector old.out new.report.sink) (sym said.1) tt
          | inr stopped ↦ subst (HeadingsOfCheck name sector old.out new.report.sink) (sym stopped.1) tt
        ];
      }

  module _ (text : List Message) (right : ForContents old.image.contents (λ bytes. text ≡ phase_lines bytes s)) where
    is_whole : ForContents old.image.contents
        (λ bytes. opening_lines name sector (Ok s) ++ text ≡ report_of bytes name sector)
    is_whole bytes t = whole_there bytes name sector s text (accepted bytes t) (right bytes t)

    -- a defect of the whole text is one after the image's name
    defect_whole : (xs : List Message) → has_defect (opening_lines name sector (Ok s) ++ xs) ≡ has_defect (super_lines s ++ xs)
    defect_whole xs = ap has_defect (append_assoc (head_lines name sector) (super_lines s) xs)
        ∙ no_defect_head name sector (super_lines s ++ xs)

    -- its last message is that of the phases
    stops_whole : {stops : Bool} → LastStops stops text → stops_at_last (opening_lines name sector (Ok s) ++ text) ≡ stops
    stops_whole l =
        let head = opening_lines name sector (Ok s) in
        ap (λ (xs : List Message). stops_at_last (head ++ xs)) l.text_is
        ∙ ap stops_at_last (sym (append_assoc head l.before (l.last ∷ []))) ∙ last_says (head ++ l.before) l.last ∙ l.stops_is

    -- the end of the phases is that of the whole report
    whole : IsEndByRoot (IsContents old.image.contents) s text end →
        IsEndOfReport name sector old.image (opening_lines name sector (Ok s) ++ text) end
    whole e =
        let defect = has_defect (super_lines s ++ text) in
        let last : ForContents old.image.contents (λ bytes. end ≡ report_end bytes sector) = λ bytes t.
        e.end_is ∙ end_of_there bytes s e.continued defect (e.by_root bytes t) (defect_there bytes s text (right bytes t))
        ∙ end_there bytes sector (Ok s) (accepted bytes t) in
        record {
          agrees = subst (EndAgrees name sector (opening_lines name sector (Ok s) ++ text)) (sym e.end_is)
              (agrees_by name sector (opening_lines name sector (Ok s) ++ text) e.continued defect (defect_whole text)
              (stops_whole e.last));
          value = last;
          certifies = λ bytes t. certifies bytes name sector (opening_lines name sector (Ok s) ++ text) end
              (is_whole bytes t) (last bytes t);
        }

    -- what a failed read leaves of the report
    later : (cut : Cut) → IsCutByRead (IsContents old.image.contents) text old.image new.image cut →
        IsCutOfReport name sector old.image new.image (opening_lines name sector (Ok s) ++ text)
        (cut_after (opening_lines name sector (Ok s)) cut)
    later cut c = inr (inl (record {
      faulted = faulted_there old.image new.image c.sector c.faulted;
      found = s;
      accepted = λ bytes t. sym (accepted bytes t);
      prefix = cut.said;
      rest = c.rest;
      said_is = refl;
      makes_text = append_assoc (opening_lines name sector (Ok s)) cut.said c.rest
          ∙ ap (λ xs. opening_lines name sector (Ok s) ++ xs) c.makes_text;
      more = c.more;
      line_is = c.line_is ∙ ap cannot_read (sym c.faulted.failed_sector);
      end_is = c.end_is ∙ ap ReadFault (sym c.faulted.failed_sector);
    }))

  -- the opening, and then the headings that the phases said
  opened_then : (wanted : Option (List Message)) → IfSome wanted (TookSections [] report.sink new.report.sink) →
      IfSome wanted (λ headings. (found : Superblock)
      × TookSections (opening_lines name sector (Ok found)) old.out new.report.sink headings)
  opened_then (Some headings) phases = (
    s,
    record {
      messages = phases.messages;
      took = took_messages old.out report.sink new.report.sink (opening_lines name sector (Ok s)) phases.messages opened
          phases.took;
      sections = phases.sections;
    },
  )
  opened_then None phases = tt

  pub follows : SaysRest s (record { image = old.image; reads = between; report = report }) new end →
      HeadingsWentOut report.sink new.report.sink end → Headline name sector old (at_output new) end
  follows (inl refusal) headings = unstarted refusal.0 refusal.1
  follows (inr ran) headings = record {
    text = opening_lines name sector (Ok s) ++ ran.text;
    is_report = is_whole ran.text ran.right;
    ends = ends_after (opening_lines name sector (Ok s)) refl opened (whole ran.text ran.right) (later ran.text ran.right) ran.ends;
    headings = opened_then (headings_before end) headings;
  }

pub found_ends : (name : List ℕ) (sector : Option ℕ) (old : Moment) (on new : ReportMoment) (found : Super) (end : End) →
    OpeningOf name sector old (at_output on) (Ok found) → on.report.failed ≡ false →
    SaysRest (superblock_in found) on new end → HeadingsWentOut on.report.sink new.report.sink end →
    Headline name sector old (at_output new) end
found_ends name sector old on new found end o working f headings =
    let s = superblock_in found in
    let answers = subst (ReadsSuper old.image on.image sector) o.ends.1 o.super_is_read in
    follows name sector old s (found_of old.image on.image sector s answers) on.reads on.report
    (subst (λ r. Took old.out on.report.sink (texts_of (opening_lines name sector r))) o.ends.1 o.ends.0) working new
    end (subst (λ (d : Device). SaysRest s (record { image = d; reads = on.reads; report = on.report }) new end)
    (unfailed_of old.image on.image sector s answers) f) headings

-- a check after an accepted superblock doesn't refuse it
not_by : (on defect : Bool) (fault : SuperFault) → end_by on defect ≡ Refused fault → ⊥
not_by on defect fault e = grind arith

pub not_refused : (s : Superblock) (old new : ReportMoment) (end : End) (fault : SuperFault) →
    SaysRest s old new end → end ≡ Refused fault → ⊥
not_refused s old new end fault ran e = grind (arith, not_by)
