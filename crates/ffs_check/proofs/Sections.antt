-- The sections of a check's text, phase by phase.
use Rattle.std.proofs.Common.{arith, ◌≡◌, refl, ◌∙◌, sym, ap, subst, Bool, true, false, List, [], ◌∷◌, ◌++◌}
use Rattle.std.proofs.Common.{append_assoc, append-nil, ◌||◌, Option, Some, None, IfSome, Result, Ok, Err, inl, inr, ℕ}
use Rattle.ffs_image.specs.Device.{Device}
use Rattle.ffs_volume.specs.{Disk.Superblock.Superblock, Report.{Opening.opening_lines, Whole.end_by}, declared.End.End}
use Rattle.ffs_volume.specs.{Messages.Kinds.{Message, cannot_read, phase1, phase2}, Report.Headings.HasSections}
use Rattle.ffs_volume.specs.Report.Headings.{all_headings, headings_before}
use Rattle.ffs_report.specs.{Sink.Sink, PhaseOutcome.{HeadingFirst, ImageAfter, PhaseReports}, Progress.Progress}
use Rattle.ffs_report.specs.{Progress.{Said, Says}, declared.fault.RunFault.{RunFault, TheVariants.{Read, Out}}}
use Rattle.ffs_report.proofs.Reports.{said_none, said_then, stopped_after}
use Rattle.ffs_pathnames.specs.declared.pass2.Root.{Root, TheVariants.{Go, Stop}}
use Rattle.ffs_check.{specs.{Headings.TookSections, AllPhases.{MakesEnd, SaysSections}}, proofs.EndLaws.took_messages}

-- ---- a text and its sections
-- a further section
one_more : (headings text : List Message) (heading : Message) (lines : List Message) → HasSections headings text →
    HasSections (headings ++ (heading ∷ [])) (text ++ (heading ∷ lines))
one_more [] text heading lines none = record {
  lines = lines;
  rest = [];
  text_is = ap (λ (xs : List Message). xs ++ (heading ∷ lines)) none
      ∙ ap (λ (xs : List Message). heading ∷ xs) (sym (append-nil lines));
  follows = refl;
}
one_more (first ∷ headings) text heading lines s = record {
  lines = s.lines;
  rest = s.rest ++ (heading ∷ lines);
  text_is = ap (λ (xs : List Message). xs ++ (heading ∷ lines)) s.text_is
      ∙ ap (λ (xs : List Message). first ∷ xs) (append_assoc s.lines s.rest (heading ∷ lines));
  follows = one_more headings s.rest heading lines s.follows;
}

-- more lines in the last one
longer : (heading : Message) (headings text more : List Message) → HasSections (heading ∷ headings) text →
    HasSections (heading ∷ headings) (text ++ more)
longer heading [] text more s = record {
  lines = s.lines ++ more;
  rest = [];
  text_is = ap (λ (xs : List Message). xs ++ more) (s.text_is
      ∙ ap (λ (xs : List Message). heading ∷ (s.lines ++ xs)) s.follows
      ∙ ap (λ (xs : List Message). heading ∷ xs) (append-nil s.lines))
      ∙ ap (λ (xs : List Message). heading ∷ xs) (sym (append-nil (s.lines ++ more)));
  follows = refl;
}
longer heading (next ∷ headings) text more s = record {
  lines = s.lines;
  rest = s.rest ++ more;
  text_is = ap (λ (xs : List Message). xs ++ more) s.text_is
      ∙ ap (λ (xs : List Message). heading ∷ xs) (append_assoc s.lines s.rest more);
  follows = longer next headings s.rest more s.follows;
}

-- the first one, with all that follows in it
first_alone : (heading : Message) (headings text : List Message) → HasSections (heading ∷ headings) text →
    HasSections (heading ∷ []) text
first_alone heading headings text s = record {
  lines = s.lines ++ s.rest;
  rest = [];
  text_is = s.text_is ∙ ap (λ (xs : List Message). heading ∷ xs) (sym (append-nil (s.lines ++ s.rest)));
  follows = refl;
}

-- ---- phase after phase
-- messages were said in the sections of these headings
pub record Headed (headings : List Message) (start now : Progress) : Type 0 where
  pub messages : List Message
  pub said : Said start now messages
  pub sections : HasSections headings messages

-- nothing was said yet
pub unheaded : (start : Progress) → Headed [] start start
unheaded start = record { messages = []; said = said_none start; sections = refl }

-- further headings were said, or a phase answered a fault
abbrev Leads : {T : Type 0} → List Message → (start now : Progress) → Result T RunFault → Type 0
Leads headings start now (Ok x) = Headed headings start now
Leads headings start now (Err fault) = SaysSections start now (Err fault)

-- a phase says its heading first
pub heads : {T : Type 0} {start report report' : Progress} (r : Result T RunFault) (done : List Message)
    (heading : Message) (later : List Message) → done ++ (heading ∷ []) ≡ phase1 ∷ later → Headed done start report →
    HeadingFirst heading report report' r → Leads (done ++ (heading ∷ [])) start report' r
heads (Ok x) done heading later e at first = record {
  messages = at.messages ++ (heading ∷ first.more);
  said = said_then _ _ _ at.messages (heading ∷ first.more) at.said first.says;
  sections = one_more done at.messages heading first.more at.sections;
}
heads (Err (Read fault)) done heading later e at first = record {
  messages = at.messages ++ (heading ∷ first.more);
  says = said_then _ _ _ at.messages (heading ∷ first.more) at.said first.says;
  sections = first_alone phase1 later _ (subst (λ (xs : List Message). HasSections xs (at.messages ++ (heading ∷ first.more))) e
      (one_more done at.messages heading first.more at.sections));
}
heads (Err (Out fault)) done heading later e at first = record {
  messages = at.messages ++ (heading ∷ first.more);
  says = stopped_after _ _ _ at.messages (heading ∷ first.more) at.said first.says;
  sections = first_alone phase1 later _ (subst (λ (xs : List Message). HasSections xs (at.messages ++ (heading ∷ first.more))) e
      (one_more done at.messages heading first.more at.sections));
}

-- phase 1b, or nothing, says messages after phase 1
pub continues : {T : Type 0} (knows : List ℕ → Type 0) (all : List ℕ → List Message) {start report : Progress}
    (report' : Progress) (r : Result T RunFault) → Headed (phase1 ∷ []) start report → PhaseReports knows all report report' r →
    Leads (phase1 ∷ []) start report' r
continues knows all report' (Ok x) at text = record {
  messages = at.messages ++ text.messages;
  said = said_then _ _ _ at.messages text.messages at.said text.said;
  sections = longer phase1 [] at.messages text.messages at.sections;
}
continues knows all report' (Err (Read fault)) at text = record {
  messages = at.messages ++ text.messages;
  says = said_then _ _ _ at.messages text.messages at.said text.outcome;
  sections = longer phase1 [] at.messages text.messages at.sections;
}
continues knows all report' (Err (Out fault)) at text = record {
  messages = at.messages ++ text.messages;
  says = stopped_after _ _ _ at.messages text.messages at.said text.outcome;
  sections = longer phase1 [] at.messages text.messages at.sections;
}

-- the summary, which reads nothing, belongs to the last section
pub sums_up : {T : Type 0} {start report : Progress} (report' : Progress) (r : Result T RunFault)
    (later summary : List Message) →
    Headed (phase1 ∷ later) start report → ((image : Device) → ImageAfter image image r) →
    Says report report' summary r → Leads (phase1 ∷ later) start report' r
sums_up report' (Ok x) later summary at kept says = record {
  messages = at.messages ++ summary;
  said = said_then _ _ _ at.messages summary at.said says;
  sections = longer phase1 later at.messages summary at.sections;
}
sums_up report' (Err (Read fault)) later summary at kept says =
    let none : Device = record { contents = None; size = 0; failures = 0; failed_sector = 0; lent = [] } in
    absurd (let rose = (kept none).rose in omega arith)
sums_up report' (Err (Out fault)) later summary at kept says = record {
  messages = at.messages ++ summary;
  says = stopped_after _ _ _ at.messages summary at.said says;
  sections = first_alone phase1 later _ (longer phase1 later at.messages summary at.sections);
}

-- ---- by the answer of the phases, and by the end
-- all phases ran, or the check stops after the root
pub all_said : {start now : Progress} (root : Root) → root ≡ Go → Headed all_headings start now →
    SaysSections start now (Ok root)
all_said {start} {now} root e at = subst (λ (r : Root). SaysSections start now (Ok r)) (sym e)
    (record { messages = at.messages; says = at.said; sections = at.sections })

pub two_said : {start now : Progress} (root : Root) → root ≡ Stop → Headed (phase1 ∷ phase2 ∷ []) start now →
    SaysSections start now (Ok root)
two_said {start} {now} root e at = subst (λ (r : Root). SaysSections start now (Ok r)) (sym e)
    (record { messages = at.messages; says = at.said; sections = at.sections })

-- the messages after an opening went out in the sections of the headings that come before an end
abbrev pub HeadingsWentOut : Sink → Sink → End → Type 0
HeadingsWentOut old new end = IfSome (headings_before end) (TookSections [] old new)

-- the same, after the opening of some superblock
abbrev pub HeadingsOfCheck : List ℕ → Option ℕ → Sink → Sink → End → Type 0
HeadingsOfCheck name sector old new end = IfSome (headings_before end) (λ headings. (found : Superblock)
    × TookSections (opening_lines name sector (Ok found)) old new headings)

all_before : (defect : Bool) → headings_before (end_by true defect) ≡ Some all_headings
all_before true = refl
all_before false = refl

module _ (had_defect : Bool) (a b c : Progress) (end : End) where
  -- how the phases end
  pub sections_end : (r : Result Root RunFault) → SaysSections a b r → MakesEnd had_defect b c r end →
      HeadingsWentOut a.sink c.sink end
  sections_end (Ok Go) p e =
      subst (λ (x : Option (List Message)). IfSome x (TookSections [] a.sink c.sink))
      (sym (ap headings_before e.1 ∙ all_before (had_defect || b.defect)))
      (subst (λ (to : Progress). TookSections [] a.sink to.sink all_headings) (sym e.0)
      (record { messages = p.messages; took = p.says.took; sections = p.sections }))
  sections_end (Ok Stop) p e =
      subst (HeadingsWentOut a.sink c.sink) (sym e.1)
      (subst (λ (to : Progress). TookSections [] a.sink to.sink (phase1 ∷ phase2 ∷ [])) (sym e.0)
      (record { messages = p.messages; took = p.says.took; sections = p.sections }))
  sections_end (Err (Read fault)) p e = elim e [
    | inl said ↦ subst (HeadingsWentOut a.sink c.sink) (sym said.1) (record {
      messages = p.messages ++ (cannot_read fault.sector ∷ []);
      took = took_messages a.sink b.sink c.sink p.messages (cannot_read fault.sector ∷ []) p.says.took said.0.took;
      sections = longer phase1 [] p.messages (cannot_read fault.sector ∷ []) p.sections;
    })
    | inr stopped ↦ subst (HeadingsWentOut a.sink c.sink) (sym stopped.1) tt
  ]
  sections_end (Err (Out fault)) p e = subst (HeadingsWentOut a.sink c.sink) (sym e.1) tt
