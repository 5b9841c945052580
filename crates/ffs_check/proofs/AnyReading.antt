-- How often a check reads any image, from the phases to the whole.
use Rattle.std.proofs.Common.{◌≡◌, ◌≤◌, ◌+◌, ◌*◌, ◌∙◌, ℕ, Bool, false, Option, inl, inr, sym, ap, arith, List, [], ◌∷◌, ◌++◌}
use Rattle.std.proofs.{Common.{append-nil, append_assoc, length, length-append, Ok, Err, subst, Result}, Math.Nat.mul-le-mul_left}
use Rattle.ffs_image.specs.Device.{Device}
use Rattle.ffs_volume.specs.{declared.{Layout.Layout, End.End}, Messages.{Kinds.{Message, cannot_alloc, cannot_read}}}
use Rattle.ffs_volume.specs.{Messages.Texts.texts_of, Report.Reads.{line_reads, opening_reads, phase_reads, reads_limit}}
use Rattle.ffs_report.specs.{Sink.Took, Paid.Paid, Progress.{Progress, Said, Stopped}}
use Rattle.ffs_report.specs.declared.fault.RunFault.{RunFault, TheVariants.{Read, Out}}
use Rattle.ffs_report.proofs.{Reports.said_then, Sinks.took_nil}
use Rattle.ffs_pathnames.specs.declared.pass2.Root.{Root}
use Rattle.ffs_check.specs.{Moment.{Moment, ReportMoment, at_output}, Reads.ReadsByMessages}
use Rattle.ffs_check.{specs.AllPhases.{MakesEnd, SaysNoMemory}, proofs.EndLaws.{broke_off, took_messages}}

-- the price of each message, beside what the phases read for none
priced : (v : Layout) (n m before after : ℕ) → after ≤ before + phase_reads v 0 + (line_reads + 1) * n → n ≤ m →
    after ≤ before + phase_reads v m
priced v n m before after most few = grind (arith, mul-le-mul_left)

-- the phases have ended, and a read that failed is said
pub ended_reads : (v : Layout) (had_defect : Bool) (old new : ReportMoment) (b : Progress) (r : Result Root RunFault)
    (end : End) → old.report.failed ≡ false →
    Paid (line_reads + 1) old.report b (old.reads + phase_reads v 0) new.reads r → MakesEnd had_defect b new.report r end →
    ReadsByMessages (phase_reads v) (at_output old) (at_output new)
ended_reads v had_defect old new b (Ok root) end working p e = record {
  said = p.messages;
  last = [];
  few = omega arith;
  went_out = inl (rw (append-nil p.messages) (subst (λ (to : Progress). Took old.report.sink to.sink (texts_of p.messages))
      (sym (e.0 ∙ p.begun.1)) p.said.took));
  most = priced v _ _ old.reads new.reads p.most (rw (append-nil p.messages) (rw p.begun.0 (omega arith)));
}
ended_reads v had_defect old new b (Err (Read fault)) end working p e =
    let a = old.report in
    let line = cannot_read fault.sector in
    let said : Said a b p.messages = subst (λ to. Said a to p.messages) (sym p.begun) p.said in
    let long = length-append p.messages (line ∷ []) in
    record {
      said = p.messages;
      last = line ∷ [];
      few = omega arith;
      went_out = elim e [
        | inl whole ↦ inl (said_then a b new.report p.messages (line ∷ []) said whole.0).took
        | inr stopped ↦ inr (record {
          between = b.sink;
          went_out = said.took;
          broke_off = broke_off b new.report (line ∷ []) (said.failed ∙ working) stopped.0;
        })
      ];
      most = priced v _ _ old.reads new.reads p.most (omega (arith, p.few, long));
    }
ended_reads v had_defect old new b (Err (Out fault)) end working p e =
    let long = length-append p.messages p.last in
    record {
      said = p.messages;
      last = p.last;
      few = p.few;
      went_out = inr (record {
        between = p.between.sink;
        went_out = p.said.took;
        broke_off = broke_off p.between new.report p.last (p.said.failed ∙ working)
            (subst (λ to. Stopped p.between to p.last) (sym e.0) p.begun);
      });
      most = priced v _ _ old.reads new.reads p.most (omega (arith, long));
    }

-- the memory was refused, which was said, and nothing was read
pub unstarted_reads : (v : Layout) (image : Device) (reads : ℕ) (a b : Progress) (end : End) → a.failed ≡ false →
    SaysNoMemory a b end → ReadsByMessages (phase_reads v) (record { image = image; reads = reads; out = a.sink })
    (record { image = image; reads = reads; out = b.sink })
unstarted_reads v image reads a b end working e = record {
  said = [];
  last = cannot_alloc ∷ [];
  few = omega arith;
  went_out = elim e [
    | inl said ↦ inl said.0.took
    | inr stopped ↦ inr (record {
      between = a.sink;
      went_out = took_nil a.sink;
      broke_off = broke_off a b (cannot_alloc ∷ []) working stopped.0;
    })
  ];
  most = omega arith;
}

-- the opening was said, and then the phases
pub opened_reads : (sector : Option ℕ) (v : Layout) (a b c : Moment) (lines : List Message) →
    Took a.out b.out (texts_of lines) → b.reads ≤ a.reads + opening_reads sector →
    ReadsByMessages (phase_reads v) b c → ReadsByMessages (reads_limit sector v) a c
opened_reads sector v a b c lines went opened p =
    let all = append_assoc lines p.said p.last in
    let long = ap length all ∙ length-append lines (p.said ++ p.last) in
    record {
      said = lines ++ p.said;
      last = p.last;
      few = p.few;
      went_out = elim p.went_out [
        | inl whole ↦ inl (rw all (took_messages a.out b.out c.out lines (p.said ++ p.last) went whole))
        | inr part ↦ inr (record {
          between = part.between;
          went_out = took_messages a.out b.out part.between lines p.said went part.went_out;
          broke_off = part.broke_off;
        })
      ];
      most = omega (arith, long, opened, p.most);
    }
