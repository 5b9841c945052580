-- How what the phases answered is reported, and how a check so ends.
use Rattle.std.proofs.Common.{arith, IfOk, ◌≡◌, inl, inr, refl, ◌∙◌, sym, ap, subst, ℕ, Bool, false, true, not, ◌&&◌}
use Rattle.std.proofs.Common.{◌||◌, ◌++◌, ◌<◌, length, append-nil, List, [], Option, Some, None, Result, Ok, Err}
use Rattle.std.proofs.Math.Bool.{or_assoc}
use Rattle.ffs_image.specs.{Device.Faulted, Known.{ForBytes, IsContents}}
use Rattle.ffs_volume.specs.{declared.End.{End, TheVariants.{ReadFault, WriteFault}}, Disk.Superblock.Superblock}
use Rattle.ffs_volume.specs.Messages.{Kinds.{Message, cannot_read, has_defect, is_defect, unless}, Texts.texts_of}
use Rattle.ffs_volume.specs.Report.Opening.{has_valid_minfree, has_valid_optim, setting_lines, super_lines}
use Rattle.ffs_volume.specs.{Directories.{PathnameCheck.continues_after_root, Volumes.volume_of}, Report.Whole.end_by}
use Rattle.ffs_volume.specs.Report.Whole.{phase_lines}
use Rattle.ffs_report.specs.{PhaseOutcome.ImageAfter, Progress.{Progress, Said, Stopped}, Sink.Took}
use Rattle.ffs_report.{proofs.Reports.has_defect-append, specs.declared.fault.RunFault.{RunFault, TheVariants.Read}}
use Rattle.ffs_report.specs.declared.fault.RunFault.TheVariants.{Out}
use Rattle.ffs_pathnames.specs.{declared.pass2.Root.Root, RootAnswers.is_go}
use Rattle.ffs_check.specs.{Moment.{Moment, ReportMoment, at_output}, Opening.IsWorkingAfter, AllPhases.MakesEnd}
use Rattle.ffs_check.{specs.AllPhases.{EndsAfterPhases, ReportsAllPhases, SaysReadFault}, proofs.EndLaws.broke_more}
use Rattle.ffs_check.proofs.EndLaws.{broke_off, ends_known, line_after}

-- what an image's bytes determine, and nothing for an image that doesn't give them
abbrev pub at_contents : Option (List ℕ) → (List ℕ → List Message) → List Message
at_contents None lines = []
at_contents (Some bytes) lines = lines bytes

pub at_known : (contents : Option (List ℕ)) (lines : List ℕ → List Message) (bytes : List ℕ) →
    contents ≡ Some bytes → at_contents contents lines ≡ lines bytes
at_known contents lines bytes e = rw e refl

module _ (had_defect : Bool) (knows : List ℕ → Type 0) (s : Superblock) (old new : ReportMoment) (b : Progress)
    (gives : ForBytes knows (IsContents old.image.contents))
    (begun : IsWorkingAfter (super_lines s) had_defect old.report) (end : End) where
  -- what was said and the rest, as the image's bytes determine it
  right_with : (prefix : List Message) (rest : List ℕ → List Message) →
      ForBytes knows (λ bytes. prefix ++ rest bytes ≡ phase_lines bytes s) →
      ForBytes knows (λ bytes. prefix ++ at_contents old.image.contents rest ≡ phase_lines bytes s)
  right_with prefix rest right bytes k =
      ap (λ more. prefix ++ more) (at_known old.image.contents rest bytes (gives bytes k)) ∙ right bytes k

  -- the defects that are reported then
  defect_so : (messages : List Message) → Said old.report b messages →
      (had_defect || b.defect) ≡ has_defect (super_lines s ++ messages)
  defect_so messages said = ap (λ d. had_defect || d) said.defect
      ∙ sym (or_assoc had_defect old.report.defect (has_defect messages))
      ∙ ap (λ d. d || has_defect messages) begun.defect ∙ sym (has_defect-append (super_lines s) messages)

  -- all was said
  whole : (root : Root) → ReportsAllPhases knows (λ bytes. phase_lines bytes s) old.report b (Ok root) →
      new.image ≡ old.image →
      ForBytes knows (λ bytes. is_go root ≡ continues_after_root (volume_of s.layout bytes)) →
      MakesEnd had_defect b new.report (Ok root) end → EndsAfterPhases knows s (at_output old) (at_output new) end
  whole root p none_failed by_root e = record {
    text = p.said.messages;
    right = λ bytes k. sym (append-nil p.said.messages) ∙ p.said.right bytes k;
    ends = inl (record {
      image = none_failed;
      ends = inl (
        subst (λ (to : Progress). Took old.report.sink to.sink (texts_of p.said.messages)) (sym e.0) p.said.said.took,
        record {
          continued = is_go root;
          by_root = by_root;
          last = p.last;
          end_is = e.1 ∙ ap (end_by (is_go root)) (defect_so p.said.messages p.said.said);
        },
      );
    });
  }

  -- a read failed
  cut : (sector : ℕ) (prefix : List Message) (rest : List ℕ → List Message) →
      ForBytes knows (λ bytes. prefix ++ rest bytes ≡ phase_lines bytes s) →
      ForBytes knows (λ bytes. 0 < length (rest bytes)) → Said old.report b prefix →
      Faulted old.image new.image sector → SaysReadFault b new.report sector end →
      EndsAfterPhases knows s (at_output old) (at_output new) end
  cut sector prefix rest right more said f reported = record {
    text = prefix ++ at_contents old.image.contents rest;
    right = right_with prefix rest right;
    ends = inr (record {
      cut = record { said = prefix; line = cannot_read sector; end = ReadFault sector };
      is_cut = record {
        sector = sector;
        faulted = f;
        rest = at_contents old.image.contents rest;
        makes_text = refl;
        more = λ bytes k. rw (at_known old.image.contents rest bytes (gives bytes k)) (more bytes k);
        line_is = refl;
        end_is = refl;
      };
      ends = line_after old.report.sink b new.report prefix (cannot_read sector) (ReadFault sector) end said.took
          (said.failed ∙ begun.working) reported;
    });
  }

  -- the output failed
  part : (prefix : List Message) (rest : List ℕ → List Message) →
      ForBytes knows (λ bytes. prefix ++ rest bytes ≡ phase_lines bytes s) → Stopped old.report b prefix →
      new.image ≡ old.image → new.report ≡ b → end ≡ WriteFault →
      EndsAfterPhases knows s (at_output old) (at_output new) end
  part prefix rest right stopped none_failed same e = record {
    text = prefix ++ at_contents old.image.contents rest;
    right = right_with prefix rest right;
    ends = inl (record {
      image = none_failed;
      ends = inr (
        broke_more old.report.sink new.report.sink prefix (at_contents old.image.contents rest)
            (broke_off old.report new.report prefix begun.working
            (subst (λ to. Stopped old.report to prefix) (sym same) stopped)),
        e,
      );
    });
  }

  pub ran : (r : Result Root RunFault) → ReportsAllPhases knows (λ bytes. phase_lines bytes s) old.report b r →
      ImageAfter old.image new.image r →
      IfOk r (λ root. ForBytes knows (λ bytes. is_go root ≡ continues_after_root (volume_of s.layout bytes))) →
      MakesEnd had_defect b new.report r end → EndsAfterPhases knows s (at_output old) (at_output new) end
  ran (Ok root) p none_failed by_root e = whole root p none_failed by_root e
  ran (Err (Read fault)) p f by_root e =
      cut fault.sector p.prefix.messages p.rest p.prefix.right p.more p.prefix.said f e
  ran (Err (Out fault)) p none_failed by_root e = part p.messages p.rest p.right p.outcome none_failed e.0 e.1

-- the report has its output still
pub same_output : (knows : List ℕ → Type 0) (all : List ℕ → List Message) (had_defect : Bool) (a b c : Progress)
    (r : Result Root RunFault) (end : End) → ReportsAllPhases knows all a b r → MakesEnd had_defect b c r end →
    c.output ≡ a.output
same_output knows all had_defect a b c (Ok root) end p e = ap (λ (x : Progress). x.output) e.0 ∙ p.said.said.output
same_output knows all had_defect a b c (Err (Read fault)) end p e = elim e [
  | inl said ↦ said.0.output ∙ p.prefix.said.output
  | inr stopped ↦ stopped.0.output ∙ p.prefix.said.output
]
same_output knows all had_defect a b c (Err (Out fault)) end p e =
    ap (λ (x : Progress). x.output) e.0 ∙ p.outcome.output

-- how the phases end is known where more is known
pub ran_known : (knows known : List ℕ → Type 0) (s : Superblock) (old new : Moment) (end : End) → ForBytes knows known →
    EndsAfterPhases known s old new end → EndsAfterPhases knows s old new end
ran_known knows known s old new end more ran = record {
  text = ran.text;
  right = λ bytes k. ran.right bytes (more bytes k);
  ends = ends_known
      (λ e. record {
        continued = e.continued;
        by_root = λ bytes k. e.by_root bytes (more bytes k);
        last = e.last;
        end_is = e.end_is;
      })
      (λ cut c. record {
        sector = c.sector;
        faulted = c.faulted;
        rest = c.rest;
        makes_text = c.makes_text;
        more = λ bytes k. c.more bytes (more bytes k);
        line_is = c.line_is;
        end_is = c.end_is;
      })
      ran.ends;
}

-- the settings of an accepted superblock report a defect where one of them isn't what it may be
settings_defect : (a b : Bool) (x y : Message) → is_defect x ≡ true → is_defect y ≡ true → (xs : List Message) →
    has_defect xs ≡ false →
    not (a && b) ≡ has_defect ((unless a x ++ unless b y) ++ xs)
settings_defect a b x y dx dy xs e = grind arith

pub opening_defect : (s : Superblock) → not (has_valid_optim s && has_valid_minfree s) ≡ has_defect (super_lines s)
unfolding setting_lines
opening_defect s = grind (arith, settings_defect)
