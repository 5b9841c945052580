use Rattle.std.proofs.Common.{refl, ap, ◌∙◌, ◌≡◌, ◌∷◌, arith, ℕ, List, [], map, Err}
use Rattle.ffs_volume.{specs.{Directories.Volumes.volume_of, Messages.Kinds.of_tree}, proofs.Results.fails_with}
use Rattle.ffs_layout.specs.Entry.{entry_value}
use Rattle.ffs_report.proofs.Reporting.{of_begins, of_same, of_part, of_fault, said_knows, reports_knowing}
use Rattle.ffs_report.proofs.Paying.{paid_none, paid_then}
use Rattle.ffs_pathnames.specs.{PassedNames.{after_entries, entries_reported}, Sees.passed_of, KnowsAtDirectory.KnowsAtDirectory}
use Rattle.ffs_pathnames.{specs.KnowsAtDirectory.KnowsPath, proofs.{ReadyLaws.leaves_after, StampLaws.keep_more}}
use Rattle.ffs_pathnames.proofs.{StampLaws.noted_kept, Passing.{knows_on, entry_reported, entry_passed}}
use Rattle.ffs_pathnames.proofs.LineCounts.{entry_counted, has_begun, read_all, read_more}
use Rattle.ffs_pathnames.proofs.entries.report_chunk.{Given.Over, Goals.After-role_of}
use Rattle.ffs_workspace.proofs.Leaving.{leaves_all, leaves_more}
use Rattle.ffs_names.{proofs.Stepping.{roled_end, roled_on}, specs.EntriesToCome.roled_to_come}
use Rattle.ffs_pathnames.proofs.entries.report_chunk.Goals as goal

-- the next entry, and those after it
next : (g : Over) (c : After-role_of g) → let first = c.args.chunk.now.at_start in
    roled_to_come first c.entries.entries
    ≡ record { role = c.role_of.result; entry = entry_value c.in-Some.entry } ∷ roled_to_come first c.next.new.self
next g c = roled_on c.args.chunk.now.at_start c.role_of.result c.in-Some.ensures.steps c.role_of.ensures

-- what is known there
know : (g : Over) (c : After-role_of g) (b : List ℕ) →
    KnowsAtDirectory c.args.geometry.now.layout (g.I.Image.device c.args.image.now).contents c.args.workspace.now
    c.args.chunk.now.dir b →
    KnowsAtDirectory c.args.geometry.now.layout (g.I.Image.device c.entries.image).contents c.entries.workspace
    c.args.chunk.now.dir b
know g c b k =
    let inv = c.entries.invariant in
    knows_on _ _ _ c.args.workspace.now c.entries.workspace _ b (ap (λ d. d.contents) inv.device)
    inv.survey inv.places k

know_path : (g : Over) (c : After-role_of g) (b : List ℕ) →
    KnowsPath c.args.geometry.now.layout (g.I.Image.device c.args.image.now).contents c.args.workspace.now
    c.args.chunk.now.dir c.args.texts.now b →
    KnowsPath c.args.geometry.now.layout (g.I.Image.device c.entries.image).contents c.entries.workspace
    c.args.chunk.now.dir c.entries.texts b
know_path g c b k = record { knows = know g c b k.knows; path = c.entries.invariant.path b k }

pub entries-init : goal.entries-init
entries-init g c = let all = c.of_chunk-entries.ensures in rw (all.0, all.1, all.2, all.3) (record {
  ready = record { ready = c.requires.ready; kept_parent = c.requires.kept_parent };
  device = refl;
  survey = leaves_all _;
  places = λ x. refl;
  current = refl;
  path = λ b k. k.path;
  settled = λ settled. settled;
  once = λ b k noted. omega arith;
  passed = λ b k. refl;
  said = of_begins;
  counted = λ b k noted. has_begun _ _ _;
  paid = paid_none (omega arith);
})

pub returns-in_err-report_entry : goal.returns-in_err-report_entry
returns-in_err-report_entry g c =
    let at = (goal.at.returns-in_err-report_entry g c).After-role_of in
    let v = c.args.geometry.now.layout in
    let x = c.args.chunk.now in
    let m = passed_of c.entries.workspace in
    let inv = c.entries.invariant in
    let lines = c.in_err-report_entry.ensures.lines in
    rw (fails_with _ c.from_residual.ensures.1) (record {
      lines = record {
        text = of_fault (Unit {0}) (Unit {0}) _ _ _ _ _ _ _ _ c.in_err-report_entry.field-0.0 inv.said
            (λ b k. entry_reported (volume_of v b) x.dir m _ _ _ (next g at) refl)
            (reports_knowing (Unit {0}) _ _ _ _ _ (Err c.in_err-report_entry.field-0.0) (know_path g at) lines.text);
        path = λ b k. lines.path b (know_path g at b k);
        settled = λ settled. lines.settled (inv.settled settled);
        once = λ b k noted.
            let here = lines.once b (know g at b k) (noted_kept v b _ _ inv.places noted) in
            let long = entry_counted (volume_of v b) x.dir m _ _ _ (next g at) refl in
            omega (arith, inv.once b k noted, here, long);
        counted = λ b k noted. read_all (read_more _ _ (inv.counted b k noted)
            (entry_counted (volume_of v b) x.dir m _ _ _ (next g at) refl)
            (lines.counted b (know g at b k) (noted_kept v b _ _ inv.places noted)));
        paid = paid_then inv.paid lines.paid;
      };
      passed = tt;
      leaves = leaves_after inv.device inv.survey inv.places c.in_err-report_entry.ensures.leaves;
      current = c.in_err-report_entry.ensures.current ∙ inv.current;
    })

pub entries-preserved : goal.entries-preserved
entries-preserved g c =
    let at = (goal.at.entries-preserved g c).After-role_of in
    let v = c.args.geometry.now.layout in
    let x = c.args.chunk.now in
    let m = passed_of c.entries.workspace in
    let inv = c.entries.invariant in
    let ok = c.in_ok-report_entry.ensures in
    record {
      ready = ok.leaves.ready;
      device = ok.leaves.image ∙ inv.device;
      survey = leaves_more inv.survey ok.leaves.survey;
      places = keep_more _ _ _ inv.places ok.leaves.places;
      current = ok.current ∙ inv.current;
      path = λ b k. ok.lines.path b (know_path g at b k);
      settled = λ settled. ok.lines.settled (inv.settled settled);
      once = λ b k noted.
          let here = ok.lines.once b (know g at b k) (noted_kept v b _ _ inv.places noted) in
          let long = entry_counted (volume_of v b) x.dir m _ _ _ (next g at) (ok.passed b (know g at b k)) in
          omega (arith, inv.once b k noted, here, long);
      passed = λ b k. entry_passed (volume_of v b) x.dir m (next g at) (ok.passed b (know g at b k)) (inv.passed b k);
      said = of_part inv.said
          (λ b k. entry_reported (volume_of v b) x.dir m _ _ _ (next g at) (ok.passed b (know g at b k.knows)))
          (said_knows (know_path g at) ok.lines.text);
      counted = λ b k noted. read_more _ _ (inv.counted b k noted)
          (entry_counted (volume_of v b) x.dir m _ _ _ (next g at) (ok.passed b (know g at b k)))
          (ok.lines.counted b (know g at b k) (noted_kept v b _ _ inv.places noted));
      paid = paid_then inv.paid ok.lines.paid;
    }

pub returns : goal.returns
returns g c =
    let v = c.args.geometry.now.layout in
    let x = c.args.chunk.now in
    let m = passed_of c.entries.workspace in
    let inv = c.entries.invariant in
    let end = roled_end x.at_start c.entries.entries c.in_default.ensures.steps.0 in
    record {
      lines = record {
        text = of_same {rest' = λ b. []} inv.said
            (λ b k. ap (λ es. map of_tree (entries_reported (volume_of v b) x.dir m es)) end);
        path = inv.path;
        settled = inv.settled;
        once = λ b k noted. omega (arith, inv.once b k noted);
        counted = λ b k noted. read_all (inv.counted b k noted);
        paid = inv.paid;
      };
      passed = λ b k. inv.passed b k ∙ ap (after_entries (volume_of v b) x.dir m) end;
      leaves = record { image = inv.device; survey = inv.survey; places = inv.places; ready = inv.ready };
      current = inv.current;
    }
