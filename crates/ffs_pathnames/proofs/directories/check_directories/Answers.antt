use Rattle.std.proofs.Common.{◌+◌, ◌-◌, ◌*◌, ◌<◌, [], map, refl, sym, ap, subst, ◌≡◌, ◌∙◌, suc, arith, rules, Err, List}
use Rattle.std.proofs.Common.{ℕ, ◌≤◌, true}
use Rattle.ffs_volume.proofs.{Numbered.{as_many, from_next, from_end, count_next}, Results.fails_with}
use Rattle.ffs_volume.specs.{Messages.Kinds.{of_tree, lines_from}, Directories.PathnameCheck.directory_lines}
use Rattle.ffs_volume.specs.{Directories.Volumes.volume_of, Blocks.Inodes.inodes_of}
use Rattle.ffs_volume.specs.Costs.DirectoryReads.{directory_cost, noted_directories_cost, is_looked_at}
use Rattle.ffs_report.proofs.Reporting.{of_begins, of_same, of_part, of_fault, of_reads, said_knows, reports_knowing}
use Rattle.ffs_report.proofs.Paying.{paid_failed, paid_none, paid_then, paid_within}
use Rattle.ffs_workspace.proofs.Leaving.{claims_left, findings_claims, words_leave, survey_left}
use Rattle.ffs_pathnames.proofs.Findings.{findings_kept, findings_more, findings_noted}
use Rattle.ffs_pathnames.{specs.Before.{KnowsBeforeWithPlaces, KnowsBefore}, proofs.{Begun.image_same, Carrying.noted_reported}}
use Rattle.ffs_pathnames.{proofs.Skipping.{noted_before, unseen}, specs.ReadsLeft.KnowsForNext}
use Rattle.ffs_pathnames.proofs.{directories.check_directories.{Given.Over, Goals.After-check_if_needed}, ChecksNeededLaws.flags_kept}
use Rattle.ffs_pathnames.proofs.ChecksNeededLaws.{look_next, looked_at_next, places_noted}
use Rattle.ffs_survey.proofs.Costs.{cost_take, costs_rise}
use Rattle.ffs_names.proofs.{DirCosts.noted_all_within, Limits.costs_within}
use Rattle.ffs_pathnames.proofs.directories.check_directories.Goals as goal

-- what is known before an inode, and what is left suffices for it
next : (g : Over) (c : After-check_if_needed g) (b : List ℕ) → KnowsBefore c.args.geometry.now.layout
    (g.I.Image.device c.args.image.now).contents c.args.workspace.now 2 b →
    KnowsForNext c.args.geometry.now.layout (g.I.Image.device c.loop-number.image) c.loop-number.workspace
    c.loop-number.number c.loop-number.checking.reads_left b
next g c b k =
    let v = c.args.geometry.now.layout in
    let inv = c.loop-number.invariant in
    let n = c.loop-number.number in
    let taken = cost_take (λ s. true) (directory_cost v b) n refl in
    let rise = costs_rise (λ s. true) (directory_cost v b) (n + 1) (inodes_of v) (omega arith) in
    (noted_reported (ap (λ d. d.contents) inv.device) (inv.before b k), omega (arith, inv.left b k, taken, rise))

pub loop-number-init : goal.loop-number-init
loop-number-init g c =
    let v = c.args.geometry.now.layout in
    let first = c.first_to_check-first in
    let noted = c.in_ok-note_places.ensures in
    let all = λ (b : List ℕ). map of_tree (lines_from (directory_lines (volume_of v b)) 2 (inodes_of v - 2)) in
    let skipped = λ (b : List ℕ) (k : KnowsBefore v (g.I.Image.device c.args.image.now).contents c.args.workspace.now 2 b).
    unseen v _ _ b first.result (inodes_of v) c.args.geometry.now.sound first.ensures.range.0
    (omega (arith, first.ensures.range.1, c.inodes-count.ensures)) first.ensures.before k in
    record {
      ready = record { ready = noted.leaves.ready; kept_parent = c.none.ensures _ _ _ };
      device = noted.leaves.read;
      low = first.ensures.range.0;
      findings = findings_noted _ _ noted.leaves.lists;
      reads = λ b k.
          let made : g.I.Image.reads c.note_places.new.image ≤ g.I.Image.reads c.args.image.now + noted_directories_cost v b =
          c.note_places.ensures.reads.each b (k.gives_bytes, k.block_check, k.survey) in
          rw (as_many (lines_from (directory_lines (volume_of v b)) 2 (inodes_of v - 2))
          (lines_from (directory_lines (volume_of v b)) first.result (inodes_of v - first.result)) (skipped b k).1)
          (omega (arith, made, noted_all_within v b (v.ncg * v.ipg)));
      checks = λ b k checks. looked_at_next v b c.args.workspace.now c.note_places.new.workspace
          (words_leave c.args.workspace.now c.note_places.new.workspace noted.leaves.lists)
          (flags_kept c.args.workspace.now c.note_places.new.workspace noted.leaves.lists) checks;
      looks = λ b k checks.
          let made : g.I.Image.reads c.note_places.new.image ≤ g.I.Image.reads c.args.image.now + noted_directories_cost v b =
          c.note_places.ensures.reads.each b (k.gives_bytes, k.block_check, k.survey) in
          let below : first.result < inodes_of v = omega (arith, first.ensures.range.1, c.inodes-count.ensures) in
          let places = places_noted v b c.args.workspace.now first.result checks below
          (first.ensures.found (omega (arith, below, c.inodes-count.ensures))) in
          rw (as_many (lines_from (directory_lines (volume_of v b)) 2 (inodes_of v - 2))
          (lines_from (directory_lines (volume_of v b)) first.result (inodes_of v - first.result)) (skipped b k).1)
          (omega (arith, made, places));
      left = λ b k.
          let within = costs_within v b c.args.geometry.now.sound in
          omega (arith, within, c.sweep_reads.ensures);
      paid = paid_none (omega (arith, noted.reads.most, c.sweep_reads.ensures));
      before = λ b k. record {
        before = noted_before v _ _ _ _ first.result b first.ensures.range.0 refl noted.leaves.lists noted.leaves.ready.ready.made
            (noted.places b (k.gives_bytes, k.block_check, k.survey)).survey noted.leaves.none_due (skipped b k).0;
        noted = (noted.places b (k.gives_bytes, k.block_check, k.survey)).noted;
      };
      said = of_same {rest = all} (of_begins {all = all}) (λ b k. (skipped b k).1);
    }

pub loop-number-preserved : goal.loop-number-preserved
loop-number-preserved g c =
    let at = (goal.at.loop-number-preserved g c).After-check_if_needed in
    let v = c.args.geometry.now.layout in
    let inv = c.loop-number.invariant in
    let n = c.loop-number.number in
    let ok = c.in_ok-check_if_needed.ensures.lines in
    let q : suc n ≡ n + 1 = omega arith in
    record {
      ready = ok.leaves.ready;
      device = search rules;
      low = omega arith;
      findings = findings_more _ _ _ inv.findings ok.leaves.survey.findings;
      reads = λ b k.
          let taken = cost_take (λ s. true) (directory_cost v b) n refl in
          let here = ok.reads b (next g at b k) ((inv.before b k).noted) in
          let long = count_next (directory_lines (volume_of v b)) n (inodes_of v) (omega arith) in
          omega (arith, taken, here, long, inv.reads b k);
      checks = λ b k checks. looked_at_next v b c.loop-number.workspace c.check_if_needed.new.workspace
          ok.leaves.survey.findings.block_check (ok.holds b (next g at b k)).1 (inv.checks b k checks);
      looks = λ b k checks.
          let here = ok.reads b (next g at b k) ((inv.before b k).noted) in
          let long = count_next (directory_lines (volume_of v b)) n (inodes_of v) (omega arith) in
          let one = look_next v b c.loop-number.workspace n _ _ _ (inv.checks b k checks)
          c.in_ok-check_if_needed.ensures.skipped here in
          omega (arith, one, long, inv.looks b k checks);
      left = λ b k.
          let taken = cost_take (λ s. true) (directory_cost v b) n refl in
          let kept = ok.spends b (next g at b k) in
          omega (arith, inv.left b k, taken, kept);
      paid = paid_then inv.paid ok.paid;
      before = λ b k. subst (λ d. KnowsBeforeWithPlaces v (g.I.Image.device c.args.image.now).contents c.check_if_needed.new.workspace d
          b) q
          (noted_reported (sym (ap (λ d. d.contents) inv.device)) (ok.holds b (next g at b k)).0);
      said = of_part inv.said
          (λ b k. from_next (directory_lines (volume_of v b)) n (inodes_of v) (omega arith))
          (said_knows (next g at) ok.text);
    }

-- what is said, what is read for it, and what is left
pub returns-then-first-count-clause-tree : goal.returns-then-first-count-clause-tree
returns-then-first-count-clause-tree g c =
    let v = c.args.geometry.now.layout in
    let first = c.first_to_check-first in
    let all = λ (b : List ℕ). map of_tree (lines_from (directory_lines (volume_of v b)) 2 (inodes_of v - 2)) in
    record {
      text = of_same {rest = all} {rest' = λ b. []} (of_begins {all = all})
          (λ b k. (unseen v _ _ b first.result (inodes_of v) c.args.geometry.now.sound first.ensures.range.0
          (omega (arith, first.ensures.range.1, c.inodes-count.ensures)) first.ensures.before k).1
          ∙ from_end (directory_lines (volume_of v b)) first.result (inodes_of v) (omega arith));
      reads = λ b k. omega arith;
      looks = λ b k checks. omega arith;
      paid = paid_none (omega arith);
      image = refl;
      holds = λ b k. (k.block_check, k.survey);
      findings = findings_kept _;
      ready = c.requires;
    }

pub returns-in_err-note_places-clause-tree : goal.returns-in_err-note_places-clause-tree
returns-in_err-note_places-clause-tree g c =
    let v = c.args.geometry.now.layout in
    let noted = c.in_err-note_places.ensures in
    rw (fails_with _ c.from_residual.ensures.1) (record {
      text = of_reads of_begins;
      reads = λ b k.
          let within = noted_all_within v b (v.ncg * v.ipg) in
          omega (arith, noted.reads.each b (k.gives_bytes, k.block_check, k.survey), within);
      looks = λ b k checks.
          let first = c.first_to_check-first in
          let below : first.result < inodes_of v = omega (arith, first.ensures.range.1, c.inodes-count.ensures) in
          let places = places_noted v b c.args.workspace.now first.result checks below
          (first.ensures.found (omega (arith, below, c.inodes-count.ensures))) in
          omega (arith, noted.reads.each b (k.gives_bytes, k.block_check, k.survey), places);
      paid = paid_failed (omega (arith, noted.reads.most));
      image = noted.leaves.read;
      holds = λ b k. (
        findings_claims v b _ _ (findings_noted _ _ noted.leaves.lists) k.block_check,
        noted.still b (k.gives_bytes, k.block_check, k.survey),
      );
      findings = findings_noted _ _ noted.leaves.lists;
      ready = noted.leaves.ready;
    })

pub returns-in_err-check_if_needed-clause-tree : goal.returns-in_err-check_if_needed-clause-tree
returns-in_err-check_if_needed-clause-tree g c =
    let at = (goal.at.returns-in_err-check_if_needed-clause-tree g c).After-check_if_needed in
    let v = c.args.geometry.now.layout in
    let inv = c.loop-number.invariant in
    let n = c.loop-number.number in
    let said = c.in_err-check_if_needed.ensures.lines in
    rw (fails_with _ c.from_residual-in_err-check_if_needed.ensures.1) (record {
      text = of_fault (Unit {0}) (Unit {0}) _ _ _ _ _ _ _ _ c.in_err-check_if_needed.field-0.0 inv.said
          (λ b k. from_next (directory_lines (volume_of v b)) n (inodes_of v) (omega arith))
          (reports_knowing (Unit {0}) _ _ _ _ _ (Err c.in_err-check_if_needed.field-0.0) (next g at) said.text);
      reads = λ b k.
          let here = said.reads b (next g at b k) ((inv.before b k).noted) in
          let long = count_next (directory_lines (volume_of v b)) n (inodes_of v) (omega arith) in
          let taken = cost_take (λ s. true) (directory_cost v b) n refl in
          let rise = costs_rise (λ s. true) (directory_cost v b) (n + 1) (inodes_of v) (omega arith) in
          omega (arith, here, long, taken, rise, inv.reads b k);
      looks = λ b k checks.
          let here = said.reads b (next g at b k) ((inv.before b k).noted) in
          let long = count_next (directory_lines (volume_of v b)) n (inodes_of v) (omega arith) in
          let one = look_next v b c.loop-number.workspace n _ _ _ (inv.checks b k checks)
          c.in_err-check_if_needed.ensures.skipped here in
          let rise = costs_rise (is_looked_at v b) (directory_cost v b) (n + 1) (inodes_of v) (omega arith) in
          omega (arith, one, long, rise, inv.looks b k checks);
      paid = paid_within (paid_then inv.paid said.paid) (omega arith) (omega arith);
      image = image_same (Unit {0}) (Unit {0}) _ _ _ c.in_err-check_if_needed.field-0.0 inv.device said.leaves.image;
      holds = λ b k.
          let now = (inv.before b k).before in
          (claims_left v b _ _ said.leaves.survey now.block_check, survey_left v b _ _ said.leaves.survey now.survey);
      findings = findings_more _ _ _ inv.findings said.leaves.survey.findings;
      ready = said.leaves.ready;
    })

pub returns-clause-tree : goal.returns-clause-tree
returns-clause-tree g c =
    let v = c.args.geometry.now.layout in
    let inv = c.loop-number.invariant in
    record {
      text = of_same {rest' = λ b. []} inv.said
          (λ b k. from_end (directory_lines (volume_of v b)) c.loop-number.number (inodes_of v) (omega arith));
      reads = λ b k.
          let rise = costs_rise (λ s. true) (directory_cost v b) c.loop-number.number (inodes_of v) (omega arith) in
          omega (arith, rise, inv.reads b k);
      looks = λ b k checks.
          let rise = costs_rise (is_looked_at v b) (directory_cost v b) c.loop-number.number (inodes_of v) (omega arith) in
          omega (arith, rise, inv.looks b k checks);
      paid = paid_within inv.paid (omega arith) (omega arith);
      image = inv.device;
      holds = λ b k. let now = (inv.before b k).before in (now.block_check, now.survey);
      findings = inv.findings;
      ready = inv.ready.ready;
    }
