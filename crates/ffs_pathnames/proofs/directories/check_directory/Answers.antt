use Rattle.std.proofs.Common.{◌≡◌, true, refl, sym, ap, ◌∙◌, ℕ, List, Err, length, arith}
use Rattle.std.proofs.{lemmas.{Bool.both_ways, Result.IfOk-weaker}, Math.Nat.mul-le-mul_left}
use Rattle.ffs_image.specs.Device.{Device}
use Rattle.ffs_volume.specs.{declared.Layout.Layout, Report.Reads.line_reads, Directories.PathnameCheck.sized_dir_lines}
use Rattle.ffs_volume.specs.Directories.{PathnameCheck.dir_header_lines, Roles.roled_entries, Volumes.volume_of}
use Rattle.ffs_volume.{specs.Costs.DirectoryReads.{directory_cost, directory_runs}, proofs.Results.fails_with}
use Rattle.ffs_report.proofs.Reporting.{of_begins, of_part, of_fault, of_last}
use Rattle.ffs_report.proofs.{Reporting.{said_knows, reports_knowing}, Paying.{paid_answer, paid_fault, paid_then}}
use Rattle.ffs_workspace.specs.declared.workspace.Workspace.{Workspace}
use Rattle.ffs_pathnames.specs.{declared.look.FirstLook.FirstLook, PassedNames.PassedNames}
use Rattle.ffs_pathnames.specs.Sees.{passed_of}
use Rattle.ffs_pathnames.{specs.PassedNames.{entries_reported, is_flagged}, proofs.Begun.{image_same, said_same}}
use Rattle.ffs_pathnames.proofs.Begun.{directory_is, lines_parts, quiet_parts, reported_parts, quiet_after}
use Rattle.ffs_pathnames.proofs.{Begun.{reported_after, starts_within}, Passing.knows_on, ReadyLaws.leaves_after}
use Rattle.ffs_pathnames.proofs.{StampLaws.noted_kept, LineCounts.{checked_twice, lines_long}}
use Rattle.ffs_pathnames.{proofs.ChecksNeededLaws.flags_after, specs.ReadsLeft.{KnowsForBoth, KnowsForLook, KnowsForRuns}}
use Rattle.ffs_pathnames.proofs.directories.check_directory.{Given.Over, Goals.{After-begin_directory, After-report_entries}}
use Rattle.ffs_names.proofs.DirCosts.{cost_is as cost_of_dir}
use Rattle.ffs_pathnames.proofs.directories.check_directory.Goals as goal

abbrev Known : (g : Over) → After-begin_directory g → List ℕ → Type 0
Known g c = KnowsForBoth c.args.geometry.now.layout (g.I.Image.device c.args.image.now) c.args.workspace.now c.args.dir
    c.args.checking.now.reads_left

-- what is left suffices for the first look
first : {v : Layout} {d : Device} {w : Workspace} {x left : ℕ} {b : List ℕ} → KnowsForBoth v d w x left b →
    KnowsForLook v d w x left b
first k = (k.knows, omega (arith, k.enough))

-- and what it leaves for the second
second : (g : Over) (c : After-report_entries g) (b : List ℕ) →
    KnowsForBoth c.args.geometry.now.layout (g.I.Image.device c.args.image.now) c.args.workspace.now c.args.dir
    c.args.checking.now.reads_left b →
    KnowsForRuns c.args.geometry.now.layout (g.I.Image.device c.begin_directory.new.image)
    c.begin_directory.new.workspace (record { number = c.args.dir; inode = c.in_ok-looked.looked.inode })
    c.begin_directory.new.checking.reads_left b
second g c b k =
    let v = c.args.geometry.now.layout in
    let kept = c.begin_directory.ensures.spends b (first k) in
    let left = c.in_ok-looked.ensures.leaves in (
      (
        knows_on v _ _ c.args.workspace.now c.begin_directory.new.workspace c.args.dir b
            (ap (λ d. d.contents) left.image) left.survey left.places k.knows,
        (c.in_ok-looked.ensures.holds b (first k)).inode,
      ),
      omega (arith, k.enough, kept, cost_of_dir v b c.args.dir k.knows.dir),
    )

pub report_entries-requires : goal.report_entries-requires
report_entries-requires g c = grind arith

pub returns-in_err-looked-clause-lines : goal.returns-in_err-looked-clause-lines
returns-in_err-looked-clause-lines g c =
    let at = (goal.at.returns-in_err-looked-clause-lines g c).After-begin_directory in
    let begun = c.in_err-looked.ensures in
    let left = begun.leaves in
    rw (fails_with _ c.from_residual.ensures.1) (record {
      text = of_fault FirstLook (Unit {0}) _ _ _ _ _ _ _ _ c.in_err-looked.field-0.0 of_begins
          (λ b k. lines_parts (volume_of c.args.geometry.now.layout b) c.args.dir _ refl)
          (reports_knowing FirstLook _ _ _ _ _ (Err c.in_err-looked.field-0.0) (λ b k. first k) begun.text);
      reads = λ b k noted.
          let within = mul-le-mul_left line_reads (starts_within (volume_of c.args.geometry.now.layout b) c.args.dir) in
          omega (arith, begun.reads b (first k) noted, within);
      spends = λ b k. omega (arith, begun.spends b (first k));
      paid = paid_fault c.in_err-looked.field-0.0 begun.paid;
      holds = tt;
      leaves = record {
        image = image_same FirstLook (Unit {0}) _ _ _ c.in_err-looked.field-0.0 refl left.image;
        survey = left.survey;
        places = left.places;
        ready = left.ready;
      };
    })

pub returns-then-looked-clause-lines : goal.returns-then-looked-clause-lines
returns-then-looked-clause-lines g c =
    let at = (goal.at.returns-then-looked-clause-lines g c).After-begin_directory in
    let v = c.args.geometry.now.layout in
    let m = passed_of c.args.workspace.now in
    let begun = c.in_ok-looked.ensures in
    let left = begun.leaves in
    let quiet = λ (b : List ℕ) (k : Known g at b). sym (begun.holds b (first k)).quiet ∙ c.if-looked.true in
    record {
      text = said_same _ _ _ _ _ _ (λ b k. first k)
          (λ b k. quiet_parts (volume_of v b) c.args.dir m
          (directory_is (volume_of v b) c.args.dir c.requires.low k.knows.dir) k.passed (quiet b k)) begun.text;
      reads = λ b k noted.
          let within = mul-le-mul_left line_reads (starts_within (volume_of v b) c.args.dir) in
          omega (arith, begun.reads b (first k) noted, within);
      spends = λ b k. omega (arith, begun.spends b (first k));
      paid = paid_answer begun.paid;
      holds = λ b k. (
        quiet_after (volume_of v b) c.args.dir m _ k.passed (quiet b k) (begun.holds b (first k)).passed,
        λ x set. rw (ap (λ (n : PassedNames). n.flags) (begun.holds b (first k)).passed) set,
      );
      leaves = record { image = left.image; survey = left.survey; places = left.places; ready = left.ready };
    }

pub returns-clause-lines : goal.returns-clause-lines
returns-clause-lines g c =
    let at = goal.at.returns-clause-lines g c in
    let v = c.args.geometry.now.layout in
    let before = passed_of c.args.workspace.now in
    let m = passed_of c.begin_directory.new.workspace in
    let one = c.in_ok-looked.ensures in
    let two = c.report_entries.ensures.lines in
    let second_of = second g at.After-report_entries in
    let dir = λ (b : List ℕ) (k : Known g at.After-begin_directory b).
    directory_is (volume_of v b) c.args.dir c.requires.low k.knows.dir in
    let parts = λ (b : List ℕ) (k : Known g at.After-begin_directory b).
    reported_parts (volume_of v b) c.args.dir before m (dir b k) k.passed (one.holds b (first k)).passed in
    record {
      text = of_last _ _ _ _ _ _ _ _ c.report_entries.result
          (of_part of_begins parts (said_knows (λ b k. first k) one.text))
          (λ b k. refl) (reports_knowing _ _ _ _ _ _ c.report_entries.result second_of two.text);
      reads = λ b k noted.
          checked_twice line_reads _ _ _ (directory_cost v b c.args.dir) (directory_runs v b c.args.dir)
          (length (dir_header_lines (volume_of v b) c.args.dir))
          (length (entries_reported (volume_of v b) c.args.dir m (roled_entries (volume_of v b) c.args.dir)))
          (length (sized_dir_lines (volume_of v b) c.args.dir)) (one.reads b (first k) noted)
          (two.reads b (second_of b k) (noted_kept v b c.args.workspace.now.words.items
          c.begin_directory.new.workspace.words.items one.leaves.places noted))
          (cost_of_dir v b c.args.dir k.knows.dir) (lines_long _ _ _ (parts b k));
      spends = λ b k.
          let cost = cost_of_dir v b c.args.dir k.knows.dir in
          omega (arith, one.spends b (first k), two.spends b (second_of b k), cost);
      paid = paid_then one.paid two.paid;
      holds = IfOk-weaker c.report_entries.result _ _
          (λ x p b k. (
            reported_after (volume_of v b) c.args.dir before m _ (dir b k) k.passed
                (one.holds b (first k)).passed (p b (second_of b k)),
            λ y set.
                let mid : is_flagged m y ≡ true =
                rw (ap (λ (n : PassedNames). n.flags) (one.holds b (first k)).passed) set in
                rw (p b (second_of b k)) at
                (flags_after (volume_of v b) c.args.dir m (roled_entries (volume_of v b) c.args.dir) y mid),
          )) two.holds;
      leaves = leaves_after one.leaves.image one.leaves.survey one.leaves.places two.leaves;
    }

-- ---- how often it is read where the first look is enough
pub returns-in_err-looked-clause-quiet : goal.returns-in_err-looked-clause-quiet
returns-in_err-looked-clause-quiet g c = λ b k noted quiet. c.in_err-looked.ensures.reads b (first k) noted

pub returns-then-looked-clause-quiet : goal.returns-then-looked-clause-quiet
returns-then-looked-clause-quiet g c = λ b k noted quiet. c.in_ok-looked.ensures.reads b (first k) noted

pub returns-clause-quiet : goal.returns-clause-quiet
returns-clause-quiet g c = λ b k noted quiet.
    absurd (both_ways _ c.if-looked.false ((c.in_ok-looked.ensures.holds b (first k)).quiet ∙ quiet))
