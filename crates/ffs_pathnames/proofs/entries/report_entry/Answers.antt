use Rattle.std.proofs.Common.{ap, refl, ◌∙◌}
use Rattle.ffs_volume.{specs.Directories.Volumes.volume_of, proofs.Results.fails_with}
use Rattle.ffs_workspace.{specs.declared.workspace.Workspace.Workspace, proofs.Leaving.{claims_left, survey_left}}
use Rattle.ffs_workspace.proofs.Leaving.{leaves_more, windows_leave}
use Rattle.ffs_pathnames.{specs.Gathers.roled_value, proofs.{EntryReports.one_entry, Passing.passes, SeesLaws.sees}}
use Rattle.ffs_pathnames.specs.Sees.{passed_of}
use Rattle.ffs_pathnames.proofs.{ReadyLaws.ready_passed, StampLaws.{keep_more, names_leave, windows_keep}}
use Rattle.ffs_paths.proofs.Keeping.{kept_parent_on}
use Rattle.ffs_report.proofs.Paying.{paid_answer}
use Rattle.ffs_pathnames.proofs.entries.report_entry.Goals as goal

pub returns-in_err-report_by_role : goal.returns-in_err-report_by_role
returns-in_err-report_by_role g c =
    let failed = c.in_err-report_by_role.ensures in
    let before = c.args.workspace.now in
    let here = c.report_by_role.new.workspace in
    rw (fails_with _ c.from_residual.ensures.1) (record {
      lines = one_entry (passed_of before) (roled_value c.args.entry.now) failed.lines;
      passed = tt;
      leaves = record {
        image = failed.leaves.image;
        survey = windows_leave _ _ failed.leaves.lists;
        places = windows_keep before here failed.leaves.lists;
        ready = failed.leaves.ready;
      };
      current = failed.leaves.current;
    })

pub returns : goal.returns
returns g c =
    let lines = one_entry (passed_of c.args.workspace.now) (roled_value c.args.entry.now)
    c.in_ok-report_by_role.ensures.lines in
    let left = c.in_ok-report_by_role.ensures.leaves in
    let before = c.args.workspace.now in
    let here = c.report_by_role.new.workspace in
    let made = left.ready.ready.ready.made in
    let windows = left.ready.ready.windows in
    let passed = c.pass.ensures in
    let kept = windows_leave _ _ left.lists in
    let surveyed = names_leave here _ refl passed.words.places in
    record {
      lines = record {
        text = lines.text;
        path = lines.path;
        settled = lines.settled;
        once = λ b k noted. lines.once b k noted;
        counted = λ b k noted.
            let few = lines.counted b k noted in record { count = few.count; blocks = few.blocks };
        paid = paid_answer lines.paid;
      };
      passed = λ b k.
          let v = c.args.geometry.now.layout in
          let shows = sees v b here _ (record {
            kinds = c.as_slice.ensures.value;
            marked = refl;
            parents = refl;
            count = c.as_slice.ensures.len ∙ made.kinds;
          }) (claims_left v b before here kept k.block_check) (survey_left v b before here kept k.survey) in
          passes (volume_of v b) c.args.entry.now.dir (roled_value c.args.entry.now)
          (ap (λ (w : Workspace). w.flags.items) left.lists)
          (ap (λ (w : Workspace). (passed_of w).stamps) left.lists) (passed.after (volume_of v b) shows);
      leaves = record {
        image = left.image;
        survey = leaves_more kept surveyed;
        places = keep_more _ _ _ (windows_keep before here left.lists) passed.words.places;
        ready = record {
          ready = ready_passed _ _ here _ _ left.ready.ready passed.flags passed.words.long;
          kept_parent = kept_parent_on _ _ _ _ _ _ refl surveyed passed.words.places left.ready.kept_parent;
        };
      };
      current = left.current;
    }
