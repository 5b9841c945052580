use Rattle.std.proofs.Common.{◌∙◌, ap, map, arith, length, ◌≡◌, ◌≤◌, ◌+◌, ◌*◌, ℕ, List, option_map}
use Rattle.ffs_volume.specs.{Messages.Kinds.of_tree, Blocks.Inodes.inode_of, Directories.Volumes.volume_of}
use Rattle.ffs_volume.specs.Directories.{Naming.graph_of, PathnameCheck.{attributes, attributes_of, dir_header_lines}}
use Rattle.ffs_volume.{specs.Directories.PathnameCheck.{header_defects, header_lines}, proofs.Results.fails_with}
use Rattle.ffs_volume.specs.{Directories.Paths.dir_path, Report.Reads.line_reads, Costs.DirectoryReads.directory_cost}
use Rattle.ffs_volume.specs.Encodings.Places.{PlacesAreNoted}
use Rattle.ffs_report.proofs.{Reporting.{of_begins, of_reads}, Paying.{paid_answer, paid_failed, paid_beside}}
use Rattle.ffs_report.proofs.Paying.{paid_fault, paid_none, paid_then}
use Rattle.ffs_pathnames.specs.{ReadsLeft.KnowsForLook, declared.look.FirstLook.FirstLook, KnowsAtDirectory.KnowsAtDirectory}
use Rattle.ffs_pathnames.proofs.{Passing.knows_on, Begun.{said_same, fault_same, image_same, starts_are, begun_is}}
use Rattle.ffs_pathnames.proofs.StampLaws.{windows_keep, keep_more, noted_kept}
use Rattle.ffs_pathnames.proofs.directories.begin_directory.{Given.Over, Goals.After-report_header}
use Rattle.ffs_workspace.proofs.Leaving.{leaves_more, survey_left, windows_leave}
use Rattle.ffs_paths.proofs.Keeping.{kept_parent_on}
use Rattle.ffs_layout.specs.Entry.{entry_value}
use Rattle.ffs_pathnames.proofs.directories.begin_directory.Goals as goal

abbrev Known : (g : Over) → After-report_header g → List ℕ → Type 0
Known g c = KnowsForLook c.args.geometry.now.layout (g.I.Image.device c.args.image.now) c.args.workspace.now c.args.dir
    c.args.checking.now.reads_left

-- what is known before the lines are printed
known : (g : Over) (c : After-report_header g) (b : List ℕ) → Known g c b →
    KnowsAtDirectory c.args.geometry.now.layout (g.I.Image.device c.look_directory.new.image).contents
    c.look_directory.new.workspace c.of.result.number b × (c.of.result ≡ attributes_of c.of.result.number
    (inode_of c.args.geometry.now.layout b c.of.result.number))
known g c b k = rw c.of.ensures (
  knows_on c.args.geometry.now.layout _ _ c.args.workspace.now c.look_directory.new.workspace c.args.dir b
      (ap (λ d. d.contents) c.in_ok-looked.ensures.looks.leaves.read) c.in_ok-looked.ensures.looks.leaves.lists.survey
      c.in_ok-looked.ensures.looks.leaves.lists.places k.0,
  ap (attributes_of c.args.dir) (c.in_ok-looked.ensures.looks.found b k).0.inode,
)

-- the lines are the directory's
lines_are : (g : Over) (c : After-report_header g) (b : List ℕ) → Known g c b →
    header_lines (header_defects c.of.result.number c.of.result.size c.found_parent-parent.result
    c.in_ok-looked.looked.chunks.gap c.in_ok-looked.looked.chunks.sound
    (option_map entry_value c.first_two.result.0) (option_map entry_value c.first_two.result.1))
    (attributes (volume_of c.args.geometry.now.layout b) c.of.result.number)
    (dir_path (graph_of (volume_of c.args.geometry.now.layout b)) c.of.result.number)
    ≡ dir_header_lines (volume_of c.args.geometry.now.layout b) c.args.dir
lines_are g c b k =
    let v = c.args.geometry.now.layout in
    rw c.of.ensures (starts_are v b c.args.dir c.args.workspace.now c.in_ok-looked.looked _ _ _ _
    (c.in_ok-looked.ensures.looks.found b k).0 (c.found_parent-parent.ensures v b
    (survey_left v b _ _ c.in_ok-looked.ensures.looks.leaves.lists.survey k.0.survey))
    c.first_two.ensures)

-- the reads
reads_few : (g : Over) (c : After-report_header g) (b : List ℕ) → Known g c b →
    PlacesAreNoted c.args.geometry.now.layout b c.args.workspace.now.words.items →
    g.I.Image.reads c.report_header.new.image ≤ g.I.Image.reads c.args.image.now
    + (directory_cost c.args.geometry.now.layout b c.args.dir
    + line_reads * length (dir_header_lines (volume_of c.args.geometry.now.layout b) c.args.dir))
reads_few g c b k noted =
    let lists = c.in_ok-looked.ensures.looks.leaves.lists in
    let own = c.look_directory.ensures.cost.reads b k.0 in
    let said = (c.report_header.ensures.counted b (known g c b k)
    (noted_kept c.args.geometry.now.layout b _ c.look_directory.new.workspace.words.items lists.places noted)).count in
    let now = rw (lines_are g c b k) at said in
    omega (arith, own, now)

pub report_header-requires : goal.report_header-requires
report_header-requires g c = grind (arith, kept_parent_on)

pub look_directory-requires : goal.look_directory-requires
look_directory-requires g c = grind arith

-- a read failed
pub returns-in_err-looked : goal.returns-in_err-looked
returns-in_err-looked g c =
    let looks = c.in_err-looked.ensures in
    let left = looks.looks.leaves in
    rw (fails_with _ c.from_residual.ensures.1) (record {
      text = of_reads of_begins;
      reads = λ b k noted. omega (arith, looks.cost.reads b k.0);
      spends = λ b k. looks.cost.spends b k.0;
      paid = paid_failed looks.cost.most;
      holds = tt;
      leaves = record {
        image = left.read;
        survey = left.lists.survey;
        places = left.lists.places;
        ready = left.ready;
      };
    })

pub returns-in_err-report_header : goal.returns-in_err-report_header
returns-in_err-report_header g c =
    let at = (goal.at.returns-in_err-report_header g c).After-report_header in
    let looks = c.in_ok-looked.ensures in
    let lists = looks.looks.leaves.lists in
    let said = c.in_err-report_header.ensures in
    rw (fails_with _ c.from_residual-in_err-report_header.ensures.1) (record {
      text = fault_same (Unit {0}) FirstLook _ _ _ _ _ _ c.in_err-report_header.field-0.0
          (known g at) (λ b k. ap (map of_tree) (lines_are g at b k)) said.text;
      reads = reads_few g at;
      spends = λ b k. looks.cost.spends b k.0;
      paid = paid_fault c.in_err-report_header.field-0.0
          (paid_then (paid_none {T = Unit {0}} {x = tt} looks.cost.most)
          (paid_beside c.look_directory.new.reads_left said.paid));
      holds = tt;
      leaves = record {
        image = image_same (Unit {0}) FirstLook _ _ _ c.in_err-report_header.field-0.0 looks.looks.leaves.read
            said.leaves.image;
        survey = leaves_more lists.survey (windows_leave _ _ said.leaves.lists);
        places = keep_more _ _ _ lists.places (windows_keep c.look_directory.new.workspace c.report_header.new.workspace
            said.leaves.lists);
        ready = said.leaves.ready;
      };
    })

pub returns : goal.returns
returns g c =
    let at = (goal.at.returns g c).After-report_header in
    let looks = c.in_ok-looked.ensures in
    let lists = looks.looks.leaves.lists in
    let said = c.in_ok-report_header.ensures in
    record {
      text = said_same _ _ _ _ _ _ (known g at) (λ b k. ap (map of_tree) (lines_are g at b k)) said.text;
      reads = reads_few g at;
      spends = λ b k. looks.cost.spends b k.0;
      paid = paid_answer (paid_then (paid_none {T = Unit {0}} {x = tt} looks.cost.most)
          (paid_beside c.look_directory.new.reads_left said.paid));
      holds = λ b k.
          begun_is c.args.geometry.now.layout b c.args.dir c.args.workspace.now c.look_directory.new.workspace _
          c.in_ok-looked.looked _ (looks.looks.found b k) lists said.leaves.lists;
      leaves = record {
        image = said.leaves.image ∙ looks.looks.leaves.read;
        survey = leaves_more lists.survey (windows_leave _ _ said.leaves.lists);
        places = keep_more _ _ _ lists.places (windows_keep c.look_directory.new.workspace c.report_header.new.workspace
            said.leaves.lists);
        ready = said.leaves.ready;
      };
    }
