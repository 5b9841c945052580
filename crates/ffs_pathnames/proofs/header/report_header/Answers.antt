use Rattle.std.proofs.Common.{arith, ◌≡◌, refl, sym, ap, ◌∙◌, ℕ, List, map, ◌≤◌, length}
use Rattle.ffs_volume.specs.{Messages.Kinds.of_tree, Directories.{PathnameCheck.attributes, Naming.graph_of}}
use Rattle.ffs_volume.specs.Directories.{PathnameCheck.header_lines, Paths.dir_path, Volumes.volume_of}
use Rattle.ffs_volume.proofs.{VerdictLaws.{header_silent, some_header}, Results.fails_with}
use Rattle.ffs_report.proofs.Paying.{paid_none, paid_reads, paid_says, paid_stops}
use Rattle.ffs_report.proofs.Reporting.{reads_first, says_all, says_none, stops_all}
use Rattle.ffs_pathnames.specs.HeaderValues.{defects_value, facts_lines, KnowsHeader}
use Rattle.ffs_pathnames.proofs.{Begun.attr_is, LineCounts.{by_line, few_none, knows_places, some_said}}
use Rattle.ffs_paths.proofs.Climbed.{few_more}
use Rattle.ffs_pathnames.proofs.HeaderLaws.{header_value_silent}
use Rattle.ffs_pathnames.proofs.header.report_header.{Given.Over, Goals.{After-put_path, After-say_header}}
use Rattle.ffs_pathnames.proofs.header.report_header.Goals as goal

-- a header that isn't right has a line
some_line : (g : Over) (c : After-put_path g) (b : List ℕ) →
    1 ≤ length (facts_lines (volume_of c.args.geometry.now.layout b) c.args.header)
some_line g c b = grind (arith, some_header, header_value_silent)

-- whatever was gathered: the size is that which isn't right
some_said_of : (g : Over) (c : After-say_header g) →
    1 ≤ length (map of_tree (header_lines (defects_value c.header_defects-defects.result)
    c.args.header.attr c.as_slice.result.now))
some_said_of g c = grind (arith, some_said, some_header, header_value_silent)

-- the lines are those of what was gathered
lines_are : (g : Over) (c : After-say_header g) (b : List ℕ) →
    KnowsHeader c.args.geometry.now.layout (g.I.Image.device c.args.image.now) c.args.workspace.now c.args.header b →
    map of_tree (facts_lines (volume_of c.args.geometry.now.layout b) c.args.header)
    ≡ map of_tree (header_lines (defects_value c.header_defects-defects.result)
    c.args.header.attr c.as_slice.result.now)
lines_are g c b k = grind (arith, attr_is)

pub returns-then-is_silent : goal.returns-then-is_silent
returns-then-is_silent g c =
    let v = c.args.geometry.now.layout in
    let s = c.args.header in
    let n = c.header_defects-defects.result in
    record {
      text = says_none (λ b k. ap (map of_tree)
          (ap (λ m. header_lines m (attributes (volume_of v b) s.attr.number) (dir_path (graph_of (volume_of v b)) s.attr.number))
          (sym c.header_defects-defects.ensures)
          ∙ header_silent (defects_value n) _ _
          (header_value_silent n ∙ (sym c.is_silent.ensures ∙ c.if-is_silent.true))));
      counted = λ b k noted. few_none;
      paid = paid_none (omega arith);
      leaves = record {
        image = refl;
        lists = refl;
        current = refl;
        ready = record { ready = c.requires.ready; kept_parent = c.requires.kept_parent };
      };
    }

pub returns-in_err-put_path : goal.returns-in_err-put_path
returns-in_err-put_path g c =
    let at = (goal.at.returns-in_err-put_path g c).After-put_path in
    let left = c.in_err-put_path.ensures.puts.leaves in
    let read = left.path.reads in
    rw (fails_with _ c.from_residual.ensures.1) (record {
      text = reads_first;
      counted = λ b k noted. by_line _ (few_more (left.path.counted b (knows_places _ _ _ _ b k.0 noted)) (omega arith)) (some_line g at b);
      paid = let most = left.most in paid_reads (omega (arith, most));
      leaves = record { image = read.read; lists = read.lists; current = read.current; ready = read.ready };
    })

pub returns-in_err-say_header : goal.returns-in_err-say_header
returns-in_err-say_header g c =
    let at = goal.at.returns-in_err-say_header g c in
    let left = c.in_ok-put_path.ensures.puts.leaves in
    let read = left.path.reads in
    rw (fails_with _ c.from_residual-in_err-say_header.ensures.1) (record {
      text = stops_all (lines_are g at.After-say_header) c.in_err-say_header.ensures;
      counted = λ b k noted. by_line _ (few_more (left.path.counted b (knows_places _ _ _ _ b k.0 noted)) (omega arith))
          (some_line g at.After-put_path b);
      paid = paid_stops _ c.in_err-say_header.ensures (some_said_of g at.After-say_header)
          (let most = left.most in omega (arith, most));
      leaves = record { image = read.read; lists = read.lists; current = read.current; ready = read.ready };
    })

pub returns : goal.returns
returns g c =
    let at = goal.at.returns g c in
    let left = c.in_ok-put_path.ensures.puts.leaves in
    let read = left.path.reads in
    record {
      text = says_all (lines_are g at.After-say_header) c.in_ok-say_header.ensures;
      counted = λ b k noted. by_line _ (few_more (left.path.counted b (knows_places _ _ _ _ b k.0 noted)) (omega arith))
          (some_line g at.After-put_path b);
      paid = paid_says _ c.in_ok-say_header.ensures (some_said_of g at.After-say_header)
          (let most = left.most in omega (arith, most));
      leaves = record {
        image = read.read;
        lists = read.lists;
        current = read.current;
        ready = record { ready = read.ready; kept_parent = left.path.kept_parent };
      };
    }
