use Rattle.std.proofs.{Common.{◌≡◌, ◌≤◌, ◌∙◌, [], arith, ap, length, List, map, rules, sym}, lemmas.List.length-map}
use Rattle.std.proofs.lemmas.Result.{err_from_is_err_and}
use Rattle.ffs_volume.specs.Directories.{ReferenceCheck.reference_lines_at, Volumes.volume_of}
use Rattle.ffs_volume.{specs.Messages.Kinds.{TreeMessage, of_tree}, proofs.Results.fails_with}
use Rattle.ffs_report.proofs.Paying.{paid_none, paid_reads, paid_says, paid_stops}
use Rattle.ffs_image.specs.Known.{ForBytes}
use Rattle.ffs_report.proofs.Reporting.{reads_first, says_all, says_none, stops_all}
use Rattle.ffs_workspace.{specs.{Found.WithFindings, Ready.LeavesAllButWindows}, proofs.{Readiness.can_read_table, TablePlaces.{fails_in_block, fails_in_table}}}
use Rattle.ffs_workspace.proofs.TableReadLaws.{read_line, unread}
use Rattle.ffs_counts.{specs.References.lines_as, proofs.Holding.{inode_reference_lines_are, item_at, met_lines}}
use Rattle.ffs_counts.proofs.Holding.{some_lines, unmet_line, unmet_reported}
use Rattle.ffs_counts.proofs.pass4.report_references.Goals.{After-inode}
use Rattle.ffs_counts.proofs.pass4.report_references.Goals.{After-line_for-line, In_ok-inode, Then-is_right}
use Rattle.ffs_counts.proofs.pass4.report_references.Given as given
use Rattle.ffs_counts.proofs.pass4.report_references.Goals as goal

-- an inode that isn't right has one line
one : (g : given.Over) (c : After-inode g) →
    ForBytes (WithFindings c.args.geometry.now.layout (g.I.Image.device c.args.image.now) c.args.workspace.now)
    (λ bytes. length (reference_lines_at (volume_of c.args.geometry.now.layout bytes) c.args.number) ≡ 1)
one g c bytes k = grind (arith, unmet_line)

-- its lines are those that are said
lines_are : (g : given.Over) (c : After-line_for-line g) →
    ForBytes (WithFindings c.args.geometry.now.layout (g.I.Image.device c.args.image.now) c.args.workspace.now)
    (λ bytes. map of_tree (reference_lines_at (volume_of c.args.geometry.now.layout bytes) c.args.number)
    ≡ map of_tree (lines_as c.line_for-line.result))
lines_are g c bytes k = grind (arith, item_at, some_lines, inode_reference_lines_are)

-- it has a line, whatever was read of it
some : (g : given.Over) (c : After-line_for-line g) → 1 ≤ length (map of_tree (lines_as c.line_for-line.result))
some g c = grind (arith, item_at, one, unmet_reported, length-map)

stays : (g : given.Over) (c : In_ok-inode g) →
    LeavesAllButWindows c.args.geometry.now.layout (g.I.Image.device c.inode.new.image) c.args.workspace.now
    (record c.args.workspace.now {
      windows = record c.args.workspace.now.windows { table = c.inode.new.self };
    })
stays g c = grind (arith, can_read_table)

-- one that is right has none
met : (g : given.Over) (c : Then-is_right g) →
    ForBytes (WithFindings c.args.geometry.now.layout (g.I.Image.device c.args.image.now) c.args.workspace.now)
    (λ bytes. reference_lines_at (volume_of c.args.geometry.now.layout bytes) c.args.number ≡ [])
met g c bytes k = met_lines c.args.geometry.now.layout bytes c.args.workspace.now c.args.number c.requires.number k.1
    c.requires.allocated (sym c.is_right.ensures ∙ c.if-is_right.true)

pub returns-then-is_right : goal.returns-then-is_right
returns-then-is_right g c = record {
  faults = search rules;
  text = says_none (λ bytes k. ap (λ (ls : List TreeMessage). map of_tree ls) (met g c bytes k));
  reads = λ bytes k. unread _ _ _ _ _ (met g c bytes k);
  sector = tt;
  before_fault = tt;
  paid = paid_none (omega arith);
  stays = search rules;
}

pub returns-in_err-inode : goal.returns-in_err-inode
returns-in_err-inode g c = record {
  faults = grind (arith, err_from_is_err_and);
  text = grind (arith, err_from_is_err_and, reads_first);
  reads = λ bytes k. rw (fails_with _ c.from_residual.ensures.1) (read_line _ _ _ _ _ _ _
      c.args.geometry.now.sound (one g (goal.at.returns-in_err-inode g c).After-inode bytes k) (λ _ _. tt)
      c.in_err-inode.ensures.inode);
  paid = grind (arith, err_from_is_err_and, paid_reads);
  sector = grind (arith, err_from_is_err_and, fails_in_table);
  before_fault = grind (arith, err_from_is_err_and, fails_in_block);
  stays = grind (arith, can_read_table);
}

pub returns-in_err-say_if_any : goal.returns-in_err-say_if_any
returns-in_err-say_if_any g c =
    let at = goal.at.returns-in_err-say_if_any g c in
    rw (fails_with _ c.from_residual-in_err-say_if_any.ensures.1) (record {
      faults = search rules;
      text = stops_all (lines_are g at.After-line_for-line) c.in_err-say_if_any.ensures;
      reads = λ bytes k. read_line _ _ _ _ _ _ _ c.args.geometry.now.sound (one g at.After-inode bytes k)
          (λ _ _. tt) c.in_ok-inode.ensures.inode;
      sector = tt;
      before_fault = tt;
      paid = paid_stops _ c.in_err-say_if_any.ensures (some g at.After-line_for-line) c.in_ok-inode.ensures.inode.counted;
      stays = stays g at.In_ok-inode;
    })

pub returns : goal.returns
returns g c =
    let at = goal.at.returns g c in
    record {
      faults = search rules;
      text = says_all (lines_are g at.After-line_for-line) c.in_ok-say_if_any.ensures;
      reads = λ bytes k. read_line _ _ _ _ _ _ _ c.args.geometry.now.sound (one g at.After-inode bytes k)
          (λ _ h. h) c.in_ok-inode.ensures.inode;
      sector = tt;
      before_fault = tt;
      paid = paid_says _ c.in_ok-say_if_any.ensures (some g at.After-line_for-line) c.in_ok-inode.ensures.inode.counted;
      stays = stays g at.In_ok-inode;
    }
