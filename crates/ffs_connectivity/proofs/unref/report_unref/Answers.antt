use Rattle.std.proofs.{Common.{◌≡◌, ◌∷◌, [], length, map, refl, ◌∙◌, arith, rules, true}, lemmas.Result.err_from_is_err_and}
use Rattle.ffs_volume.specs.Directories.{Connectivity.{is_unref_dir, unref_dir_lines}, Volumes.volume_of}
use Rattle.ffs_volume.specs.Messages.Kinds.{of_tree, of_reference}
use Rattle.ffs_volume.specs.declared.tree_lines.ReferenceLine.TheVariants.{UnrefDir}
use Rattle.ffs_volume.proofs.Results.{fails_with, on_any}
use Rattle.ffs_report.proofs.{Paying.{paid_none, paid_reads, paid_stops}, Reporting.{reads_first, says_none, stops_all}}
use Rattle.ffs_image.specs.Known.{ForBytes}
use Rattle.ffs_workspace.{specs.Found.WithSurvey, proofs.TablePlaces.{fails_in_block, fails_in_table}}
use Rattle.ffs_workspace.proofs.TableReadLaws.{read_line, unread}
use Rattle.ffs_connectivity.proofs.{UnrefLaws.unref_held, UnrefLines.{attributes_are, no_lines, one_line, silent}}
use Rattle.ffs_connectivity.proofs.unref.report_unref.Goals.{After-inode, After-is_unref-unref, After-of}
use Rattle.ffs_connectivity.proofs.unref.report_unref.Given as given
use Rattle.ffs_connectivity.proofs.unref.report_unref.Goals as goal

-- what the test says of the inode
tested : (g : given.Over) (c : After-is_unref-unref g) →
    ForBytes (WithSurvey c.args.geometry.now.layout (g.I.Image.device c.args.image.now) c.args.workspace.now)
    (λ bytes. is_unref_dir (volume_of c.args.geometry.now.layout bytes) c.args.number ≡ c.is_unref-unref.result)
tested g c bytes k = grind (arith, unref_held)

-- one that is read has a line
one : (g : given.Over) (c : After-inode g) →
    ForBytes (WithSurvey c.args.geometry.now.layout (g.I.Image.device c.args.image.now) c.args.workspace.now)
    (λ bytes. length (unref_dir_lines (volume_of c.args.geometry.now.layout bytes) c.args.number) ≡ 1)
one g c bytes k = grind (arith, tested, one_line)

-- the line of one that is read
heard_of : (g : given.Over) (c : After-of g) →
    ForBytes (WithSurvey c.args.geometry.now.layout (g.I.Image.device c.args.image.now) c.args.workspace.now)
    (λ bytes. is_unref_dir (volume_of c.args.geometry.now.layout bytes) c.args.number ≡ true →
    map of_tree (unref_dir_lines (volume_of c.args.geometry.now.layout bytes) c.args.number)
    ≡ of_tree (of_reference (UnrefDir c.of.result)) ∷ [])
heard_of g c bytes k e = grind (arith, attributes_are)

pub returns-then-not-unref : goal.returns-then-not-unref
returns-then-not-unref g c =
    let test = tested g (goal.at.returns-then-not-unref g c).After-is_unref-unref in
    record {
      faults = refl;
      text = says_none (λ bytes k. silent _ _ (test bytes k ∙ c.if-not-unref.true));
      reads = λ bytes k. unread _ _ _ _ _ (no_lines (volume_of c.args.geometry.now.layout bytes) c.args.number
          (test bytes k ∙ c.if-not-unref.true));
      sector = tt;
      before_fault = tt;
      paid = paid_none (omega arith);
      stays = search rules;
    }

pub returns-in_err-inode-clause-text : goal.returns-in_err-inode-clause-text
returns-in_err-inode-clause-text g c = grind (arith, err_from_is_err_and, reads_first)

pub returns-in_err-inode-clause-reads : goal.returns-in_err-inode-clause-reads
returns-in_err-inode-clause-reads g c bytes k =
    let line = one g (goal.at.returns-in_err-inode-clause-reads g c).After-inode bytes k in
    rw (fails_with _ c.from_residual.ensures.1) (read_line _ _ _ _ _ _ _
    c.args.geometry.now.sound line (λ _ _. tt) c.in_err-inode.ensures.inode)

pub returns-in_err-inode-clause-sector : goal.returns-in_err-inode-clause-sector
returns-in_err-inode-clause-sector g c = grind (arith, err_from_is_err_and, fails_in_table)

pub returns-in_err-inode-clause-before_fault : goal.returns-in_err-inode-clause-before_fault
returns-in_err-inode-clause-before_fault g c = grind (arith, err_from_is_err_and, fails_in_block, tested)

pub returns-in_err-inode-clause-paid : goal.returns-in_err-inode-clause-paid
returns-in_err-inode-clause-paid g c = grind (arith, err_from_is_err_and, paid_reads)

pub returns-in_err-say-clause-text : goal.returns-in_err-say-clause-text
returns-in_err-say-clause-text g c = grind (arith, stops_all, heard_of, tested)

pub returns-in_err-say-clause-reads : goal.returns-in_err-say-clause-reads
returns-in_err-say-clause-reads g c bytes k =
    let line = one g (goal.at.returns-in_err-say-clause-reads g c).After-inode bytes k in
    read_line _ _ _ _ _ _ _ c.args.geometry.now.sound line (λ _ h. on_any _ h) c.in_ok-inode.ensures.inode

pub returns-in_err-say-clause-paid : goal.returns-in_err-say-clause-paid
returns-in_err-say-clause-paid g c = grind (arith, paid_stops)

pub returns-clause-text : goal.returns-clause-text
returns-clause-text g c = grind (arith, heard_of, tested)

pub returns-clause-reads : goal.returns-clause-reads
returns-clause-reads g c bytes k =
    let line = one g (goal.at.returns-clause-reads g c).After-inode bytes k in
    read_line _ _ _ _ _ _ _ c.args.geometry.now.sound line (λ _ h. h) c.in_ok-inode.ensures.inode
