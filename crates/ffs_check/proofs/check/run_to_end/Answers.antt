use Rattle.ffs_volume.specs.Report.Whole.{phase_lines}
use Rattle.ffs_layout.specs.Super.{superblock_in}
use Rattle.ffs_report.specs.Progress.{progress}
use Rattle.ffs_check.specs.Moment.{report_moment}
use Rattle.ffs_check.proofs.{AnyReading.ended_reads, Answering.{answers_end, whole_end}, Endings.{ran, same_output}, Sections.sections_end}
use Rattle.ffs_check.proofs.check.run_to_end.Goals as goal

pub returns : goal.returns
returns g c =
    let s = superblock_in c.args.superblock.now in
    let old = report_moment g.I.Image g.W.Output c.args.image.now c.args.report.now in
    let new = report_moment g.I.Image g.W.Output c.run_phases-answer.new.image c.end_run.new.report in
    let said = progress g.W.Output.sink c.run_phases-answer.new.report in
    let phases = c.run_phases-answer.ensures in
    let answer = c.run_phases-answer.result in
    let ended = c.end_run.ensures in
    record {
      ends = record {
        ran = ran c.args.had_defect _ s old new said (λ bytes k. k.0) c.requires.opened _ answer phases.ran.text
            phases.ran.image phases.ran.goes ended;
        headings = sections_end c.args.had_defect old.report said new.report _ answer phases.headings ended;
        reads = record {
          known = phases.reads.known;
          any = ended_reads s.layout c.args.had_defect old new said answer _ c.requires.opened.working
              phases.reads.paid ended;
        };
        answers = answers_end c.args.had_defect _ _ answer _ ended phases.leaves.answers;
        holds = λ whole. phases.leaves.holds (whole_end c.args.had_defect _ _ answer _ ended whole);
        made = phases.leaves.ready.made;
      };
      same_reference = same_output _ (λ bytes. phase_lines bytes s) c.args.had_defect old.report said new.report answer _
          phases.ran.text ended;
    }
