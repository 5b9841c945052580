use Rattle.ffs_finding.proofs.find.find_in.Goals as goal

pub returns-clause-finds : goal.returns-clause-finds
returns-clause-finds g c = record {
  answer = c.find-answer.result;
  before_line = g.W.Output.sink c.find-answer.new.out;
  answers = c.find-answer.ensures.finds;
  ends = c.end.ensures;
}
