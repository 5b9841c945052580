use Rattle.std.proofs.Common.{arith, rules}
use Rattle.ffs_check.proofs.Openings.{at_head, accepted, at_super, opened, refused, at_fault}
use Rattle.ffs_check.proofs.opening.say_opening.Goals as goal

pub returns-in-Err-clause-opens : goal.returns-in-Err-clause-opens
returns-in-Err-clause-opens g c = record {
  answers = record { inside_or_unreadable = search (rules, arith); reads = omega arith; short = λ _. omega arith };
  opened = at_head _ _ _ _ _ _ c.requires.fresh _ (omega arith) c.in-Err.ensures;
}

pub returns-in-Ok-say_super-clause-opens : goal.returns-in-Ok-say_super-clause-opens
returns-in-Ok-say_super-clause-opens g c = record {
  answers = record { inside_or_unreadable = search (rules, arith); reads = c.in-Ok.ensures.reads; short = c.in-Ok.ensures.short };
  opened = accepted _ _ _ _ _ _ c.requires.fresh _ _ _ c.in_default.ensures c.in-Ok.superblock c.in-Ok.ensures.answer
      c.in-Ok-say_super.ensures;
}

pub returns-in-Ok-say_super-clause-said : goal.returns-in-Ok-say_super-clause-said
returns-in-Ok-say_super-clause-said g c =
    opened _ _ _ _ _ _ c.requires.fresh c.in_default.ensures c.in-Ok-say_super.ensures

pub returns-in-Err-say_super-clause-opens : goal.returns-in-Err-say_super-clause-opens
returns-in-Err-say_super-clause-opens g c = record {
  answers = record { inside_or_unreadable = search (rules, arith); reads = c.in-Ok.ensures.reads; short = c.in-Ok.ensures.short };
  opened = at_super _ _ _ _ _ _ c.requires.fresh _ _ _ c.in_default.ensures c.in-Ok.superblock c.in-Ok.ensures.answer
      c.in-Err-say_super.ensures;
}

pub returns-in-Ok-say-clause-opens : goal.returns-in-Ok-say-clause-opens
returns-in-Ok-say-clause-opens g c = record {
  answers = record { inside_or_unreadable = search (rules, arith); reads = c.in-Err-read_super.ensures.reads; short = c.in-Err-read_super.ensures.short };
  opened = refused _ _ _ _ _ _ c.requires.fresh _ _ _ c.in_default.ensures c.in-Err-read_super.fault
      c.in-Err-read_super.ensures.answer c.in-Err-read_super.ensures.once (rw c.fault_line.ensures at c.in-Ok-say.ensures.said);
}

pub returns-in-Err-say-clause-opens : goal.returns-in-Err-say-clause-opens
returns-in-Err-say-clause-opens g c = record {
  answers = record { inside_or_unreadable = search (rules, arith); reads = c.in-Err-read_super.ensures.reads; short = c.in-Err-read_super.ensures.short };
  opened = at_fault _ _ _ _ _ _ c.requires.fresh _ _ _ c.in_default.ensures c.in-Err-read_super.fault
      c.in-Err-read_super.ensures.answer c.in-Err-read_super.ensures.once (rw c.fault_line.ensures at c.in-Err-say.ensures.said);
}
