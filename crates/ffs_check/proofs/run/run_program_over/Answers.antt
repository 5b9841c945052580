use Rattle.std.proofs.Common.{inl, refl}
use Rattle.ffs_check.proofs.run.run_program_over.Goals as goal

pub returns-in-Ok-clause-ends : goal.returns-in-Ok-clause-ends
returns-in-Ok-clause-ends g c = inl (record {
  name = c.in-Ok.asked.name.now;
  request = c.in-Ok.asked.request;
  asked = c.in-Ok.ensures;
  carried_out = c.open_and_carry_out.ensures.carries_out;
  unwritten = refl;
})
