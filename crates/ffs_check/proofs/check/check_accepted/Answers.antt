use Rattle.std.proofs.Common.{arith, inl, inr, refl}
use Rattle.ffs_layout.specs.Super.{superblock_in}
use Rattle.ffs_check.proofs.{AnyReading.unstarted_reads, Endings.ran_known, Taken.not_for_memory}
use Rattle.ffs_check.proofs.check.check_accepted.Goals as goal

pub run_to_end-requires : goal.run_to_end-requires
run_to_end-requires g c = record {
  ready = record {
    made = c.in-Ok.ensures.made.new.made;
    volume = c.requires.volume;
  };
  opened = c.requires.opened;
}

pub returns-in-Ok : goal.returns-in-Ok
returns-in-Ok g c =
    let phases = c.run_to_end.ensures.ends in
    record {
      follows = record {
        followed = inr (ran_known _ _ (superblock_in c.args.superblock.now) _ _ _
            (λ bytes t. (t, c.in-Ok.ensures.made.new.fresh)) phases.ran);
        headings = phases.headings;
        memory = record {
          asked = inl c.in-Ok.ensures.made.asks;
          refused = λ e. absurd (not_for_memory _ _ _ _ _ phases.ran e);
        };
        reads = record {
          known = λ bytes t. phases.reads.known bytes (t, c.in-Ok.ensures.made.new.fresh);
          any = phases.reads.any;
        };
      };
      requests = c.in_memory.ensures.requests;
      same_reference = c.run_to_end.ensures.same_reference;
    }

pub returns-in-Err : goal.returns-in-Err
returns-in-Err g c =
    let asks = c.in-Err.ensures.made.asks in
    record {
      follows = record {
        followed = inl (refl, c.say_no_memory.ensures);
        headings = elim c.say_no_memory.ensures [
          | inl said ↦ rw said.1 tt
          | inr stopped ↦ rw stopped.1 tt
        ];
        memory = record { asked = inr asks; refused = λ e. asks.rose };
        reads = record {
          known = λ bytes t. omega arith;
          any = unstarted_reads c.args.superblock.now.geometry.layout _ _ _ _ _ c.requires.opened.working
              c.say_no_memory.ensures;
        };
      };
      requests = c.in_memory.ensures.requests;
      same_reference = elim c.say_no_memory.ensures [
        | inl said ↦ said.0.output
        | inr stopped ↦ stopped.0.output
      ];
    }
