use Rattle.ffs_finding.proofs.find.find_in_accepted.Goals as goal

pub returns-in_ok-find_wrong_fields-in-Fields-clause-answer : goal.returns-in_ok-find_wrong_fields-in-Fields-clause-answer
returns-in_ok-find_wrong_fields-in-Fields-clause-answer g c =
    let found = c.in_ok-find_wrong_fields-in-Fields.ensures.prints in
    rw (c.in-Fields.is) (record {
      answer = (found.found.image, record { printed = found.found.text; defect_is = found.any });
      grounds = tt;
      reads = c.in_ok-find_wrong_fields-in-Fields.ensures.reads;
    })

pub returns-in-Lost-clause-answer : goal.returns-in-Lost-clause-answer
returns-in-Lost-clause-answer g c = rw (c.in-Lost.is) (c.claim_and_find_lost.ensures.answer c.args.sector)

pub returns-in-Owner-clause-answer : goal.returns-in-Owner-clause-answer
returns-in-Owner-clause-answer g c = rw c.in-Owner.is (c.claim_and_find_owner.ensures.answer c.args.sector)
