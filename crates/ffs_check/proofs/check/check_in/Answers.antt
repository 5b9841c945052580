use Rattle.std.proofs.Common.{rules, ◌≡◌, inl, inr, refl, ap, ℕ, List, Option}
use Rattle.ffs_image.specs.Device.{Device}
use Rattle.ffs_volume.specs.{declared.End.End}
use Rattle.ffs_report.specs.{Progress.Progress, Sink.Sink}
use Rattle.ffs_check.specs.{Headline.Headline, Moment.{Moment, at_output, moment, report_moment}, Costs.CostsOfVolume}
use Rattle.ffs_check.proofs.{Counting.{reads_failed, writes_failed}, Follows.{found_ends, not_refused}}
use Rattle.ffs_check.proofs.{Headlines.opening_ends, Openings.{opens_at, refused_once}}
use Rattle.ffs_memory.specs.Account.{Account}
use Rattle.ffs_check.proofs.{Reading.{found_within, opened_within}, Taken.{costs_of, opened_for_memory}}
use Rattle.ffs_check.proofs.check.check_in.Goals as goal

-- ---- the same of an output by another name for it
headline_at : {W : Type 0} (sink : W → Sink) (b b' : W) {name : List ℕ} {sector : Option ℕ} {old : Moment}
    {image : Device} {reads : ℕ} {end : End} →
    Headline name sector old (record { image = image; reads = reads; out = sink b }) end → sink b ≡ sink b' →
    Headline name sector old (record { image = image; reads = reads; out = sink b' }) end
headline_at sink b b' h e = rw (← e) h

costs_at : {W : Type 0} (sink : W → Sink) (b b' : W) {sector : Option ℕ} {old : Moment} {image : Device} {reads : ℕ}
    {held held' : Account} →
    CostsOfVolume sector old (record { image = image; reads = reads; out = sink b }) held held' → sink b ≡ sink b' →
    CostsOfVolume sector old (record { image = image; reads = reads; out = sink b' }) held held'
costs_at sink b b' c e = rw (← e) c

-- ---- the cases
pub say_opening-requires : goal.say_opening-requires
say_opening-requires g c =
    record { fresh = rw c.new-report.ensures (record { working = refl; defect = refl }) }

pub returns-in-Err-clause-headline : goal.returns-in-Err-clause-headline
returns-in-Err-clause-headline g c =
    let opens = opens_at g.W.Output.sink _ _ _ _ c.in-Err.ensures.opens (ap (λ (p : Progress). p.sink) c.new-report.ensures)
    refl in
    headline_at g.W.Output.sink c.say_opening.new.report.out.now _ (opening_ends _ _ _ _ _ opens.opened) (search rules)

pub returns-in-Ok-clause-headline : goal.returns-in-Ok-clause-headline
returns-in-Ok-clause-headline g c =
    let on = report_moment g.I.Image g.W.Output c.say_opening.new.image c.say_opening.new.report in
    let new = report_moment g.I.Image g.W.Output c.check_accepted.new.image c.check_accepted.new.report in
    let opens = opens_at g.W.Output.sink _ _ _ _ c.in-Ok.ensures.opens (ap (λ (p : Progress). p.sink) c.new-report.ensures) refl in
    headline_at g.W.Output.sink c.check_accepted.new.report.out.now _
    (found_ends _ _ (moment g.I.Image g.W.Output c.args.image.now c.args.out.now) on new c.in-Ok.superblock _
    opens.opened c.in-Ok.ensures.said.working c.check_accepted.ensures.follows.followed
    c.check_accepted.ensures.follows.headings) (search rules)

pub returns-in-Err-clause-failures : goal.returns-in-Err-clause-failures
returns-in-Err-clause-failures g c = record {
  reads = reads_failed _ _ _ _ _ (returns-in-Err-clause-headline g c);
  writes = writes_failed _ _ _ _ _ (returns-in-Err-clause-headline g c);
  unreadable = c.in-Err.ensures.opens.answers.inside_or_unreadable;
}

pub returns-in-Ok-clause-failures : goal.returns-in-Ok-clause-failures
returns-in-Ok-clause-failures g c = record {
  reads = reads_failed _ _ _ _ _ (returns-in-Ok-clause-headline g c);
  writes = writes_failed _ _ _ _ _ (returns-in-Ok-clause-headline g c);
  unreadable = λ at e. absurd (not_refused _ _ _ _ _ c.check_accepted.ensures.follows.followed e);
}

pub returns-in-Err-clause-costs : goal.returns-in-Err-clause-costs
returns-in-Err-clause-costs g c = record {
  most = inl (refl, c.in-Err.ensures.opens.answers.reads);
  refused = λ e. absurd (opened_for_memory _ _ _ _ _ c.in-Err.ensures.opens.opened e);
  once = λ fault e. refused_once _ _ _ _ _ c.in-Err.ensures.opens.opened fault e;
}

pub returns-in-Ok-clause-costs : goal.returns-in-Ok-clause-costs
returns-in-Ok-clause-costs g c =
    let old = moment g.I.Image g.W.Output c.args.image.now c.args.out.now in
    let on = report_moment g.I.Image g.W.Output c.say_opening.new.image c.say_opening.new.report in
    let new = report_moment g.I.Image g.W.Output c.check_accepted.new.image c.check_accepted.new.report in
    let opens = opens_at g.W.Output.sink _ _ _ _ c.in-Ok.ensures.opens (ap (λ (p : Progress). p.sink) c.new-report.ensures) refl in
    let follows = c.check_accepted.ensures.follows in
    record {
      most = inr (costs_at g.W.Output.sink c.check_accepted.new.report.out.now _ (costs_of _ _ old (at_output on) (at_output new)
          c.in-Ok.superblock _ _ opens.opened opens.answers.inside_or_unreadable follows.memory.asked opens.answers.reads
          follows.reads.any) (search rules));
      refused = follows.memory.refused;
      once = λ fault e. absurd (not_refused _ _ _ _ _ follows.followed e);
    }

pub returns-in-Err-clause-reads : goal.returns-in-Err-clause-reads
returns-in-Err-clause-reads g c = opened_within _ _ _ _ c.in-Err.ensures.opens.answers.reads

pub returns-in-Ok-clause-reads : goal.returns-in-Ok-clause-reads
returns-in-Ok-clause-reads g c =
    let old = moment g.I.Image g.W.Output c.args.image.now c.args.out.now in
    let on = report_moment g.I.Image g.W.Output c.say_opening.new.image c.say_opening.new.report in
    let opens = opens_at g.W.Output.sink _ _ _ _ c.in-Ok.ensures.opens (ap (λ (p : Progress). p.sink) c.new-report.ensures) refl in
    found_within _ _ old (at_output on) _ c.in-Ok.superblock opens.opened opens.answers.reads
    c.check_accepted.ensures.follows.reads.known
