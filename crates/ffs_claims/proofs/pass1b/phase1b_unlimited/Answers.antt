use Rattle.std.proofs.Common.{Result, Ok, ◌≡◌, ◌≤◌, ◌+◌, ◌-◌, ◌^◌, ◌<◌, ◌∷◌, [], arith, refl, ap, ◌∙◌, Err}
use Rattle.std.proofs.lemmas.Result.{err_from_is_err_and}
use Rattle.ffs_volume.{proofs.{RunBounds.runs_bounded, Results.fails_with}, specs.Blocks.BlockCheck.first_offer_lines}
use Rattle.ffs_volume.specs.Blocks.{BlockCheck.{set_count, unreported_after}, KeptSteps.claims_before, Owners.owners_of}
use Rattle.ffs_volume.specs.{Messages.Kinds.phase1b, Blocks.{Inodes.inodes_of, Claims.all_claims}}
use Rattle.ffs_volume.{specs.Costs.RescanRuns.{runs_until_reported, rescan_runs}, proofs.OwnerLaws.before_next}
use Rattle.ffs_volume.proofs.Sizes.{some_inodes}
use Rattle.ffs_report.proofs.Reporting.{of_begins, of_says, of_part, of_fault, of_stops, of_same, reports_knowing}
use Rattle.ffs_report.proofs.Reporting.{heading_alone, heading_part, said_knows}
use Rattle.ffs_report.specs.declared.fault.RunFault.{RunFault}
use Rattle.ffs_image.specs.Known.{ForBytes}
use Rattle.ffs_maps.specs.Bits.{bits_of}
use Rattle.ffs_workspace.specs.{Found.WithPhase1, declared.workspace.Workspace.Workspace}
use Rattle.ffs_claims.proofs.Clearing.{clears_after, clears_none, none_to_clear, clears_stopped, clears_then}
use Rattle.ffs_claims.proofs.{FirstOffers.all_reported, Duplicates.{none_first, none_left, some_left}}
use Rattle.ffs_claims.proofs.{Frames.{claims_none, claims_then, ready_again}, Numbers.{numbers_most, before_first}}
use Rattle.ffs_claims.proofs.Reportings.{reporting_more, reporting_ends, reporting_begins, lines_split, reporting_over}
use Rattle.ffs_claims.proofs.{Reportings.{part_none, part_then}, RescanCounts.{look_most, looked_none}}
use Rattle.ffs_claims.proofs.Rescanned.{IsNoted, inodes_on, is_noted, offers_at, runs_at, kept_from, runs_from}
use Rattle.ffs_claims.proofs.Rescanned.{looked_on, looked_end, kept_next, kept_end, runs_on, runs_most, claims_hold}
use Rattle.ffs_claims.proofs.{Rescanned.indirect_noted, Rewalks.{runs_pay_all, runs_pay_then}, IndirectReads.read_all}
use Rattle.ffs_claims.proofs.IndirectReads.{read_begins, read_failed, read_failed_until, read_next, read_until}
use Rattle.ffs_claims.proofs.{IndirectReads.read_failed_at, BeforeFaults.{fails_on, said_below}}
use Rattle.ffs_claims.specs.{BeforeFault.dups_from_inode, Lines.of_lines, Phases.{WithNotes, phase1b_messages_for}}
use Rattle.ffs_claims.specs.Rewalking.{rescan_end}
use Rattle.ffs_claims.proofs.pass1b.phase1b_unlimited.Goals as goal

pub returns-in_err-say-clause-again : goal.returns-in_err-say-clause-again
returns-in_err-say-clause-again g c =
    let all = phase1b_messages_for (bits_of c.args.workspace.now.duplicates) c.args.geometry.now.layout in
    rw (fails_with _ c.from_residual.ensures.1)
    (of_stops _ all _ _ (phase1b ∷ []) _ _ _ (of_begins {all = all}) (λ bytes t. refl)
    c.in_err-say.ensures.said)

pub returns-in_err-say-clause-clears : goal.returns-in_err-say-clause-clears
returns-in_err-say-clause-clears g c =
    rw (fails_with _ c.from_residual.ensures.1) (clears_stopped (phase1b ∷ []) (omega arith) c.in_err-say.ensures.said
    (ap (λ (w : Workspace). w.duplicates) c.forget_windows.ensures.only))

pub returns-in_err-say-clause-offers : goal.returns-in_err-say-clause-offers
returns-in_err-say-clause-offers g c =
    let forgot = c.forget_windows.ensures.only in
    rw (fails_with _ c.from_residual.ensures.1) (λ bytes k.
    part_none _ _ (ap (λ (w : Workspace). w.duplicates) forgot) (ap (λ (w : Workspace). w.marked) forgot))

pub returns-in_err-say-clause-ready : goal.returns-in_err-say-clause-ready
returns-in_err-say-clause-ready g c =
    (ready_again refl (c.forget_windows.ensures.forgets c.args.geometry.now.layout _ c.requires.ready)).ready

pub loop-number-init : goal.loop-number-init
unfolding owners_of all_claims rescan_runs rescan_end
loop-number-init g c =
    let v = c.args.geometry.now.layout in
    let old = c.args.workspace.now in
    let new = c.forget_windows.new.self in
    let forgot = c.forget_windows.ensures.only in
    let d = bits_of new.duplicates in
    let same : d ≡ bits_of old.duplicates = ap (λ (w : Workspace). bits_of w.duplicates) forgot in
    let claims = claims_none old in
    let can = c.forget_windows.ensures.forgets v _ c.requires.ready in
    record {
      ready = ready_again refl can;
      device = refl;
      claims = grind arith;
      low = omega arith;
      high = λ h. omega arith;
      runs = λ bytes k. omega arith;
      reads = record { rises = λ _. omega arith; paid = λ _. omega arith };
      known = λ bytes k. read_begins v bytes (omega arith) (before_first v bytes);
      count = λ bytes k. rw (before_first v bytes, same, k.1.duplicates) (omega arith);
      inodes = λ bytes k. rw (before_first v bytes, same, k.1.duplicates) refl;
      reported = λ bytes k. reporting_begins old _ (rw (before_first v bytes) refl)
          (ap (λ (w : Workspace). w.duplicates) forgot) (ap (λ (w : Workspace). w.marked) forgot);
      said = of_says
          {rest' = λ bytes. of_lines (first_offer_lines d (kept_from v bytes 2))} {ms = phase1b ∷ []}
          (of_begins {all = phase1b_messages_for (bits_of old.duplicates) v})
          (λ bytes k. rw (before_first v bytes, same) refl) c.in_ok-say.ensures.said;
      heading = heading_alone c.in_ok-say.ensures.said;
      clears = clears_none refl refl;
      none = λ e. omega arith;
    }

pub returns-in_err-rewalk_inode-clause-faults : goal.returns-in_err-rewalk_inode-clause-faults
returns-in_err-rewalk_inode-clause-faults g c = grind arith

pub returns-in_err-rewalk_inode-clause-again : goal.returns-in_err-rewalk_inode-clause-again
returns-in_err-rewalk_inode-clause-again g c =
    let v = c.args.geometry.now.layout in
    let inv = c.loop-number.invariant in
    let n = c.loop-number.number in
    let d = bits_of c.loop-number.workspace.duplicates in
    let notes = c.loop-number.workspace.notes.items in
    let fault : Result (Unit {0}) RunFault = Err c.in_err-rewalk_inode.field-0.0 in
    rw (fails_with _ c.from_residual-in_err-rewalk_inode.ensures.1)
    (of_fault (Unit {0}) (Unit {0}) _ (λ bytes. of_lines (first_offer_lines d (kept_from v bytes n)))
    (λ bytes. of_lines (first_offer_lines d (offers_at v bytes notes n)))
    (λ bytes. of_lines (first_offer_lines (unreported_after d (offers_at v bytes notes n))
    (kept_from v bytes (n + 1))))
    _ _ _ _ c.in_err-rewalk_inode.field-0.0 inv.said (λ bytes k. lines_split d _ _ _ _ (kept_next v bytes notes n
    (is_noted c.args.geometry.now.sound inv.low (omega arith) inv.claims k.1)) refl)
    (reports_knowing (Unit {0}) _ _ _ _ _ fault (λ bytes k. ap (λ d. d.contents) inv.device ∙ k.0)
    c.in_err-rewalk_inode.ensures.walks.text))

pub returns-in_err-rewalk_inode-clause-offers : goal.returns-in_err-rewalk_inode-clause-offers
returns-in_err-rewalk_inode-clause-offers g c =
    let from = c.from_residual-in_err-rewalk_inode in
    let v = c.args.geometry.now.layout in
    let inv = c.loop-number.invariant in
    rw (fails_with _ from.ensures.1) (λ bytes k. part_then _ (inv.reported bytes k)
    (kept_next v bytes c.loop-number.workspace.notes.items c.loop-number.number
    (is_noted c.args.geometry.now.sound inv.low (omega arith) inv.claims k.1))
    (c.in_err-rewalk_inode.ensures.walks.part bytes (ap (λ d. d.contents) inv.device ∙ k.0)))

pub returns-in_err-rewalk_inode-clause-clears : goal.returns-in_err-rewalk_inode-clause-clears
returns-in_err-rewalk_inode-clause-clears g c =
    let from = c.from_residual-in_err-rewalk_inode in
    rw (fails_with _ from.ensures.1) (clears_after phase1b c.in_ok-say.ensures.said
    (ap (λ (w : Workspace). w.duplicates) c.forget_windows.ensures.only)
    (clears_then c.loop-number.invariant.clears c.in_err-rewalk_inode.ensures.walks.clears))

pub returns-in_err-rewalk_inode-clause-reads : goal.returns-in_err-rewalk_inode-clause-reads
returns-in_err-rewalk_inode-clause-reads g c =
    let v = c.args.geometry.now.layout in
    let inv = c.loop-number.invariant in
    let n = c.loop-number.number in
    let did = c.rewalk_inode.ensures.walks in
    let table = c.rewalk_inode.ensures.by_block in
    let notes = c.loop-number.workspace.notes.items in
    let image = ap (λ d. d.contents) inv.device in
    let last : n < inodes_of v = omega arith in
    let forgot = ap (λ (w : Workspace). set_count (bits_of w.duplicates)) c.forget_windows.ensures.only in
    record {
      runs = λ bytes k.
          let on = runs_on v bytes _ n (is_noted c.args.geometry.now.sound inv.low last inv.claims k.1) in
          let most = runs_most v bytes (n + 1) (omega arith) (λ h. omega arith) in
          omega (arith, inv.runs bytes k, did.runs bytes (ap (λ d. d.contents) inv.device ∙ k.0));
      reads = runs_pay_all _ _ _ (runs_pay_then _ _ _ (n - 1) inv.reads did.counted (omega arith))
          (omega (arith, last, inv.low));
      known = λ bytes k.
          let noted = is_noted c.args.geometry.now.sound inv.low last inv.claims k.1 in
          read_failed c.args.geometry.now.sound last
          (λ held. indirect_noted _ _ noted (table.known held bytes (image ∙ k.0)))
          (indirect_noted _ _ noted (did.known bytes (image ∙ k.0))) (inv.known bytes k);
      last = λ bytes k.
          let noted = is_noted c.args.geometry.now.sound inv.low last inv.claims k.1.notes in
          let d = bits_of c.loop-number.workspace.duplicates in
          let on = inodes_on v bytes notes n d (unreported_after d (offers_at v bytes notes n)) noted
          (some_left _ _ c.has_unreported_dups.ensures c.if-not-has_unreported_dups.false) refl in
          let few = read_failed_until {now' = g.I.Image.reads c.rewalk_inode.new.image} {m = rescan_end v bytes}
          c.args.geometry.now.sound last (omega (arith, on, inv.inodes bytes k))
          (λ held. indirect_noted _ _ noted (table.known held bytes (image ∙ k.0)))
          (indirect_noted _ _ noted (did.known bytes (image ∙ k.0))) (inv.known bytes (k.0, k.1.notes)) in
          omega (arith, few);
      none = λ e. absurd (some_left _ _ c.has_unreported_dups.ensures c.if-not-has_unreported_dups.false
          (none_to_clear inv.clears (forgot ∙ none_left (set_count (bits_of c.args.workspace.now.duplicates)) _ refl e)));
    }

pub loop-number-preserved : goal.loop-number-preserved
loop-number-preserved g c =
    let v = c.args.geometry.now.layout in
    let sound = c.args.geometry.now.sound in
    let inv = c.loop-number.invariant in
    let n = c.loop-number.number in
    let d = bits_of c.loop-number.workspace.duplicates in
    let d' = bits_of c.rewalk_inode.new.workspace.duplicates in
    let notes = c.loop-number.workspace.notes.items in
    let image = ap (λ d. d.contents) inv.device in
    let forgot = ap (λ (w : Workspace). set_count (bits_of w.duplicates)) c.forget_windows.ensures.only in
    let rewalks = c.in_ok-rewalk_inode.ensures.walks in
    let table = c.in_ok-rewalk_inode.ensures.by_block in
    let noted : ForBytes (WithNotes v (g.I.Image.device c.args.image.now) c.args.workspace.now)
    (λ bytes. IsNoted v bytes notes n) = λ bytes k. is_noted sound inv.low (omega arith) inv.claims k.1 in
    let left : ForBytes (WithPhase1 v (g.I.Image.device c.args.image.now) c.args.workspace.now)
    (λ bytes. IsNoted v bytes notes n) = λ bytes k. noted bytes (k.0, k.1.notes) in
    let on : ForBytes (WithPhase1 v (g.I.Image.device c.args.image.now) c.args.workspace.now) (λ bytes.
    runs_until_reported d (runs_from v bytes n)
    ≡ runs_until_reported d (runs_at v bytes notes n) + runs_until_reported d' (runs_from v bytes (n + 1))) = λ bytes k.
    looked_on v bytes notes n d d' (left bytes k) (rewalks.rewalked bytes (image ∙ k.0)).reported.duplicates in
    record {
      ready = rewalks.left.ready;
      device = rewalks.left.image ∙ inv.device;
      claims = claims_then inv.claims rewalks.left.stays;
      low = omega arith;
      high = λ h. omega arith;
      runs = λ bytes k.
          let more = runs_on v bytes notes n (noted bytes k) in
          omega (arith, inv.runs bytes k, rewalks.runs bytes (image ∙ k.0));
      reads = runs_pay_then _ _ _ _ inv.reads c.rewalk_inode.ensures.walks.counted (omega (arith, inv.low));
      known = λ bytes k. read_next sound (omega arith) (before_next v bytes n inv.low) table.again
          (λ held. indirect_noted _ _ (noted bytes k) (table.known held bytes (image ∙ k.0))) table.block
          (indirect_noted _ _ (noted bytes k) (rewalks.known bytes (image ∙ k.0))) (inv.known bytes k);
      count = λ bytes k.
          let most = look_most v bytes in
          let few = runs_bounded v bytes sound in
          let fits : c.loop-number.workspace.runs_again + runs_until_reported d (runs_at v bytes notes n) < 2 ^ 64 =
          omega (arith, inv.count bytes k, on bytes k, sound.numbers.inodes_below, sound.numbers.size_below) in
          omega (arith, inv.count bytes k, on bytes k, (rewalks.rewalked bytes (image ∙ k.0)).count fits);
      inodes = λ bytes k. omega (
        arith,
        inv.inodes bytes k,
        inodes_on v bytes notes n d d' (left bytes k)
            (some_left _ _ c.has_unreported_dups.ensures c.if-not-has_unreported_dups.false)
            (rewalks.rewalked bytes (image ∙ k.0)).reported.duplicates,
      );
      reported = λ bytes k. reporting_more (inv.reported bytes k) (kept_next v bytes notes n (noted bytes k))
          (rewalks.rewalked bytes (image ∙ k.0)).reported;
      said = of_part
          {part = λ bytes. of_lines (first_offer_lines d (offers_at v bytes notes n))}
          {rest' = λ bytes. of_lines (first_offer_lines d' (kept_from v bytes (n + 1)))} inv.said
          (λ bytes k. lines_split d d' _ _ _ (kept_next v bytes notes n (noted bytes k))
          (rewalks.rewalked bytes (image ∙ k.0)).reported.duplicates)
          (said_knows (λ bytes k. image ∙ k.0) rewalks.text);
      heading = heading_part _ _ (Ok tt) inv.heading rewalks.text;
      clears = clears_then inv.clears rewalks.clears;
      none = λ e. absurd (some_left _ _ c.has_unreported_dups.ensures c.if-not-has_unreported_dups.false
          (none_to_clear inv.clears (forgot ∙ e)));
    }

pub returns-then-not-has_unreported_dups : goal.returns-then-not-has_unreported_dups
returns-then-not-has_unreported_dups g c =
    let v = c.args.geometry.now.layout in
    let sound = c.args.geometry.now.sound in
    let inv = c.loop-number.invariant in
    let n = c.loop-number.number in
    let d = bits_of c.loop-number.workspace.duplicates in
    let none = none_left (set_count d) _ c.has_unreported_dups.ensures c.if-not-has_unreported_dups.true in
    record {
      faults = inv.device;
      heading = inv.heading;
      again = of_same {rest' = λ bytes. []} inv.said
          (λ bytes k. ap of_lines (none_first d (kept_from v bytes n) none));
      leaves = λ bytes k. record {
        block_check = claims_hold v bytes c.args.workspace.now _ k.1 inv.claims (reporting_over none (inv.reported bytes (k.0, k.1.notes)));
        reported = all_reported v bytes _ _ k.1 (reporting_over none (inv.reported bytes (k.0, k.1.notes)));
        unsurveyed = ap (λ (w : Workspace). w.surveyed) inv.claims.only ∙ k.1.unsurveyed;
        count = omega (arith, inv.count bytes k, looked_none d (runs_from v bytes n) none);
      };
      offers = λ bytes k. reporting_over none (inv.reported bytes k);
      reads = record {
        runs = λ bytes k. omega (arith, inv.runs bytes k, runs_most v bytes n inv.low inv.high);
        reads = runs_pay_all _ _ _ inv.reads (numbers_most n (inodes_of v) inv.high);
        known = λ bytes k. read_all sound (omega (arith, inv.high, some_inodes v sound)) (inv.known bytes k);
        last = λ bytes k. read_until sound (omega (arith, inv.inodes bytes k)) (inv.known bytes (k.0, k.1.notes));
        none = λ e. inv.none (none_left (set_count (bits_of c.args.workspace.now.duplicates)) _ refl e);
      };
      clears = clears_after phase1b c.in_ok-say.ensures.said
          (ap (λ (w : Workspace). w.duplicates) c.forget_windows.ensures.only) inv.clears;
      stays = inv.claims;
      before_fault = tt;
      ready = inv.ready.ready;
    }

pub returns-after-loop-number : goal.returns-after-loop-number
returns-after-loop-number g c =
    let v = c.args.geometry.now.layout in
    let sound = c.args.geometry.now.sound in
    let inv = c.loop-number.invariant in
    let n = c.loop-number.number in
    let d = bits_of c.loop-number.workspace.duplicates in
    let past : inodes_of v ≤ n = omega arith in
    record {
      faults = inv.device;
      heading = inv.heading;
      again = of_same {rest' = λ bytes. []} inv.said (λ bytes k. ap (λ os. of_lines (first_offer_lines d os))
          (kept_end v bytes (claims_before v bytes n) n past));
      leaves = λ bytes k. record {
        block_check = claims_hold v bytes c.args.workspace.now _ k.1 inv.claims
            (reporting_ends (inv.reported bytes (k.0, k.1.notes)) (kept_end v bytes (claims_before v bytes n) n past));
        reported = all_reported v bytes _ _ k.1
            (reporting_ends (inv.reported bytes (k.0, k.1.notes)) (kept_end v bytes (claims_before v bytes n) n past));
        unsurveyed = ap (λ (w : Workspace). w.surveyed) inv.claims.only ∙ k.1.unsurveyed;
        count = omega (arith, inv.count bytes k, looked_end v bytes d (claims_before v bytes n) n past);
      };
      offers = λ bytes k. reporting_ends (inv.reported bytes k) (kept_end v bytes (claims_before v bytes n) n past);
      reads = record {
        runs = λ bytes k. omega (arith, inv.runs bytes k, runs_most v bytes n inv.low inv.high);
        reads = runs_pay_all _ _ _ inv.reads (numbers_most n (inodes_of v) inv.high);
        known = λ bytes k. read_all sound (omega (arith, inv.high, some_inodes v sound)) (inv.known bytes k);
        last = λ bytes k. read_until sound (omega (arith, inv.inodes bytes k)) (inv.known bytes (k.0, k.1.notes));
        none = λ e. inv.none (none_left (set_count (bits_of c.args.workspace.now.duplicates)) _ refl e);
      };
      clears = clears_after phase1b c.in_ok-say.ensures.said
          (ap (λ (w : Workspace). w.duplicates) c.forget_windows.ensures.only) inv.clears;
      stays = inv.claims;
      before_fault = tt;
      ready = inv.ready.ready;
    }

pub returns-in_err-rewalk_inode-clause-heading : goal.returns-in_err-rewalk_inode-clause-heading
returns-in_err-rewalk_inode-clause-heading g c = grind (arith, err_from_is_err_and, heading_part)

pub returns-in_err-rewalk_inode-clause-before_fault : goal.returns-in_err-rewalk_inode-clause-before_fault
returns-in_err-rewalk_inode-clause-before_fault g c =
    let from = c.from_residual-in_err-rewalk_inode in
    let p = err_from_is_err_and from.result from.ensures.1 in
    let v = c.args.geometry.now.layout in
    let sound = c.args.geometry.now.sound in
    let inv = c.loop-number.invariant in
    let n = c.loop-number.number in
    let d = bits_of c.loop-number.workspace.duplicates in
    let last : n < inodes_of v = omega arith in
    let fault : Result (Unit {0}) RunFault = Err c.in_err-rewalk_inode.field-0.0 in
    let image = ap (λ d. d.contents) inv.device in
    let did = c.in_err-rewalk_inode.ensures in
    rw (p.1, p.2) (fails_on fault (λ sector below. record { left = d; below = below })
    (said_below (Unit {0}) (Unit {0}) _ _ v _ _ (dups_from_inode d v) _ _ _ n c.in_err-rewalk_inode.field-0.0 last
    inv.said did.walks.text (λ bytes k.
    let noted = is_noted sound inv.low last inv.claims k.1 in
    read_failed_at sound inv.low last refl
    (λ held. indirect_noted _ _ noted (did.by_block.known held bytes (image ∙ k.0)))
    (indirect_noted _ _ noted (did.walks.known bytes (image ∙ k.0))) (inv.known bytes k))))
