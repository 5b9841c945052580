use Rattle.std.proofs.Common.{◌≡◌, ◌+◌, false, arith, refl, subst, sym, ◌-◌, ◌≤◌, ◌<◌, ap, ◌∙◌, Err, Ok, inl, inr, ◌*◌}
use Rattle.std.proofs.lemmas.{Result.err_from_is_err_and, Bool.cases_lt}
use Rattle.ffs_volume.{proofs.OwnerLaws.before_next, specs.Blocks.{BlockCheck.phase1_lines, Claims.after_owner}}
use Rattle.ffs_volume.specs.Blocks.{Claims.all_claims, KeptSteps.claims_before, Owners.{owner_of, owners_of}}
use Rattle.ffs_volume.{specs.{Report.Whole.run_count, Blocks.Inodes.inodes_of}, proofs.Results.fails_with}
use Rattle.ffs_volume.{specs.Laws.ClaimBounds.used_bits, proofs.Sizes.some_inodes}
use Rattle.ffs_report.proofs.Reporting.{of_part, of_fault, of_same, reports_knowing, says_heading, stops_heading}
use Rattle.ffs_report.proofs.Reporting.{heading_alone, heading_part, said_knows}
use Rattle.ffs_image.specs.Known.{ForBytes}
use Rattle.ffs_workspace.{proofs.Leaving.fresh_held, specs.{Found.WithFresh, Holds.claims_of}}
use Rattle.ffs_workspace.specs.declared.workspace.Workspace.{Workspace}
use Rattle.ffs_maps.specs.Bits.{bits_of}
use Rattle.ffs_claims.{specs.Leaves.StaySet, proofs.{Duplicates.{any_set, rescan_is}, Frames.changes_then}}
use Rattle.ffs_claims.proofs.Frames.{found_none, fresh_surveyed, ready_begun, ready_still, ready_surveyed, zeros_passed}
use Rattle.ffs_claims.proofs.{Inodes.used_below, Numbers.{found_begins, found_cut, found_next, found_all, numbers_most}}
use Rattle.ffs_claims.proofs.{Numbers.{before_first, before_end, lines_next}, TableReads.{blocks_all, blocks_failed}}
use Rattle.ffs_claims.proofs.{TableReads.{blocks_later, blocks_next}, IndirectReads.{VolumeRead, read_all, read_begins}}
use Rattle.ffs_claims.proofs.{IndirectReads.{read_failed, read_later, read_next, read_failed_at}, FreeInodes.AreFree}
use Rattle.ffs_claims.proofs.FreeInodes.{StandsAt, free_by_bytes, has_inodes, lines_later, stands_later}
use Rattle.ffs_claims.{proofs.{BeforeFaults.said_below, Rescanned.runs_most}, specs.BeforeFault.lines_from_inode}
use Rattle.ffs_claims.proofs.pass1.phase1.Goals as goal

pub returns-in_err-say-clause-text : goal.returns-in_err-say-clause-text
returns-in_err-say-clause-text g c =
    rw (fails_with _ c.from_residual.ensures.1) (stops_heading c.in_err-say.ensures.said)

pub returns-in_err-say-clause-part : goal.returns-in_err-say-clause-part
returns-in_err-say-clause-part g c =
    let fresh = fresh_held c.args.geometry.now.layout c.args.workspace.now _ c.forget_windows.ensures.only in
    rw (fails_with _ c.from_residual.ensures.1) (λ bytes k. found_cut (found_none c.reserve.new.workspace)
    (c.reserve.ensures.claims (fresh_surveyed (fresh k.1)) ∙ sym (before_first c.args.geometry.now.layout bytes))
    (found_begins bytes (fresh_surveyed (fresh k.1)) c.reserve.ensures.only.found))

pub reserve-requires : goal.reserve-requires
reserve-requires g c =
    (ready_surveyed (c.forget_windows.ensures.forgets c.args.geometry.now.layout _ c.requires.ready)).ready.made

pub loop-number-init : goal.loop-number-init
unfolding phase1_lines owners_of
loop-number-init g c =
    let v = c.args.geometry.now.layout in
    let found = c.reserve.ensures.only.found in
    let forgot = c.forget_windows.ensures.only in
    let fresh = fresh_held v c.args.workspace.now _ forgot in
    record {
      ready = record {
        ready = ready_still c.reserve.ensures.only.made c.reserve.ensures.only.windows
            (ready_surveyed {surveyed = false} (c.forget_windows.ensures.forgets v _ c.requires.ready));
        all_in_range = c.empty.ensures v;
      };
      walk = c.ended.ensures.geometry;
      device = refl;
      low = omega arith;
      high = λ h. omega arith;
      runs = omega (arith, c.reserve.ensures.runs);
      reads = grind arith;
      known = λ bytes k. read_begins v bytes (omega arith) (c.reserve.ensures.claims (fresh_surveyed (fresh k.1)));
      changes = grind arith;
      claims = λ bytes k. c.reserve.ensures.claims (fresh_surveyed (fresh k.1)) ∙ sym (before_first v bytes);
      found = λ bytes k. found_begins bytes (fresh_surveyed (fresh k.1)) found;
      said = says_heading (λ bytes k. rw (c.reserve.ensures.claims (fresh_surveyed (fresh k.1))) refl) c.in_ok-say.ensures.said;
      heading = heading_alone c.in_ok-say.ensures.said;
    }

pub claim_inode-requires : goal.claim_inode-requires
claim_inode-requires g c = grind (arith, used_below)

pub returns-in_err-claim_inode-clause-faults : goal.returns-in_err-claim_inode-clause-faults
returns-in_err-claim_inode-clause-faults g c = grind arith

pub returns-in_err-claim_inode-clause-text : goal.returns-in_err-claim_inode-clause-text
returns-in_err-claim_inode-clause-text g c =
    let v = c.args.geometry.now.layout in
    let inv = c.loop-number.invariant in
    let s = claims_of c.loop-number.workspace in
    let n = c.loop-number.number in
    rw (fails_with _ c.from_residual-in_err-claim_inode.ensures.1)
    (of_fault (Unit {0}) (Unit {0}) _ _ _ _ _ _ _ _ c.in_err-claim_inode.field-0.0
    inv.said (λ bytes t. lines_next v bytes s (after_owner v s (owner_of v bytes n)) n (omega arith) refl)
    (reports_knowing (Unit {0}) _ _ _ _ _ (Err c.in_err-claim_inode.field-0.0)
    (λ bytes k. ap (λ d. d.contents) inv.device ∙ k.0) c.in_err-claim_inode.ensures.claims.text))

pub returns-in_err-claim_inode-clause-part : goal.returns-in_err-claim_inode-clause-part
returns-in_err-claim_inode-clause-part g c =
    let from = c.from_residual-in_err-claim_inode in
    rw (fails_with _ from.ensures.1) (λ bytes k. found_cut c.in_err-claim_inode.ensures.unstored
    (c.loop-number.invariant.claims bytes k) (c.loop-number.invariant.found bytes k))

pub returns-in_err-claim_inode-clause-stays : goal.returns-in_err-claim_inode-clause-stays
returns-in_err-claim_inode-clause-stays g c =
    let changes = changes_then c.loop-number.invariant.changes c.claim_inode.ensures.claims.left.changes in
    grind (arith, err_from_is_err_and)

pub loop-number-preserved : goal.loop-number-preserved
loop-number-preserved g c =
    let v = c.args.geometry.now.layout in
    let inv = c.loop-number.invariant in
    let s = claims_of c.loop-number.workspace in
    let s' = claims_of c.claim_inode.new.workspace in
    let n = c.loop-number.number in
    let contents = ap (λ d. d.contents) inv.device in
    let lt : n < inodes_of v = omega arith in
    let now = c.in_ok-claim_inode.ensures.claims.claims in
    let after : ForBytes (WithFresh v (g.I.Image.device c.args.image.now) c.args.workspace.now)
    (λ bytes. s' ≡ after_owner v (claims_before v bytes n) (owner_of v bytes n)) = λ bytes k. now bytes (contents ∙ k.0)
    ∙ ap (λ t. after_owner v t (owner_of v bytes n)) (inv.claims bytes k) in
    let w = c.claim_inode.new.workspace in
    let next = c.skip_free_inodes-number.result in
    let ready = c.claim_inode.ensures.claims.left.claim.ready in
    let passes = c.skip_free_inodes-number.ensures in
    let high : next ≤ inodes_of v = omega (arith, passes.ends.high) in
    let gives = ap (λ d. d.contents) (c.in_ok-claim_inode.ensures.claims.left.image ∙ inv.device) in
    let stands : ForBytes (WithFresh v (g.I.Image.device c.args.image.now) c.args.workspace.now)
    (λ bytes. StandsAt v bytes w (n + 1)) = λ bytes k. record {
      claims = after bytes k ∙ sym (before_next v bytes n inv.low);
      found = found_next inv.low lt inv.ready.ready.ready.made (after bytes k)
          (c.in_ok-claim_inode.ensures.stored bytes (contents ∙ k.0)) (inv.found bytes k);
    } in
    let said = of_part inv.said (λ bytes k. lines_next v bytes s s' n lt (now bytes (contents ∙ k.0)))
    (said_knows (λ bytes k. contents ∙ k.0) c.in_ok-claim_inode.ensures.claims.text) in
    let runs : w.runs_seen ≤ used_bits s' + 22 * (n + 1 - 2) =
    omega (arith, inv.runs, inv.low, c.in_ok-claim_inode.ensures.claims.left.runs_claim) in
    let reads = blocks_next c.args.geometry.now.sound c.claim_inode.ensures.by_block.again
    c.in_ok-claim_inode.ensures.by_block.block c.claim_inode.ensures.claims.left.counted inv.reads in
    let known : ForBytes (WithFresh v (g.I.Image.device c.args.image.now) c.args.workspace.now)
    (λ bytes. VolumeRead v bytes s' (n + 1) (g.I.Image.reads c.args.image.now) (g.I.Image.reads c.claim_inode.new.image)
    w.windows.table) = λ bytes k. read_next c.args.geometry.now.sound lt (now bytes (contents ∙ k.0))
    (λ held. (c.claim_inode.ensures.by_block.again held).0)
    (λ held. c.claim_inode.ensures.by_block.known held bytes (contents ∙ k.0)) c.in_ok-claim_inode.ensures.by_block.block
    (c.claim_inode.ensures.claims.known bytes (contents ∙ k.0)) (inv.known bytes k) in
    let heading = heading_part _ _ {x = tt {0}} (Ok (tt {0})) inv.heading c.in_ok-claim_inode.ensures.claims.text in
    elim (cases_lt (n + 1) next) [
      | inl some ↦
          let free : ForBytes (WithFresh v (g.I.Image.device c.args.image.now) c.args.workspace.now)
          (λ bytes. AreFree v bytes (n + 1) next) = λ bytes k x from below.
          free_by_bytes ready.windows.table.made ready.windows.table.holds (passes.ends.free x from below) bytes (gives ∙ k.0) in
          rw (passes.some some) (record {
            ready = record { ready = ready_begun refl ready; all_in_range = c.claim_inode.ensures.claims.left.claim.all_in_range };
            walk = c.claim_inode.ensures.claims.left.walk;
            device = c.in_ok-claim_inode.ensures.claims.left.image ∙ inv.device;
            low = omega (arith, some);
            high = λ h. high;
            runs = omega (arith, runs, some);
            reads = blocks_later passes.ends.low reads;
            known = λ bytes k. read_later some high (free bytes k) (known bytes k);
            changes = changes_then inv.changes (zeros_passed c.claim_inode.ensures.claims.left.changes);
            claims = λ bytes k. (stands_later (omega (arith, inv.low)) some high ready.ready.made (free bytes k)
                (stands bytes k)).claims;
            found = λ bytes k. (stands_later (omega (arith, inv.low)) some high ready.ready.made (free bytes k)
                (stands bytes k)).found;
            said = of_same said
                (λ bytes k. lines_later v bytes s' (n + 1) next some high (free bytes k));
            heading = heading;
          })
      | inr none ↦
          let is : next ≡ n + 1 = omega (arith, none, passes.ends.low) in
          rw (passes.none is, is) (record {
            ready = c.claim_inode.ensures.claims.left.claim;
            walk = c.claim_inode.ensures.claims.left.walk;
            device = c.in_ok-claim_inode.ensures.claims.left.image ∙ inv.device;
            low = omega arith;
            high = λ h. omega arith;
            runs = runs;
            reads = reads;
            known = known;
            changes = changes_then inv.changes c.claim_inode.ensures.claims.left.changes;
            claims = λ bytes k. (stands bytes k).claims;
            found = λ bytes k. (stands bytes k).found;
            said = said;
            heading = heading;
          })
    ]

pub skip_free_inodes-number-requires : goal.skip_free_inodes-number-requires
skip_free_inodes-number-requires g c =
    let ready = c.claim_inode.ensures.claims.left.claim.ready in
    record {
      inodes = has_inodes ready.windows.table.made ready.windows.table.holds;
      some = omega arith;
      order = omega arith;
      before = omega (arith, ready.ready.made.kinds);
    }

pub returns-clause-text : goal.returns-clause-text
returns-clause-text g c = grind arith

pub returns-clause-leaves : goal.returns-clause-leaves
unfolding run_count all_claims
returns-clause-leaves g c = λ bytes k.
    let inv = c.loop-number.invariant in
    let past : inodes_of c.args.geometry.now.layout ≤ c.loop-number.number = omega arith in
    let all = inv.claims bytes k ∙ before_end _ bytes _ past inv.high inv.low in
    let holds = found_all past all (inv.found bytes k) in
    record {
      holds = record {
        used = holds.used;
        duplicates = holds.duplicates;
        kinds = holds.kinds;
        marked = holds.marked;
        notes = holds.notes;
        starts = holds.starts;
        unsurveyed = ap (λ (w : Workspace). w.surveyed) inv.changes.only;
      };
      has_dups = c.has_unreported_dups-workspace.ensures ∙ ap any_set holds.duplicates
          ∙ rescan_is c.args.geometry.now.layout bytes;
      count = ap (λ s. s.runs) all;
    }

pub returns-in_err-claim_inode-clause-reads : goal.returns-in_err-claim_inode-clause-reads
returns-in_err-claim_inode-clause-reads g c =
    let inv = c.loop-number.invariant in
    let left = c.claim_inode.ensures.claims.left in
    let contents = ap (λ d. d.contents) inv.device in
    let most = numbers_most c.loop-number.number _ inv.high in
    record {
      runs = omega (arith, inv.runs, left.bound, most);
      reads = blocks_failed c.claim_inode.new.workspace.runs_seen c.args.geometry.now.sound (omega arith) c.claim_inode.ensures.by_block.again left.counted
          inv.reads;
      most = λ bytes k.
          let n = c.loop-number.number in
          let next = ap (λ s. s.runs) (before_next c.args.geometry.now.layout bytes n inv.low) in
          let before = ap (λ s. (after_owner c.args.geometry.now.layout s (owner_of c.args.geometry.now.layout bytes n)).runs)
          (inv.claims bytes k) in
          let rest = runs_most c.args.geometry.now.layout bytes (n + 1) (omega arith) (λ h. omega arith) in
          omega (arith, next, before, rest, c.claim_inode.ensures.claims.most bytes (contents ∙ k.0));
      known = λ bytes k. read_failed c.args.geometry.now.sound (omega arith)
          (λ held. c.claim_inode.ensures.by_block.known held bytes (contents ∙ k.0))
          (c.claim_inode.ensures.claims.known bytes (contents ∙ k.0)) (inv.known bytes k);
    }

pub returns-clause-reads : goal.returns-clause-reads
returns-clause-reads g c =
    let v = c.args.geometry.now.layout in
    let sound = c.args.geometry.now.sound in
    let inv = c.loop-number.invariant in
    let most = numbers_most c.loop-number.number _ inv.high in
    record {
      runs = omega (arith, inv.runs, used_below inv.ready.ready.ready.made, most);
      reads = blocks_all sound (omega (arith, inv.high, some_inodes v sound)) inv.reads;
      most = λ bytes k.
          let past : inodes_of v ≤ c.loop-number.number = omega arith in
          omega (arith, ap (λ s. s.runs) (inv.claims bytes k), runs_most v bytes c.loop-number.number inv.low inv.high);
      known = λ bytes k. read_all sound (omega (arith, inv.high, some_inodes v sound)) (inv.known bytes k);
    }

pub returns-in_err-claim_inode-clause-heading : goal.returns-in_err-claim_inode-clause-heading
returns-in_err-claim_inode-clause-heading g c = grind (arith, err_from_is_err_and, heading_part)

pub returns-in_err-say-clause-stays : goal.returns-in_err-say-clause-stays
returns-in_err-say-clause-stays g c =
    let found = c.reserve.ensures.only.found in
    let forgot = c.forget_windows.ensures.only in
    let now = c.reserve.new.workspace in
    rw (fails_with _ c.from_residual.ensures.1) (record {
      changes = record {
        only = grind arith;
        used = subst (λ (w : Workspace). StaySet (bits_of w.used) (bits_of now.used)) forgot found.used;
        duplicates = subst (λ (w : Workspace). StaySet (bits_of w.duplicates) (bits_of now.duplicates)) forgot
            found.duplicates;
      };
      has_dups = grind arith;
    })

pub returns-clause-stays : goal.returns-clause-stays
returns-clause-stays g c = let changes = c.loop-number.invariant.changes in record {
  changes = record { only = grind arith; used = changes.used; duplicates = changes.duplicates };
  has_dups = tt;
}

pub returns-in_err-claim_inode-clause-before_fault : goal.returns-in_err-claim_inode-clause-before_fault
returns-in_err-claim_inode-clause-before_fault g c =
    let from = c.from_residual-in_err-claim_inode in
    let p = err_from_is_err_and from.result from.ensures.1 in
    let v = c.args.geometry.now.layout in
    let inv = c.loop-number.invariant in
    let n = c.loop-number.number in
    let contents = ap (λ d. d.contents) inv.device in
    rw (p.1, p.2) (said_below (Unit {0}) (Unit {0}) _ _ v _ _ (lines_from_inode v) _ _ _ n
    c.in_err-claim_inode.field-0.0 (omega arith) (of_same inv.said (λ bytes k. rw (inv.claims bytes k) refl))
    c.in_err-claim_inode.ensures.claims.text
    (λ bytes k. read_failed_at c.args.geometry.now.sound inv.low (omega arith) (inv.claims bytes k)
    (λ held. c.claim_inode.ensures.by_block.known held bytes (contents ∙ k.0))
    (c.claim_inode.ensures.claims.known bytes (contents ∙ k.0)) (inv.known bytes k)))
