use Rattle.std.proofs.Common.{◌≡◌, ◌∙◌, ◌+◌, ◌++◌, ◌<◌, ◌≤◌, ℕ, Bool, false, List, [], Result, Err, slice_index, arith}
use Rattle.std.proofs.{Common.{refl, sym, ap}, lemmas.{Bool.Decides.nat_tests, Result.err_from_is_err_and}}
use Rattle.ffs_volume.specs.{declared.Layout.Layout, Encodings.Kinds.{is_allocated_kind, kind_at}}
use Rattle.ffs_volume.specs.{Find.Owner.keeper_lines_of_inode, Blocks.Inodes.inodes_of, Encodings.Notes.note_at}
use Rattle.ffs_report.{proofs.Sinks.took_nil, specs.declared.fault.RunFault.RunFault}
use Rattle.ffs_image.specs.Known.{ForBytes}
use Rattle.ffs_workspace.specs.declared.workspace.Workspace.{Workspace}
use Rattle.ffs_finding.specs.Claims.{WithBlocks}
use Rattle.ffs_claims.proofs.{Rescanned.runs_most, Frames.image_from}
use Rattle.ffs_finding.proofs.{Keepers.{found_lines, found_reads, stays_then}, Owners.{inode_runs, keepers_begin}}
use Rattle.ffs_finding.proofs.{Owners.{keepers_end, keepers_from, keepers_next, no_lines}, Printing.{part, part_fault}}
use Rattle.ffs_finding.proofs.owner.find_keepers_unlimited.Goals as goal

pub loop-number-init : goal.loop-number-init
loop-number-init g c = record {
  device = refl;
  stays = record { held = refl; can_read = c.requires };
  low = omega arith;
  high = λ h. omega arith;
  paid = λ b k. omega arith;
  printed = record {
    lines = [];
    right = λ b k. keepers_begin c.args.geometry.now.layout b c.args.fragment;
    took = took_nil _;
  };
}

pub returns-in_err-find_keeper-clause-finds : goal.returns-in_err-find_keeper-clause-finds
returns-in_err-find_keeper-clause-finds g c =
    let p = err_from_is_err_and c.from_residual.result c.from_residual.ensures.1 in
    let inv = c.loop-number.invariant in
    let v = c.args.geometry.now.layout in
    let n = c.loop-number.number in
    let f = c.args.fragment in
    let sound = c.args.geometry.now.sound in
    let did = c.in_err-find_keeper.ensures.finds in
    let fault : Result (Unit {0}) RunFault = Err c.in_err-find_keeper.field-0.0 in
    let high : n < inodes_of v = omega arith in
    rw (p.1, p.2) (record {
      found = record {
        image = image_from (g.I.Image.device c.find_keeper.new.image)
            fault inv.device did.found.image;
        text = part_fault (Unit {0}) (Unit {0}) _ _ (λ b. keeper_lines_of_inode v b f n)
            (λ b. keepers_from v b f (n + 1)) _ _ _
            _ c.in_err-find_keeper.field-0.0 inv.printed (λ b k. keepers_next v b f n high)
            (found_lines inv.device inv.stays sound inv.low high did);
      };
      reads = λ b k. omega (
        arith,
        inv.paid b k,
        found_reads inv.device inv.stays sound inv.low high did b k,
        runs_most v b (n + 1) (omega (arith, inv.low)) (λ h. omega (arith, high)),
        high,
        inv.low,
      );
    })

-- an inode that isn't allocated has no line
unallocated : (k : ℕ) (b : Bool) → b ≡ is_allocated_kind k → b ≡ false → k ≡ 0
unallocated k b e none = grind (arith, nat_tests)

passed_over : (v : Layout) (b : List ℕ) (f n : ℕ) → 2 ≤ n → n < inodes_of v → kind_at v b n ≡ 0 →
    keepers_from v b f n ≡ keepers_from v b f (n + 1)
passed_over v b f n low high e = grind (arith, keepers_next, no_lines)

pub loop-number-preserved-then-not-is_allocated : goal.loop-number-preserved-then-not-is_allocated
loop-number-preserved-then-not-is_allocated g c =
    let inv = c.loop-number.invariant in
    let v = c.args.geometry.now.layout in
    let n = c.loop-number.number in
    let f = c.args.fragment in
    let high : n < inodes_of v = omega arith in
    let free = unallocated _ _ c.is_allocated.ensures c.if-not-is_allocated.true in
    let knows = WithBlocks v (g.I.Image.device c.args.image.now) c.args.workspace.now in
    let kind : ForBytes knows (λ b. kind_at v b n ≡ 0) = λ b k. sym (k.1.kinds n)
    ∙ (sym (ap (λ (z : Workspace). slice_index z.kinds.items n) inv.stays.held) ∙ free) in
    let note : ForBytes knows (λ b. slice_index c.loop-number.workspace.notes.items n ≡ note_at v b n) = λ b k.
    ap (λ (z : Workspace). slice_index z.notes.items n) inv.stays.held ∙ k.1.notes n in
    record {
      device = inv.device;
      stays = inv.stays;
      low = omega (arith, inv.low);
      high = λ h. omega (arith, high);
      paid = λ b k. omega (
        arith,
        inv.paid b k,
        inv.low,
        inode_runs v b n (slice_index c.loop-number.workspace.notes.items n) c.args.geometry.now.sound inv.low high
            (note b k),
      );
      printed = record {
        lines = inv.printed.lines;
        right = λ b k. ap (λ ls. inv.printed.lines ++ ls) (sym (passed_over v b f n inv.low high (kind b k)))
            ∙ inv.printed.right b k;
        took = inv.printed.took;
      };
    }

pub loop-number-preserved : goal.loop-number-preserved
loop-number-preserved g c =
    let inv = c.loop-number.invariant in
    let v = c.args.geometry.now.layout in
    let n = c.loop-number.number in
    let f = c.args.fragment in
    let sound = c.args.geometry.now.sound in
    let did = c.in_ok-find_keeper.ensures.finds in
    let high : n < inodes_of v = omega arith in
    record {
      device = did.found.image ∙ inv.device;
      stays = stays_then inv.stays c.find_keeper.ensures.stays;
      low = omega (arith, inv.low);
      high = λ h. omega (arith, high);
      paid = λ b k. omega (arith, inv.paid b k, inv.low, found_reads inv.device inv.stays sound inv.low high did b k);
      printed = part _ _ (λ b. keeper_lines_of_inode v b f n) (λ b. keepers_from v b f (n + 1)) _ _ _ _ inv.printed
          (λ b k. keepers_next v b f n high) (found_lines inv.device inv.stays sound inv.low high did);
    }

pub returns-in_err-find_keeper-clause-stays : goal.returns-in_err-find_keeper-clause-stays
returns-in_err-find_keeper-clause-stays g c = stays_then c.loop-number.invariant.stays c.find_keeper.ensures.stays

pub returns-clause-finds : goal.returns-clause-finds
returns-clause-finds g c = grind (arith, keepers_end, runs_most)
