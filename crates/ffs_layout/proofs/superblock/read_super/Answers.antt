use Rattle.std.proofs.Common.{◌≡◌, ◌*◌, ◌/◌, Err, arith, sym, ◌∙◌, ap, inl, inr}
use Rattle.ffs_volume.{specs.declared.SuperFault.TheVariants.CannotRead, proofs.OutcomeLaws.no_read_fault}
use Rattle.ffs_volume.proofs.Results.{fails_with}
use Rattle.ffs_layout.proofs.Answering.{past_end, magic, fault, disagree, accepted}
use Rattle.ffs_layout.proofs.Copying.{default_sector, own_layout}
use Rattle.ffs_image.proofs.Devices.{reported_length, faulted_there}
use Rattle.ffs_layout.proofs.superblock.read_super.Goals as goal

pub returns-in_err-read_superblock_bytes-clause-answer : goal.returns-in_err-read_superblock_bytes-clause-answer
returns-in_err-read_superblock_bytes-clause-answer g c =
    let unread = c.in_err-read_superblock_bytes.ensures.copied in
    let start = c.from-start.ensures ∙ c.unwrap_or.ensures ∙ default_sector c.args.sector in
    let back : c.from-start.result * 512 / 512 ≡ c.from-start.result = omega arith in
    let long = reported_length _ _ (g.met.I.Image.sized c.args.image.now) in
    rw (fails_with _ c.from_residual.ensures.1) (elim unread.cause [
      | inl failed ↦ inl (
        (unread.fault ∙ ap CannotRead (sym failed.failed_sector), faulted_there _ _ _ failed),
        λ b e. inl (failed.failed_sector ∙ back ∙ start),
      )
      | inr past ↦ inr (
        past.0,
        λ b e. sym (past_end _ _ c.args.sector _ long start past.1 b e
            ∙ ap Err (sym (unread.fault ∙ ap CannotRead back))),
      )
    ])

pub returns-in_default-clause-answer : goal.returns-in_default-clause-answer
returns-in_default-clause-answer g c =
    let copy = c.in_ok-read_superblock_bytes.ensures.copied in
    let start = c.from-start.ensures ∙ c.unwrap_or.ensures ∙ default_sector c.args.sector in
    let long = reported_length _ _ (g.met.I.Image.sized c.args.image.now) in
    inr (
      copy.same,
      λ b e. sym
          (magic _ _ c.args.sector _ long start _ copy.inside copy.bytes (sym c.in_default.ensures) b e),
    )

pub returns-in_err-geometry-clause-inside_or_unreadable : goal.returns-in_err-geometry-clause-inside_or_unreadable
returns-in_err-geometry-clause-inside_or_unreadable g c = grind (arith, no_read_fault)

pub returns-in_err-geometry-clause-answer : goal.returns-in_err-geometry-clause-answer
returns-in_err-geometry-clause-answer g c =
    let copy = c.in_ok-read_superblock_bytes.ensures.copied in
    let start = c.from-start.ensures ∙ c.unwrap_or.ensures ∙ default_sector c.args.sector in
    let long = reported_length _ _ (g.met.I.Image.sized c.args.image.now) in
    let refused = rw (c.decode.ensures, c.size.ensures, copy.same) at c.in_err-geometry.ensures in
    rw (fails_with _ c.from_residual-in_err-geometry.ensures.1) (inr (
      copy.same,
      λ b e. sym (fault _ _ c.args.sector _ long start _ copy.inside copy.bytes _
          (sym c.in-Some.ensures) _ refused b e),
    ))

pub returns-in_err-check_copy-clause-answer : goal.returns-in_err-check_copy-clause-answer
returns-in_err-check_copy-clause-answer g c = grind (arith, disagree)

pub returns-clause-inside_or_unreadable : goal.returns-clause-inside_or_unreadable
returns-clause-inside_or_unreadable g c = grind arith

pub returns-clause-answer : goal.returns-clause-answer
returns-clause-answer g c = grind (arith, accepted, own_layout)
