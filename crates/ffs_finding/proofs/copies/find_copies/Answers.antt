use Rattle.std.proofs.{Common.{◌≡◌, ◌+◌, ◌-◌, ℕ, arith, ap, subst, inl, inr}, lemmas.Result.err_from_is_err_and}
use Rattle.std.proofs.lemmas.Bool.{cases_eq}
use Rattle.ffs_report.proofs.Sinks.{took_nil}
use Rattle.ffs_finding.{specs.Copies.IsWindowOf, proofs.{Printing.{part, part_fault}, CopyLaws.{count_is, lines_begin}}}
use Rattle.ffs_finding.proofs.{CopyLaws.{lines_next, lines_end, magics, reads_next, reads_all}, CopySteps.fails_before}
use Rattle.ffs_finding.proofs.copies.find_copies.Goals as goal

pub loop-sector-init : goal.loop-sector-init
loop-sector-init g c = grind (arith, lines_begin, took_nil)

pub returns-in_err-find_copy-clause-prints : goal.returns-in_err-find_copy-clause-prints
returns-in_err-find_copy-clause-prints g c =
    let p = err_from_is_err_and c.from_residual.result c.from_residual.ensures.1 in
    let inv = c.loop-sector.invariant in
    let e = rw inv.device at c.in_err-find_copy.ensures in
    rw (p.1, p.2) (record {
      image = e.found.image;
      text = part_fault (Unit {0}) (Unit {0}) _ _ _ _ _ _ _ _ c.in_err-find_copy.field-0.0 inv.printed
          (λ b k. lines_next b c.loop-sector.sector (omega (arith, c.sectors_end-sector-end.ensures.below)))
          e.found.text;
    })

pub returns-in_err-find_copy-clause-before_fault : goal.returns-in_err-find_copy-clause-before_fault
returns-in_err-find_copy-clause-before_fault g c =
    let p = err_from_is_err_and c.from_residual.result c.from_residual.ensures.1 in
    let inv = c.loop-sector.invariant in
    let e = rw inv.device at c.in_err-find_copy.ensures in
    rw (p.1, p.2) (fails_before _ c.loop-sector.sector _ _ _ c.in_err-find_copy.field-0.0 inv.printed e.failed)

pub returns-in_err-find_copy-clause-reads : goal.returns-in_err-find_copy-clause-reads
returns-in_err-find_copy-clause-reads g c =
    let d = g.I.Image.device c.args.image.now in
    let inv = c.loop-sector.invariant in
    let e = rw inv.device at c.in_err-find_copy.ensures in
    let n = c.loop-sector.sector in
    let inside = c.sectors_end-sector-end.ensures.inside n (omega arith) c.loop-sector-test.true in
    record {
      known = λ b k. reads_all b d.size n _ _ (omega (arith, c.sectors_end-sector-end.ensures.below))
          (omega (arith, inside, c.size.ensures))
          (reads_next d b n _ _ _ _ (omega arith) inv.first (inv.known b k) inv.at (e.counted b k)
          (λ at. e.again at b k));
      any = omega (arith, e.any, inv.any, count_is, c.sectors_end-sector-end.ensures.below, inside, c.size.ensures);
    }

pub loop-sector-preserved : goal.loop-sector-preserved
loop-sector-preserved g c =
    let d = g.I.Image.device c.args.image.now in
    let inv = c.loop-sector.invariant in
    let e = rw inv.device at c.in_ok-find_copy.ensures in
    let n = c.loop-sector.sector in
    let back : n ≡ n + 1 - 1 = omega arith in
    record {
      device = e.found.image;
      room = e.window.room;
      holds = rw (e.found.image) at e.window.holds;
      at = λ h. subst (λ (k : ℕ). IsWindowOf d k c.find_copy.new.window) back e.window.at;
      first = λ h. absurd (omega (arith, h));
      known = λ b k.
          let most = reads_next d b n _ _ _ _ (omega arith) inv.first (inv.known b k) inv.at (e.counted b k)
          (λ at. e.again at b k) in
          let same : magics b n ≡ magics b (n + 1 - 1) = ap (magics b) back in
          omega (arith, most, same);
      any = omega (arith, e.any, inv.any);
      printed = part _ _ _ _ _ _ _ _ inv.printed
          (λ b k. lines_next b n (omega (arith, c.sectors_end-sector-end.ensures.below))) e.found.text;
    }

pub returns-clause-prints : goal.returns-clause-prints
returns-clause-prints g c = grind (arith, lines_end)

pub returns-clause-reads : goal.returns-clause-reads
returns-clause-reads g c =
    let d = g.I.Image.device c.args.image.now in
    let inv = c.loop-sector.invariant in
    let n = c.loop-sector.sector in
    let end = c.sectors_end-sector-end.ensures in
    elim (cases_eq n 1) [
      | inl one ↦
          let none = inv.first one in
          record { known = λ b k. omega (arith, none); any = omega (arith, none) }
      | inr more ↦
          let inside = end.inside (n - 1) (omega (arith, more)) (omega (arith, more, end.some)) in
          record {
            known = λ b k.
                let most = inv.known b k in
                reads_all b d.size (n - 1) _ _ (omega (arith, end.below, end.some))
                (omega (arith, inside, c.size.ensures)) (omega (arith, most, more));
            any = omega (arith, inv.any, count_is, end.below, end.some, more, inside, c.size.ensures);
          }
    ]
