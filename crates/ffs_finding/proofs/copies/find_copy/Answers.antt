use Rattle.std.proofs.Common.{◌∙◌, arith, rules, sym, ap}
use Rattle.ffs_volume.{specs.Find.Copies.copy_lines_of, proofs.Results.fails_with}
use Rattle.ffs_finding.proofs.Printing.{one, one_broken, prints_all, prints_none, stops_all, reads_first}
use Rattle.ffs_finding.proofs.CopySteps.{no_line, one_read, same_super, super_unread, holds_on}
use Rattle.ffs_finding.proofs.copies.find_copy.Goals as goal

pub returns-in_err-found : goal.returns-in_err-found
returns-in_err-found g c = grind (arith, reads_first)

pub returns-then-not-found : goal.returns-then-not-found
returns-then-not-found g c =
    let e = c.in_ok-found.ensures.answer in
    let read = c.has_magic.ensures.reads in
    record {
      found = record {
        image = e.read;
        text = prints_none (no_line (g.I.Image.device c.args.image.now) c.args.sector
            (g.met.I.Image.sized c.args.image.now) c.requires.inside
            (λ b k. sym c.if-not-found.true ∙ e.answer b k));
      };
      window = record { at = e.window.at; room = e.window.room; holds = e.window.holds };
      counted = λ b k. omega (arith, read.counted);
      again = λ at b k. omega (arith, read.again at);
      any = omega (arith, read.counted);
      failed = tt;
    }

pub returns-in_err-print_copy-in-Ok : goal.returns-in_err-print_copy-in-Ok
returns-in_err-print_copy-in-Ok g c =
    let e = c.in_ok-found.ensures.answer in
    let read = c.has_magic.ensures.reads in
    let s = same_super e.read c.in-Ok.ensures.answer in
    let more = one_read (g.I.Image.device c.args.image.now) c.args.sector
    (λ b k. sym c.if-not-found.false ∙ e.answer b k) in
    rw (fails_with _ c.from_residual-in_err-print_copy-in-Ok.ensures.1) (record {
      found = record {
        image = s.0;
        text = stops_all (λ b k. ap (copy_lines_of c.args.sector) (sym (s.1 b k)))
            (one_broken c.in_err-print_copy-in-Ok.ensures);
      };
      window = record { at = search rules; room = e.window.room; holds = holds_on e.read s.0 e.window.holds };
      counted = λ b k. let reads = more b k in omega (arith, read.counted, reads, c.in-Ok.ensures.reads);
      again = λ at b k. let reads = more b k in omega (arith, read.again at, reads, c.in-Ok.ensures.reads);
      any = omega (arith, read.counted, c.in-Ok.ensures.reads);
      failed = tt;
    })

pub returns-in_ok-print_copy-in-Ok : goal.returns-in_ok-print_copy-in-Ok
returns-in_ok-print_copy-in-Ok g c =
    let e = c.in_ok-found.ensures.answer in
    let read = c.has_magic.ensures.reads in
    let s = same_super e.read c.in-Ok.ensures.answer in
    let more = one_read (g.I.Image.device c.args.image.now) c.args.sector
    (λ b k. sym c.if-not-found.false ∙ e.answer b k) in
    record {
      found = record {
        image = s.0;
        text = prints_all (λ b k. ap (copy_lines_of c.args.sector) (sym (s.1 b k)))
            (one c.in_ok-print_copy-in-Ok.ensures);
      };
      window = record { at = e.window.at; room = e.window.room; holds = holds_on e.read s.0 e.window.holds };
      counted = λ b k. let reads = more b k in omega (arith, read.counted, reads, c.in-Ok.ensures.reads);
      again = λ at b k. let reads = more b k in omega (arith, read.again at, reads, c.in-Ok.ensures.reads);
      any = omega (arith, read.counted, c.in-Ok.ensures.reads);
      failed = tt;
    }

pub returns-in-Err-CannotRead : goal.returns-in-Err-CannotRead
returns-in-Err-CannotRead g c =
    let failed = c.in-Err-CannotRead in
    let at = super_unread {at = failed.sector} (cc) c.in_ok-found.ensures.answer.read failed.ensures.answer in
    grind (arith, reads_first, at)
