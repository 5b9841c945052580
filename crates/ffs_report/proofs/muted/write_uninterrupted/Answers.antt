use Rattle.std.proofs.Common.{◌≡◌, ◌-◌, ◌^◌, arith, rules}
use Rattle.ffs_image.proofs.Retries.{given_up}
use Rattle.ffs_report.proofs.muted.write_uninterrupted.Goals as goal

pub returns : goal.returns
returns g c =
    let all : c.loop.counter ≡ 2 ^ 64 - 1 = omega arith in
    record {
      bound = search rules;
      bytes = search rules;
      asked = given_up (λ writer. g.S.Outlet.was_written writer c.args.buf.now) c.loop.counter c.args.inner.now
          c.loop.inner _ all c.loop.invariant.tried;
    }
