use Rattle.std.proofs.Common.{◌≡◌, ◌-◌, ◌^◌, arith, length}
use Rattle.ffs_image.proofs.Retries.{given_up}
use Rattle.ffs_image.proofs.opened.read_uninterrupted.Goals as goal

pub returns-clause-tried : goal.returns-clause-tried
returns-clause-tried g c =
    let all : c.loop.counter ≡ 2 ^ 64 - 1 = omega arith in
    given_up (λ old. g.F.RawFile.was_read old c.args.at (length c.args.buf.now)) c.loop.counter c.args.file.now
    c.loop.file _ all c.loop.invariant.tried
