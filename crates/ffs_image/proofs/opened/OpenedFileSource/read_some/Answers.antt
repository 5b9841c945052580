use Rattle.std.{proofs.Common.{◌≡◌, arith, inr, length}, specs.Prelude.MatchResult}
use Rattle.ffs_image.proofs.Retries.{read_failed}
use Rattle.ffs_image.proofs.opened.OpenedFileSource.read_some.Goals as goal

pub invariant_of-self-in_default : goal.invariant_of-self-in_default
invariant_of-self-in_default g c =
    let nothing : MatchResult c.read_uninterrupted.result (λ n. n ≡ 0) (λ _. Unit {0}) = grind arith in
    record {
      sized = grind arith;
      caused = ∣ inr (read_failed g.F.RawFile.was_read c.args.at (length c.args.buf.now) c.args.self.now.file
          c.read_uninterrupted.new.file c.read_uninterrupted.result c.requires c.read_uninterrupted.ensures.tried
          nothing) ∣₁;
    }
