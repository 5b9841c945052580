-- All that was due was said, and then more was due and was said.
use Rattle.std.proofs.Common.{◌≡◌, ℕ, List, [], ◌++◌, append_assoc, append-nil, arith}
use Rattle.ffs_volume.specs.Messages.Kinds.{Message}
use Rattle.ffs_image.specs.Known.{ForBytes}
use Rattle.ffs_report.{specs.{PhaseOutcome.SaidOf, Progress.{Progress, Said}}, proofs.Reports.said_then}

pub said_more : {knows : List ℕ → Type 0} {all all' : List ℕ → List Message} {ms : List Message} {a b c : Progress} →
    SaidOf knows (λ bytes. []) all a b → ForBytes knows (λ bytes. all' bytes ≡ all bytes ++ ms) → Said b c ms →
    SaidOf knows (λ bytes. []) all' a c
said_more {ms = ms} {a = a} {b = b} {c = c} p e q = record {
  messages = p.messages ++ ms;
  right = λ bytes k. grind (arith, append_assoc, append-nil, e bytes k, p.right bytes k);
  said = said_then a b c p.messages ms p.said q;
}
