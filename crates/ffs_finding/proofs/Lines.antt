-- A line of a report by itself.
use Rattle.std.proofs.Common.{arith, ◌≡◌, [], ◌∷◌, false, append-nil, Result, Ok, Err}
use Rattle.ffs_volume.specs.Messages.{Kinds.Message, Texts.text_of}
use Rattle.ffs_report.specs.{Progress.{Progress, Says}, Sink.Prints}

-- a line that is the first one was printed, or the output failed in it
pub said_prints : {T E : Type 0} (a b : Progress) (m : Message) (r : Result T E) → a.failed ≡ false →
    Says a b (m ∷ []) r → Prints a.sink b.sink (text_of m) r
said_prints a b m (Ok x) begun p = rw (append-nil (text_of m)) at p.took
said_prints a b m (Err x) begun p = grind (arith, append-nil)
