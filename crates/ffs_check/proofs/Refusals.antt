-- What a text leaves of the writer that it was written to.
use Rattle.std.proofs.Common.{◌≡◌, ℕ, List, [], Option, Result, Ok, Err, append-nil, inl, inr, sym, refl, OnErr}
use Rattle.std.specs.{declared.io.Error.Error}
use Rattle.ffs_report.specs.{Outlet.LastWriteFailed, Sink.{Prints, PutRefused}, Writers.{PutsOnce, counted_sink}}
use Rattle.ffs_report.specs.declared.{counted.Counted.Counted, outlet.Outlet.Ghosts, output.OutFault.OutFault}
use Rattle.ffs_check.specs.Refusals.{IsWritten}

module _ {S : Type 0} (contents : S → Option (List ℕ)) (was_written : S → List ℕ → Result ℕ Error → S → Type 0) where
  -- a put that an output over a writer refused is a write that failed
  write_failed : {I : Ghosts S} (out : Counted S I) (now : S) → PutRefused {W = Counted S I} {E = OutFault}
      (λ old piece result new. PutsOnce contents was_written old new piece result) out → out.inner.now ≡ now →
      LastWriteFailed was_written now
  write_failed out now p after = record {
    write = record {
      old = p.old.inner.now;
      piece = p.piece;
      answer = p.refused.answer;
      new = out.inner.now;
      some = p.refused.some;
      written = p.refused.written;
      nothing = p.refused.reported;
    };
    last = sym after;
  }

  pub written : {T : Type 0} {I : Ghosts S} (old new : S) (out out' : Counted S I) (text : List ℕ)
      (result : Result T OutFault) →
      Prints (counted_sink contents out) (counted_sink contents out') text result →
      OnErr result (PutRefused {W = Counted S I} {E = OutFault} (λ before piece answer after.
      PutsOnce contents was_written before after piece answer) out') → out.inner.now ≡ old →
      out'.inner.now ≡ new → IsWritten contents was_written old new text
  written old new out out' text (Ok x) prints refused before after = record {
    prefix = text;
    rest = [];
    whole = sym (append-nil text);
    written = rw (← before, ← after) prints.taken;
    failed = inl refl;
  }
  written old new out out' text (Err fault) prints refused before after = record {
    prefix = prints.prefix;
    rest = prints.rest;
    whole = prints.whole;
    written = rw (← before, ← after) prints.taken;
    failed = inr (write_failed out' new refused after);
  }
