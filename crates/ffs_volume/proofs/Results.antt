-- What holds of the answers of a result.
use Rattle.std.proofs.{Common.{◌≡◌, ap, Result, Ok, Err, OnErr, OnOk, IsErrAnd}, lemmas.Result.on_ok_weaker}

-- what follows from a fact of an Ok answer
pub on_ok : {T E : Type 0} (r : Result T E) (P Q : Type 0) → (P → Q) → OnOk r P → OnOk r Q
on_ok r P Q f h = on_ok_weaker r f h

-- a fact of every answer
pub on_any : {T E P : Type 0} (r : Result T E) → P → OnOk r P
on_any (Ok x) p = p
on_any (Err e) p = tt

pub at_error : {T E P : Type 0} (r : Result T E) → P → OnErr r P
at_error (Ok x) p = tt
at_error (Err e) p = p

-- what the exit of a `?` returns
pub fails_with : {T E : Type 0} {e : E} (r : Result T E) → IsErrAnd r (λ x. x ≡ e) → r ≡ Err e
fails_with (Ok x) h = absurd h
fails_with (Err x) h = ap Err h
