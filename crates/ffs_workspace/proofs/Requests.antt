-- What the requests of a workspace result in.
use Rattle.std.proofs.{Common.{◌+◌, ℕ, refl}, lemmas.Result.err_from_is_err_and}
use Rattle.ffs_memory.{specs.Account.{Account, Granted}, proofs.Asking.{granted_both, gave_up_after, gave_up_at}}
use Rattle.ffs_memory.proofs.Asking.{gave_up_within}

-- two grants, one after the other
pub both : {a b c : Account} {m n : ℕ} → Granted a b m → Granted b c n → Granted a c (m + n)
both {a} {b} {c} {m} {n} g h = granted_both a b c m n (m + n) g h refl

-- one of several requests was refused
pub ruleset refusals = (err_from_is_err_and, gave_up_within, gave_up_after, gave_up_at, both)
