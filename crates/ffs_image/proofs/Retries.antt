-- Calls that a signal interrupts, again and again.
use Rattle.std.{proofs.Common.{◌≡◌, ◌<◌, ◌-◌, ◌^◌, ℕ, suc, Result, Ok, Err, subst, inl, inr, rules, arith}, specs.Prelude.IsErr}
use Rattle.std.specs.Prelude.{MatchResult}
use Rattle.std.specs.declared.io.Error.{Error}
use Rattle.ffs_image.specs.{Interrupted.{Interruptions, InterruptedOnce, IsInterrupted, IsTriedAgain}, Source.ReadHasFailed}

-- after the last one it gives up
pub given_up : {F : Type 0} (was_asked : F → Result ℕ Error → F → Type 0) (n : ℕ) (a b : F) (error : Error) →
    n ≡ 2 ^ 64 - 1 → Interruptions was_asked n a b → IsTriedAgain was_asked a b (Err error)
given_up was_asked n a b error e p =
    let failed : IsErr {T = ℕ} {E = Error} (Err error) = search rules in
    inr (subst (λ (k : ℕ). Interruptions was_asked k a b) e p, failed)

-- a call that was interrupted has failed
one_failed : {F : Type 0} (was_read : F → ℕ → ℕ → Result ℕ Error → F → Type 0) (at len : ℕ) (a b : F) → 0 < len →
    InterruptedOnce (λ file. was_read file at len) a b → ReadHasFailed was_read
one_failed was_read at len a b some p = record {
  old = a;
  at = at;
  len = len;
  answer = p.answer;
  new = b;
  some = some;
  read = p.asked;
  nothing = is_nothing p.answer p.interrupted;
}
  where
    is_nothing : (answer : Result ℕ Error) → IsInterrupted answer → MatchResult answer (λ n. n ≡ 0) (λ _. Unit {0})
    is_nothing (Ok n) q = absurd q
    is_nothing (Err error) q = tt

last_failed : {F : Type 0} (was_read : F → ℕ → ℕ → Result ℕ Error → F → Type 0) (at len n : ℕ) (a b : F) → 0 < len →
    Interruptions (λ file. was_read file at len) (suc n) a b → ReadHasFailed was_read
last_failed was_read at len n a b some p = one_failed was_read at len p.0 b some p.2

-- a read that was tried again, and gave nothing
pub read_failed : {F : Type 0} (was_read : F → ℕ → ℕ → Result ℕ Error → F → Type 0) (at len : ℕ) (a b : F)
    (answer : Result ℕ Error) → 0 < len → IsTriedAgain (λ file. was_read file at len) a b answer →
    MatchResult answer (λ n. n ≡ 0) (λ _. Unit {0}) → ReadHasFailed was_read
read_failed was_read at len a b answer some (inl p) none = record {
  old = p.between;
  at = at;
  len = len;
  answer = answer;
  new = b;
  some = some;
  read = p.asked;
  nothing = none;
}
read_failed was_read at len a b answer some (inr p) none =
    let count : 2 ^ 64 - 1 ≡ suc (2 ^ 64 - 2) = omega arith in
    last_failed was_read at len (2 ^ 64 - 2) a b some
    (subst (λ (k : ℕ). Interruptions (λ file. was_read file at len) k a b) count p.0)
