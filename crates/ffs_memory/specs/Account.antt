-- What a memory was asked for, what it granted, and how often it refused.
use Rattle.std.specs.Prelude.{◌≡◌, ◌+◌, ◌-◌, ◌*◌, ◌^◌, ◌≤◌, ℕ, min, [], replicate, vec_capacity, vec_len, Result}
use Rattle.std.specs.{Prelude.MatchResult, declared.{alloc.Global.Global, vec.Vec.Vec}}
use Rattle.ffs_memory.specs.declared.fixed_list.FixedList.{FixedList}

-- the bytes that it granted so far, how many requests it refused, and the bytes of all requests, granted or refused
pub record Account : Type 0 where
  pub granted : ℕ
  pub refused : ℕ
  pub asked : ℕ

-- the account of a memory that was asked for nothing yet
abbrev pub unused : Account
unused = record { granted = 0; refused = 0; asked = 0 }

-- so many bytes more were asked for, whether granted or refused; the count is exact up to `u64::MAX`
pub record AskedFor (old new : Account) (bytes : ℕ) : Type 0 where
  pub most : new.asked ≤ old.asked + bytes
  pub least : min (old.asked + bytes) (2 ^ 64 - 1) ≤ new.asked

-- one request more was refused: the count of refusals rose by one, or stays at `u64::MAX`
abbrev pub RefusedOneMore : Account → Account → Type 0
RefusedOneMore old new = new.refused ≡ min (old.refused + 1) (2 ^ 64 - 1)

-- these bytes were granted, and no request was refused; the count saturates at `u64::MAX`
pub record Granted (old new : Account) (bytes : ℕ) : Type 0 where
  pub granted : new.granted ≡ min (old.granted + bytes) (2 ^ 64 - 1)
  pub refused : new.refused ≡ old.refused
  pub asked : AskedFor old new bytes

-- one request was refused; at most these bytes were granted before, and at most these were asked for, with that request
pub record GaveUp (old new : Account) (limit : ℕ) : Type 0 where
  pub most : new.granted ≤ old.granted + limit
  pub asked : new.asked ≤ old.asked + limit
  pub rose : RefusedOneMore old new

-- a request for these bytes was refused, and so nothing was granted
pub record RequestRefused (old new : Account) (bytes : ℕ) : Type 0 where
  pub granted : new.granted ≡ old.granted
  pub asked : AskedFor old new bytes
  pub rose : RefusedOneMore old new

-- the list, a `FixedList` or a `FilledList` (each is seen as a `Vec`), has n elements, each is x, and
-- its memory has room for no more
pub record IsFilled {A : Type 0} (n : ℕ) (x : A) (list : FixedList A) : Type 0 where
  pub items : list.items ≡ replicate n x
  pub len : vec_len list ≡ n
  pub room : vec_capacity list ≡ n

-- a list of n elements x was granted, which took these bytes
pub record Given {A : Type 0} (old new : Account) (n bytes : ℕ) (x : A) (list : FixedList A) : Type 0 where
  pub filled : IsFilled n x list
  pub granted : Granted old new bytes

-- one request for a list of n elements x was answered: it was granted, or the request was refused
abbrev pub Gives : {A E : Type 0} → (old new : Account) → (n bytes : ℕ) → A → Result (FixedList A) E → Type 0
Gives old new n bytes x result = MatchResult result (Given old new n bytes x) (λ _. RequestRefused old new bytes)

-- the list has no elements yet, and its memory has room for n of them and for no more
pub record IsRoom {A : Type 0} (n : ℕ) (list : Vec A Global) : Type 0 where
  pub empty : list.items ≡ []
  pub len : vec_len list ≡ 0
  pub room : vec_capacity list ≡ n

-- room for n elements of a size was made, and the account rose by it
pub record MadeRoom {A : Type 0} (old new : Account) (n size : ℕ) (list : Vec A Global) : Type 0 where
  pub made : IsRoom n list
  pub granted : Granted old new (size * n)

-- one request for room was answered: the list was made, or the request was refused
abbrev pub MakesRoom : {A E : Type 0} → (old new : Account) → (n size : ℕ) → Result (Vec A Global) E → Type 0
MakesRoom old new n size result = MatchResult result (MadeRoom old new n size)
    (λ _. RequestRefused old new (size * n))

-- these bytes were to be asked for, in one request or in several: all were granted, or a request was refused
abbrev pub Asks : {T E : Type 0} → (old new : Account) → ℕ → Result T E → Type 0
Asks old new bytes result = MatchResult result (λ _. Granted old new bytes) (λ _. GaveUp old new bytes)
