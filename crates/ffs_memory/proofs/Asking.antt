-- What several requests result in.
use Rattle.std.proofs.Common.{◌≡◌, ℕ, ◌+◌, ◌≤◌, Result, arith}
use Rattle.ffs_memory.specs.Account.{Account, Asks, Granted, GaveUp, RequestRefused, unused}
use Rattle.ffs_memory.specs.{System.{AsksOfSystem, account_of}, declared.system.SystemMemory.SystemMemory}

-- two grants, one after the other
pub granted_both : (a b c : Account) (m n total : ℕ) → Granted a b m → Granted b c n → m + n ≡ total → Granted a c total
granted_both a b c m n total g h sum = grind arith

-- a refusal after a grant
pub gave_up_after : (a b c : Account) (m n limit : ℕ) → Granted a b m → GaveUp b c n → m + n ≤ limit → GaveUp a c limit
gave_up_after a b c m n limit g h room = grind arith

-- a refusal with a higher limit
pub gave_up_within : (a b : Account) (n limit : ℕ) → GaveUp a b n → n ≤ limit → GaveUp a b limit
gave_up_within a b n limit h room = grind arith

-- a refusal of one request
pub gave_up_at : (a b : Account) (n limit : ℕ) → RequestRefused a b n → n ≤ limit → GaveUp a b limit
gave_up_at a b n limit h room =
    record { most = omega (arith, h.granted); asked = omega (arith, h.asked.most, room); rose = h.rose }

-- what was asked of a memory of the system that was new
pub of_system : {T E : Type 0} (bytes : ℕ) (result : Result T E) (memory memory' : SystemMemory) →
    account_of memory ≡ unused → Asks (account_of memory) (account_of memory') bytes result → AsksOfSystem bytes result
of_system bytes result memory memory' begun asked =
    record { memory = memory; memory' = memory'; begun = begun; asked = asked }
