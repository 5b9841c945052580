-- What the memory of the system granted, and how often it refused.
use Rattle.std.specs.Prelude.{◌≡◌, ℕ, Result}
use Rattle.ffs_memory.specs.{Account.{Account, Asks, unused}, declared.counted.CountedAllocator.CountedAllocator}
use Rattle.ffs_memory.specs.declared.system.SystemMemory.{SystemMemory}

-- the account of an allocator whose requests are counted. Its body is hidden (`unfoldable`): all
-- but the counting itself knows an account by the clauses of the calls that were made, and can't
-- make one up
unfoldable pub allocator_account : CountedAllocator → Account
allocator_account a = record { granted = a.granted; refused = a.refused; asked = a.asked }

-- the account of a `SystemMemory` is that of its allocator
abbrev pub account_of : SystemMemory → Account
account_of m = allocator_account m.allocator

-- so many bytes were asked of the memory of the system, of which nothing was granted before: they were
-- granted, or a request was refused
pub record AsksOfSystem {T E : Type 0} (bytes : ℕ) (result : Result T E) : Type 0 where
  pub memory : SystemMemory
  pub memory' : SystemMemory
  pub begun : account_of memory ≡ unused
  pub asked : Asks (account_of memory) (account_of memory') bytes result
