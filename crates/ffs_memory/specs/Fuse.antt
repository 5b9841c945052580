-- Which request a fuse refuses.
use Rattle.std.specs.Prelude.{◌≡◌, ℕ, ◌+◌, ◌-◌, ◌^◌, ◌≤◌, ◌==◌, Bool, min, if◌then◌else◌, Result, IsErr}
use Rattle.std.specs.Bool.{OnTrue, OnFalse}
use Rattle.ffs_memory.specs.{Account.{Account, Asks}, declared.{fuse.FuseMemory.FuseMemory, memory.Memory.Ghosts}}

-- the request after which none is left
abbrev pub is_blown : ℕ → Bool
is_blown left = left == 1

-- how many are left after a request
abbrev pub left_after : ℕ → ℕ
left_after left = left - 1

-- a request for these bytes is counted; the fuse is blown where it is the one to be refused, and counts that too
pub record CountsRequest {M : Type 0} (old new : FuseMemory M) (bytes : ℕ) (blown : Bool) : Type 0 where
  pub value : blown ≡ is_blown old.left
  pub counted : new ≡ record old {
    left = left_after old.left;
    own = if blown then min (old.own + 1) (2 ^ 64 - 1) else old.own;
    own_bytes = if blown then min (old.own_bytes + bytes) (2 ^ 64 - 1) else old.own_bytes;
  }

-- a request for these bytes: the fuse refuses it, and the memory below isn't asked, or that memory
-- answers it, by one request at most
pub record BurnsAtRequest {S T E : Type 0} (M : Ghosts S) (old new : FuseMemory S) (bytes : ℕ) (result : Result T E) :
    Type 0 where
  pub left : new.left ≡ left_after old.left
  pub blown : OnTrue (is_blown old.left) (IsErr result × (new.inner ≡ old.inner))
  pub passed : OnFalse (is_blown old.left) (Asks (M.account old.inner) (M.account new.inner) bytes result)
  pub counted : M.requests new.inner ≤ M.requests old.inner + 1

-- a memory with a fuse is made of one below, whose account it shows, and the fuse has refused no
-- request yet
pub record IsFusedMemory {M : Type 0} (account_below : M → Account) (account_of : FuseMemory M → Account) (below : M)
    (left : ℕ) (memory : FuseMemory M) : Type 0 where
  pub made : memory ≡ record { inner = below; left = left; own = 0; own_bytes = 0 }
  pub account : account_of memory ≡ account_below below
