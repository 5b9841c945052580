-- The bounds on counts that the contracts of phase 1 ask for: on the Runs that are seen (`runs_seen`), and on the
-- offers that the current inode keeps (`kept`). Both counts have 64 bits. Neither comes near the least bound: there are
-- no more Runs than `runs_limit`, and an inode keeps hardly more offers than the volume has fragments. So any bounds in
-- between would serve as well. They grow from a call to those that it makes, since some are counted in between.
use Rattle.std.specs.Prelude.{ℕ, ◌^◌}

-- on Runs, before an inode is read
abbrev pub inode_bound : ℕ
inode_bound = 2 ^ 40

-- on Runs, before the first step of an inode: so far none is counted for it, so `inode_bound` is enough for that
abbrev pub first_step_bound : ℕ
first_step_bound = 2 ^ 61

-- on both, before a step that isn't the first: the steps before it added less than 2^61, as `ClaimBound` says
abbrev pub step_bound : ℕ
step_bound = 2 ^ 62

-- on both, before an address or an offer, where others may have been counted since the step: the next one,
-- of at most 64 fragments, fits in 64 bits still
abbrev pub address_bound : ℕ
address_bound = 2 ^ 63

-- on the offers that an inode keeps, where its count of sectors is looked at: times the sectors of a fragment, of which
-- there are at most 2^7, they fit in 64 bits
abbrev pub sectors_bound : ℕ
sectors_bound = 2 ^ 40
