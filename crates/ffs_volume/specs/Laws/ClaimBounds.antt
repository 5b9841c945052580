-- A bound on the Runs that are seen: each Run raises a number, the potential, by at least one.
use Rattle.std.specs.Prelude.{◌≡◌, ◌+◌, ◌*◌, ◌≤◌, ℕ, length, count_by}
use Rattle.ffs_volume.specs.{declared.constants.TheConstants.{MAXBAD, MAXDUP}, Blocks.Claims.Claims}

-- how many fragments are used: reserved or claimed
abbrev pub used_bits : Claims → ℕ
used_bits s = count_by (λ b. b) s.used

-- the potential: how many fragments are used, and how many bad Runs and dup offers the current
-- inode has
abbrev pub potential : Claims → ℕ
potential s = used_bits s + s.bad + s.dup_offers

-- the potential that bounds kept offers: a Run has at most eight of them, so a bad Run counts eightfold
abbrev pub offers_potential : Claims → ℕ
offers_potential s = used_bits s + 8 * s.bad + s.dup_offers

-- from s to s', Runs and kept offers rise by no more than the potentials, maps keep their lengths,
-- and bad Runs and dup offers stay at most eleven
pub record ClaimBound (s s' : Claims) : Type 0 where
  pub few_runs : s'.runs + potential s ≤ s.runs + potential s'
  pub few_kept : s'.kept + offers_potential s ≤ s.kept + offers_potential s'
  pub used_length : length s'.used ≡ length s.used
  pub duplicates_length : length s'.duplicates ≡ length s.duplicates
  pub bad_cap : s.bad ≤ MAXBAD + 1 → s'.bad ≤ MAXBAD + 1
  pub dup_offers_cap : s.dup_offers ≤ MAXDUP + 1 → s'.dup_offers ≤ MAXDUP + 1
