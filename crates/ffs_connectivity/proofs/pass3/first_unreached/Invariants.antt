use Rattle.std.proofs.Common.{◌≡◌, ◌<◌, ℕ, false}
use Rattle.ffs_survey.specs.Discover.{is_unreached_dir}
use Rattle.ffs_connectivity.proofs.pass3.first_unreached.Given as goal

abbrev pub invariant-loop-number : goal.invariant-loop-number
invariant-loop-number l = record { before : (x : ℕ) → x < l.number → is_unreached_dir l.kinds l.reached.items x ≡ false }
