use Rattle.std.proofs.Common.{◌≡◌, ◌<◌, ℕ, false}
use Rattle.ffs_survey.specs.Discover.{is_unreached_dir}
use Rattle.ffs_survey.proofs.levels.may_be_unreached.Given as goal

abbrev pub invariant-loop-number : goal.invariant-loop-number
invariant-loop-number l = l.any ≡ false → (x : ℕ) → x < l.number → is_unreached_dir l.kinds l.reached.items x ≡ false

abbrev pub invariant-loop-number-2 : goal.invariant-loop-number-2
invariant-loop-number-2 l = l.any ≡ false → (x : ℕ) → x < l.number → is_unreached_dir l.kinds l.reached.items x ≡ false
