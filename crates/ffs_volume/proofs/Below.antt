-- Laws of tests of every number below another.
use Rattle.std.proofs.Common.{◌≡◌, ◌<◌, ◌+◌, ℕ, add-one, Bool, true, false, refl, Decides}
use Rattle.std.proofs.lemmas.Bool.{both_ways, false_from_ne_true, Decides.Decides-below_and}
use Rattle.ffs_volume.specs.Disk.Numbers.{all_below}

all_below-decides : (n : ℕ) (test : ℕ → Bool) → Decides (all_below n test) ((k : ℕ) → k < n → test k ≡ true)
unfolding all_below
all_below-decides n test =
    Decides-below_and test (λ k. test k ≡ true) (λ n. all_below n test) (λ k. (λ e. e, λ e. e)) refl (λ _. refl) n

-- what each number passes, all pass
pub all_below-from : (n : ℕ) (test : ℕ → Bool) → ((k : ℕ) → k < n → test k ≡ true) → all_below n test ≡ true
all_below-from n test h = (all_below-decides n test).1 h

-- what passes below n passes at each
pub all_below-at : (n i : ℕ) (test : ℕ → Bool) → all_below n test ≡ true → i < n → test i ≡ true
all_below-at n i test all h = (all_below-decides n test).0 all i h

-- one more that passes
pub all_below-more : (n : ℕ) (test : ℕ → Bool) → all_below n test ≡ true → test n ≡ true → all_below (n + 1) test ≡ true
unfolding all_below
all_below-more n test before here = rw (add-one, here) before

-- one that fails
pub all_below-fails : (n i : ℕ) (test : ℕ → Bool) → i < n → test i ≡ false → all_below n test ≡ false
all_below-fails n i test h e = false_from_ne_true _ (λ all. both_ways (test i) e (all_below-at n i test all h))
