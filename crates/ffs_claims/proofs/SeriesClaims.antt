-- A series of Runs that the words of an indirect block name, one after the other.
use Rattle.std.proofs.Common.{◌≡◌, ◌≢◌, ℕ, ◌+◌, ◌<◌, ◌≤◌, false, nat_eq, nat_lt, get_or, List, [], ◌∷◌, ap, arith, inr}
use Rattle.std.proofs.{Common.{Option, refl, sym, ◌∙◌, ◌/◌}, lemmas.Bool.{and_parts, Decides.nat_tests}}
use Rattle.std.proofs.Math.Nat.{add-div_right}
use Rattle.ffs_volume.{proofs.Potentials.{cond_holds, moves_then, step_moves}, specs.Blocks.Claims.Claims}
use Rattle.ffs_volume.specs.{Blocks.Claims.{after_step, is_open, step_lines}, declared.Step.Step}
use Rattle.ffs_volume.specs.{Laws.RunLengths.HasLength, declared.Layout.Layout}
use Rattle.ffs_image.specs.Device.{ForContents}
use Rattle.ffs_maps.{proofs.{Bits.run_join, Masks.run_outside}, specs.Bits.set_run}
use Rattle.ffs_walk.specs.{HeldWords.{PassesNextWord, next_address, word_step}, Rests.steps_left, Windows.BlocksHold}
use Rattle.ffs_walk.specs.declared.{blocks.Blocks.Blocks, walk.Walk.Walk}
use Rattle.ffs_workspace.specs.{Holds.claims_of, declared.workspace.Workspace.Workspace}
use Rattle.ffs_claims.{proofs.{IndirectReads.{step_on, word_unseen}, UnclaimedRuns.whole_is}, specs.Leaves.ClaimsOnly}
use Rattle.ffs_claims.specs.{SilentAddresses.{ClaimsAddresses, MeansSame}, Series.{CanClaimSeries, PassesSeries, with_series}}

-- a step claims a Run, and nothing is reported of it
record ClaimsRunOf (v : Layout) (s : Claims) (step : Step) (start : ℕ) : Type 0 where
  claims : record s { used = set_run s.used start v.frag; runs = s.runs + 1; kept = s.kept + v.frag }
      ≡ after_step v s step
  silent : (number : ℕ) → step_lines v number s step ≡ []

-- a Run in range of which all fragments are unclaimed
run_in_series : (v : Layout) (s : Claims) (start block : ℕ) → start ≢ 0 → CanClaimSeries v s start v.frag →
    ClaimsRunOf v s (word_step v.frag start block) start
run_in_series v s start block some can =
    let both = and_parts (nat_lt s.bad 11) (nat_lt s.dup_offers 11) can.uncut in
    let fits = can.in_range start (omega arith) (omega arith) in
    let whole = whole_is v (record s { runs = s.runs + 1 }) start v.frag both.1 fits can.clear in
    let is_run : nat_eq start 0 ≡ false = grind (arith, nat_tests) in
    record {
      claims = rw (is_run, can.uncut, fits) (sym whole.claims);
      silent = λ number. rw (is_run, can.uncut, fits) (whole.silent number);
    }

-- one word more
pub series_next : {v : Layout} {blocks : Blocks} {x y z : Walk} (s : Claims) (start len : ℕ) → v.frag ≤ 8 →
    0 < v.frag → start ≢ 0 → y.geometry.layout ≡ v → next_address blocks y ≡ start + len →
    PassesSeries v blocks start len x y → PassesNextWord y z → CanClaimSeries v s start (len + v.frag) →
    MeansSame v blocks s (with_series v.frag s start (len + v.frag)) x z
series_next {v = v} {blocks = blocks} {x = x} {y = y} {z = z} s start len small some begins layout is p q can =
    let t = with_series v.frag s start len in
    let first = p.claims s (record {
      uncut = can.uncut;
      long = can.long;
      in_range = λ f low high. can.in_range f low (omega arith);
      clear = λ k low. can.clear k (omega arith);
    }) in
    let block = y.single.first + y.single.next in
    let step = word_step v.frag (start + len) block in
    let did = run_in_series v t (start + len) block (λ e. begins (omega (arith, e))) (record {
      uncut = can.uncut;
      long = first.bound.used_length ∙ can.long;
      in_range = λ f low high. can.in_range f (omega arith) (omega arith);
      clear = λ k low. run_outside s.used start len (start + len + k) false (inr (omega arith))
          ∙ ap (λ n. get_or s.used n false) (omega arith) ∙ can.clear (len + k) (omega arith);
    }) in
    let one_more = add-div_right len some in
    let counted : s.runs + len / v.frag + 1 ≡ s.runs + (len + v.frag) / v.frag = omega (arith, one_more) in
    let kept : s.kept + len + v.frag ≡ s.kept + (len + v.frag) = omega arith in
    let now : with_series v.frag s start (len + v.frag) ≡ after_step v t step =
    rw (run_join s.used start len v.frag (len + v.frag) refl, sym counted, sym kept) did.claims in
    let next : (contents : Option (List ℕ)) → BlocksHold v contents blocks →
    ForContents contents (λ bytes. steps_left bytes y ≡ step ∷ steps_left bytes z) = λ contents holds bytes e.
    rw (sym is, sym layout) ((q.word blocks p.held).steps contents (rw layout holds) bytes e) in
    record {
      claims = λ contents holds bytes e. rw (sym (first.claims contents holds bytes e), next contents holds bytes e, now) refl;
      lines = λ contents holds bytes e number. let silent = did.silent number in
          rw (sym (first.lines contents holds bytes e number), next contents holds bytes e, now, silent) refl;
      indirect = λ contents holds bytes e. omega (
        arith,
        first.indirect contents holds bytes e,
        step_on v t (next contents holds bytes e) now,
        word_unseen t v.frag (start + len) block,
      );
      bound = rw now (moves_then s t _ first.bound (step_moves v t step (first.bound.used_length ∙ can.long) small
          (cond_holds (HasLength v.frag) (nat_eq (start + len) 0) _ _ (λ _. tt) (λ _. (some, omega arith)))));
    }

-- the words of a series are claimed with nothing to report
pub series_words : {v : Layout} {a b : Workspace} {x y : Walk} {start len : ℕ} →
    CanClaimSeries v (claims_of a) start len → claims_of b ≡ with_series v.frag (claims_of a) start len →
    ClaimsOnly v a b → a.runs_seen ≤ b.runs_seen → PassesSeries v a.windows.blocks start len x y → ClaimsAddresses v a b x y
series_words {a = a} can now only rises p = record {
  means = rw now (p.claims (claims_of a) can);
  uncut = ap is_open now ∙ can.uncut;
  only = only;
  falls = p.falls;
  same = p.same;
  rises = rises;
  counted = p.counted;
}
