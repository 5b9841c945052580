-- What the words of an indirect block claim with nothing to report, one after the other.
use Rattle.std.proofs.Common.{◌≡◌, ◌≢◌, ℕ, ◌+◌, ◌<◌, ◌≤◌, true, false, nat_eq, nat_lt, List, ◌∷◌, arith, Option, refl}
use Rattle.std.proofs.{Common.{subst, sym, ◌∙◌}, lemmas.Bool.{and_parts, Decides.nat_tests}}
use Rattle.ffs_volume.{proofs.Potentials.{cond_holds, moves_then, stays}, specs.Blocks.Claims.{after_step, is_open}}
use Rattle.ffs_volume.specs.{Disk.Areas.is_run_in_range, Laws.{Geometry.IsAcceptedLayout, RunLengths.HasLength}}
use Rattle.ffs_volume.specs.declared.Layout.{Layout}
use Rattle.ffs_image.specs.Device.{ForContents}
use Rattle.ffs_maps.specs.Bits.{bits_of, AreClear, set_run}
use Rattle.ffs_walk.specs.{Counts.EntersOnly, HeldWords.word_step, Rests.{SameFileBlocks, most_steps_left, steps_left}}
use Rattle.ffs_walk.specs.{Windows.BlocksHold, declared.walk.Walk.Walk}
use Rattle.ffs_workspace.specs.{Holds.claims_of, Lengths.IsFor, declared.workspace.Workspace.Workspace}
use Rattle.ffs_claims.proofs.{Frames.only_then, IndirectReads.{step_on, word_unseen}, UnclaimedRuns.whole_is}
use Rattle.ffs_claims.{proofs.Inodes.{moves_on, seen_bound}, specs.Bounds.{step_bound, address_bound}}
use Rattle.ffs_claims.specs.{SilentAddresses.{ClaimsAddress, ClaimsSilently, ClaimsAddresses}, Claiming.CanSeeNext}
use Rattle.ffs_claims.specs.declared.area.DataArea.{DataArea}

-- a Run in range of which all fragments are unclaimed
pub run_claims : {v : Layout} {old new : Workspace} (start len block : ℕ) → is_open (claims_of old) ≡ true →
    start ≢ 0 → is_run_in_range v start len ≡ true → AreClear (bits_of old.used) start len →
    claims_of new ≡ record (claims_of old)
    { used = set_run (bits_of old.used) start len; runs = old.runs_seen + 1; kept = old.kept + len } →
    ClaimsSilently v (word_step len start block) old new
run_claims {v = v} {old = old} start len block uncut some fits clear now =
    let both = and_parts (nat_lt old.bad 11) (nat_lt old.dup_offers 11) uncut in
    let whole = whole_is v (record (claims_of old) { runs = old.runs_seen + 1 }) start len both.1 fits clear in
    let is_run : nat_eq start 0 ≡ false = grind (arith, nat_tests) in
    record {
      claims = now ∙ rw (is_run, uncut, fits) (sym whole.claims);
      silent = λ number. rw (is_run, uncut, fits) (whole.silent number);
    }

-- one address
pub address_once : {v : Layout} {a b : Workspace} {x y : Walk} {address len : ℕ} (block : ℕ) → 0 < len → len ≤ v.frag →
    v.frag ≤ 8 → IsFor v a → ((contents : Option (List ℕ)) → BlocksHold v contents a.windows.blocks →
    ForContents contents (λ bytes. steps_left bytes x ≡ word_step len address block ∷ steps_left bytes y)) →
    ClaimsAddress v address len a b → most_steps_left y < most_steps_left x → SameFileBlocks x y → EntersOnly x y 0 →
    ClaimsAddresses v a b x y
address_once {v = v} {a = a} {b = b} {x = x} {y = y} {address = address} {len = len} block some short small made next
    did falls same counted =
    let step = word_step len address block in
    let silently = did.claims block in
    let now : claims_of b ≡ after_step v (claims_of a) step = silently.claims in
    record {
      means = record {
        claims = λ contents holds bytes e. rw (next contents holds bytes e, now) refl;
        lines = λ contents holds bytes e number. let silent = silently.silent number in grind arith;
        indirect = λ contents holds bytes e. omega (
          arith,
          step_on v (claims_of a) (next contents holds bytes e) now,
          word_unseen (claims_of a) len address block,
        );
        bound = moves_on step made small (cond_holds (HasLength v.frag) (nat_eq address 0) _ _ (λ _. tt)
            (λ _. (some, short))) now (stays (claims_of a));
      };
      uncut = did.uncut;
      only = did.only;
      falls = omega (arith, falls);
      same = same;
      rises = did.rises;
      counted = counted;
    }

-- some words after others
pub words_then : {v : Layout} {a b c : Workspace} {x y z : Walk} → ClaimsAddresses v a b x y → ClaimsAddresses v b c y z →
    ClaimsAddresses v a c x z
words_then {a = a} {b = b} {c = c} p q = grind (arith, moves_then, only_then)

-- there is still room to count what the next address offers
pub sees_still : {v : Layout} {a b : Workspace} {area : DataArea} {x y : Walk} → IsAcceptedLayout v →
    CanSeeNext v a area step_bound → ClaimsAddresses v a b x y → CanSeeNext v b area address_bound
sees_still {a = a} g can words = grind (arith, seen_bound)

-- the layout of the walk's geometry is that of the volume
pub words_for : {v v' : Layout} {a b : Workspace} {x y : Walk} → v ≡ v' → ClaimsAddresses v a b x y → ClaimsAddresses v' a b x y
words_for {a = a} {b = b} {x = x} {y = y} e words = subst (λ v. ClaimsAddresses v a b x y) e words

pub sees_for : {v v' : Layout} {w : Workspace} {area : DataArea} {most : ℕ} → v ≡ v' → CanSeeNext v w area most →
    CanSeeNext v' w area most
sees_for {w = w} {area = area} {most = most} e sees = subst (λ v. CanSeeNext v w area most) e sees
