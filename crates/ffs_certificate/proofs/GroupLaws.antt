-- Phase 5 reports nothing exactly where all groups are right.
use Rattle.std.proofs.{lemmas.Bool.Decides.nat_tests, Common.{zero, suc, ◌≡◌, ℕ, ◌+◌, ◌<◌, ◌≤◌, Bool, true, false}}
use Rattle.std.proofs.Common.{arith, refl, sym, ap, subst, ◌∙◌, List, [], ◌∷◌, ◌++◌, ◌↔◌, ◌&&◌, ◌==◌, if◌then◌else◌, ℤ}
use Rattle.std.{proofs.{Math.Path.fun_ext, lemmas.Bool.{and_parts, and_from}}, specs.List.{list_all, list_any}}
use Rattle.std.specs.List.{flat_map, range_with_len}
use Rattle.ffs_volume.specs.declared.BlockMessage.TheVariants.{GroupMagic, FreeCounts, MapsWrong, GroupSums}
use Rattle.ffs_volume.specs.declared.{BlockMessage.BlockMessage, Class.Class, Layout.Layout}
use Rattle.ffs_volume.specs.Blocks.{Claims.{reserved_map, no_claims}, Owners.{Owner, fragments_of, all_steps}}
use Rattle.ffs_volume.specs.{Blocks.BlockCheck.{phase1_lines, phase1b_lines}, Consistent.BlocksRight.times}
use Rattle.ffs_volume.specs.{Consistent.BlocksRight.BlocksRight, Groups.Records.{group_block, summary_record}}
use Rattle.ffs_volume.specs.Groups.Records.{group_numbers, has_right_magic, maps_fit, has_right_maps, has_right_sums}
use Rattle.ffs_volume.specs.{Groups.Records.{has_right_record, has_right_totals}, Consistent.GroupsRight.IsGroupRight}
use Rattle.ffs_volume.specs.Consistent.GroupsRight.{AreGroupsRight}
use Rattle.ffs_volume.specs.Groups.GroupCheck.{unless, group_lines, all_group_lines, reported_once, unreported}
use Rattle.ffs_volume.specs.{Groups.GroupCheck.{phase5_lines, is_free_of_kept}, Consistent.GroupsRight.is_free_of_runs}
use Rattle.ffs_certificate.proofs.BlocksSilent.{nil_is, right_quiet, runs_below, reserved_length, reserved_bit, bit}
use Rattle.ffs_certificate.proofs.{BlocksSilent.{times_cons, marked_bit, blocks_silent}, BlockLaws.{is_nil, nil_append}}
use Rattle.ffs_certificate.proofs.BlockLaws.{owners_claim, owners_from}

nil_flat : {X Y : Type 0} (f : X → List Y) (xs : List X) → is_nil (flat_map f xs) ≡ list_all (λ x. is_nil (f x)) xs
nil_flat f [] = refl
nil_flat f (x ∷ xs) = nil_append (f x) (flat_map f xs) ∙ ap (λ b. is_nil (f x) && b) (nil_flat f xs)

-- all numbers of a range pass
pub all_at : (p : ℕ → Bool) (a n c : ℕ) → list_all p (range_with_len a n) ≡ true → a ≤ c → c < a + n → p c ≡ true
all_at p a zero c e low high = absurd (omega arith)
all_at p a (suc n) c e low high = let more = all_at p (a + 1) n c in grind arith

all_from : (p : ℕ → Bool) (a n : ℕ) → ((c : ℕ) → a ≤ c → c < a + n → p c ≡ true) → list_all p (range_with_len a n)
    ≡ true
all_from p a zero h = refl
all_from p a (suc n) h = grind (arith, all_from p (a + 1) n (λ c low high. h c (omega arith) (omega arith)))

-- reporting once hides no first message
once_nil : (ms : List BlockMessage) → is_nil (reported_once unreported ms) ≡ is_nil ms
once_nil ms = grind arith

nil_unless : (b : Bool) (m : BlockMessage) → is_nil (unless b m) ≡ b
nil_unless b m = grind arith

shape : (a b d e : Bool) (m : BlockMessage) →
    is_nil (if a then unless b FreeCounts ++ (unless d MapsWrong ++ unless e GroupSums) else m ∷ unless b FreeCounts)
    ≡ (a && (b && (d && e)))
shape a b d e m = grind arith

abbrev pub is_group_right : Layout → List ℕ → (ℕ → Bool) → (ℕ → Class) → ℕ → Bool
is_group_right v image free class c =
    has_right_magic v (group_block v image c)
    && (has_right_record v free class c (summary_record v image c)
    && ((maps_fit v (group_block v image c) && has_right_maps v free class c (group_block v image c))
    && has_right_sums v free class c (group_block v image c)))

module _ (v : Layout) (image : List ℕ) (totals : List ℤ) (free : ℕ → Bool) (class : ℕ → Class) where
  group_says : (c : ℕ) → is_nil (group_lines v image free class c) ≡ is_group_right v image free class c
  group_says c = shape (has_right_magic v (group_block v image c))
      (has_right_record v free class c (summary_record v image c))
      (maps_fit v (group_block v image c) && has_right_maps v free class c (group_block v image c))
      (has_right_sums v free class c (group_block v image c)) (GroupMagic c)

  group_facts : (c : ℕ) → is_group_right v image free class c ≡ true → IsGroupRight v image free class c
  group_facts c e =
      let a = and_parts (has_right_magic v (group_block v image c)) _ e in
      let b = and_parts (has_right_record v free class c (summary_record v image c)) _ a.1 in
      let d = and_parts (maps_fit v (group_block v image c) && has_right_maps v free class c (group_block v image c)) _
      b.1 in
      let f = and_parts (maps_fit v (group_block v image c)) _ d.0 in
      record { magic = a.0; places = f.0; maps = f.1; sums = d.1; record_is = b.0 }

  group_test : (c : ℕ) → IsGroupRight v image free class c → is_group_right v image free class c ≡ true
  group_test c g = and_from _ _ g.magic (and_from _ _ g.record_is (and_from _ _ (and_from _ _ g.places g.maps) g.sums))

  all_say : is_nil (phase5_lines v image totals free class)
      ≡ (list_all (λ c. is_nil (group_lines v image free class c)) (group_numbers v) && has_right_totals v free class
      totals)
  unfolding phase5_lines
  all_say =
      once_nil (all_group_lines v image totals free class)
      ∙ (nil_append (flat_map (group_lines v image free class) (group_numbers v))
      (unless (has_right_totals v free class totals) FreeCounts)
      ∙ rw (
        nil_flat (group_lines v image free class) (group_numbers v),
        nil_unless (has_right_totals v free class totals) FreeCounts,
      ) refl)

  pub phase5_silent : (phase5_lines v image totals free class ≡ []) ↔ AreGroupsRight v image totals free class
  phase5_silent = (
    (λ e.
        let parts = and_parts (list_all (λ c. is_nil (group_lines v image free class c)) (group_numbers v))
        (has_right_totals v free class totals) (sym all_say ∙ ap is_nil e) in
        record {
          groups = λ c lt. group_facts c
              (sym (group_says c) ∙ all_at (λ k. is_nil (group_lines v image free class k)) 0 v.ncg c parts.0
              (omega arith) (omega arith));
          total = parts.1;
        }),
    (λ g. nil_is _ (all_say ∙ and_from _ _
        (all_from (λ k. is_nil (group_lines v image free class k)) 0 v.ncg
        (λ c low high. group_says c ∙ group_test c (g.groups c (omega arith)))) g.total)),
  )

-- whether a number is in a list, and how often
any_times : (f : ℕ) (fs : List ℕ) → list_any (λ g. g == f) fs ≡ true → 1 ≤ times f fs
any_times f [] e = absurd (cc)
any_times f (g ∷ fs) e = one (g == f) refl (any_times f fs)
  where
    one : (b : Bool) → (g == f) ≡ b → (list_any (λ h. h == f) fs ≡ true → 1 ≤ times f fs) → 1 ≤ times f (g ∷ fs)
    one true q more = let here : bit (g == f) ≡ 1 = ap bit q in omega (arith, times_cons f g fs, here)
    one false q more = grind arith

none_times : (f : ℕ) (fs : List ℕ) → list_any (λ g. g == f) fs ≡ false → times f fs ≡ 0
none_times f [] e = refl
none_times f (g ∷ fs) e = let more = none_times f fs in grind (arith, times_cons)

-- where no block is reported, the fragments of kept offers are those of all Runs
pub same_free : (v : Layout) (os : List Owner) → BlocksRight v os → is_free_of_kept v os ≡ is_free_of_runs v os
unfolding no_claims
same_free v os r = fun_ext (λ f.
    let quiet = right_quiet v os r in
    let used = owners_claim v (no_claims v) os (owners_from v (reserved_map v) os quiet) in
    let set = marked_bit (reserved_map v) (fragments_of (all_steps os)) in
    let alone = r.runs.unreserved f in
    grind (arith, nat_tests, reserved_length, runs_below, reserved_bit, any_times, none_times))

-- the lines of the blocks and of the groups, together
abbrev pub block_and_group_lines : Layout → List ℕ → List ℤ → List Owner → (ℕ → Class) → List BlockMessage
block_and_group_lines v image totals os class =
    (phase1_lines v os ++ phase1b_lines v os) ++ phase5_lines v image totals (is_free_of_kept v os) class

pub blocks_and_groups : (v : Layout) (image : List ℕ) (totals : List ℤ) (os : List Owner) (class : ℕ → Class) →
    (block_and_group_lines v image totals os class ≡ []) ↔
    (BlocksRight v os × AreGroupsRight v image totals (is_free_of_runs v os) class)
blocks_and_groups v image totals os class = (
  (λ e.
      let parts = and_parts (is_nil (phase1_lines v os ++ phase1b_lines v os))
      (is_nil (phase5_lines v image totals (is_free_of_kept v os) class))
      (sym (nil_append (phase1_lines v os ++ phase1b_lines v os)
      (phase5_lines v image totals (is_free_of_kept v os) class)) ∙ ap is_nil e) in
      let right = (blocks_silent v os).0 (nil_is _ parts.0) in (
        right,
        subst (λ free. AreGroupsRight v image totals free class) (same_free v os right)
            ((phase5_silent v image totals (is_free_of_kept v os) class).0 (nil_is _ parts.1)),
      )),
  (λ r.
      let first = (blocks_silent v os).1 r.0 in
      let groups = subst (λ free. AreGroupsRight v image totals free class) (sym (same_free v os r.0)) r.1 in
      let last = (phase5_silent v image totals (is_free_of_kept v os) class).1 groups in
      rw (first, last) refl),
)
