-- The lines of phase 5, group after group: of the messages that come once, only the first ones.
use Rattle.std.proofs.Common.{◌≡◌, ℕ, suc, ◌+◌, ◌-◌, ◌<◌, ◌≤◌, ◌^◌, Bool, List, [], ◌∷◌, ◌++◌, map, refl, ap, ◌∙◌, sym}
use Rattle.std.{proofs.Common.{subst, append_assoc, arith, ℤ, Result}, specs.List.range_with_len}
use Rattle.std.{specs.List.{flat_map}, proofs.lemmas.List.map-append}
use Rattle.ffs_volume.specs.declared.{Layout.Layout, Class.Class, BlockMessage.{BlockMessage, TheVariants.FreeCounts}}
use Rattle.ffs_volume.specs.{Blocks.Owners.owners_of, Directories.Volumes.class_at, Groups.GroupCheck.AlreadyReported}
use Rattle.ffs_volume.specs.Groups.GroupCheck.{group_lines, is_free_of_kept, note_reported, phase5_lines, reported_once}
use Rattle.ffs_volume.specs.Groups.{GroupCheck.{unreported, unless}, Records.{GroupCounts, right_group_counts}}
use Rattle.ffs_volume.specs.{Groups.Records.{right_total, has_right_totals, has_totals}, Messages.Kinds.Message}
use Rattle.ffs_volume.specs.{Messages.Kinds.of_blocks, Blocks.Claims.all_claims}
use Rattle.ffs_maps.specs.Bits.{bits_of}
use Rattle.ffs_groups.specs.{declared.counts.SummaryCounts.SummaryCounts, Check.group_counts_of, Free.free_in}
use Rattle.ffs_groups.{specs.Inodes.class_in, proofs.Sums.sum_more}
use Rattle.ffs_report.{specs.Progress.{Progress, Said, Stopped, Says}, proofs.Reports.{says_then, stopped_after}}
use Rattle.ffs_report.proofs.Reports.{stopped_more}
use Rattle.ffs_workspace.specs.{declared.workspace.Workspace.Workspace, Holds.HoldsBlockCheck}
use Rattle.ffs_counts.specs.{declared.totals.Totals.Totals, Once.reported_after, Totals.{AreTotals, AreSumsOf, total_of}}
use Rattle.ffs_counts.{specs.Totals.with_counts, proofs.Classes.by_kinds}

once_append : (t : AlreadyReported) (xs ys : List BlockMessage) → reported_once t (xs ++ ys) ≡ reported_once t xs
    ++ reported_once (reported_after t xs) ys
once_append t [] ys = refl
once_append t (m ∷ xs) ys = grind (arith, once_append t xs ys, once_append (note_reported t m) xs ys)

-- ---- what is said of messages that are reported once
abbrev sifted : AlreadyReported → List BlockMessage → List Message
sifted t ms = map of_blocks (reported_once t ms)

pub sifted_append : (t t' : AlreadyReported) (xs ys : List BlockMessage) → t' ≡ reported_after t xs →
    sifted t (xs ++ ys) ≡ sifted t xs ++ sifted t' ys
sifted_append t t' xs ys e = grind (arith, once_append, map-append)

pub stops_within : (t : AlreadyReported) (xs ys : List BlockMessage) (a b : Progress) → Stopped a b (sifted t xs) →
    Stopped a b (sifted t (xs ++ ys))
stops_within t xs ys a b p = subst (Stopped a b) (sym (sifted_append t (reported_after t xs) xs ys refl))
    (stopped_more a b (sifted t xs) (sifted (reported_after t xs) ys) p)

pub stops_next : (t t' : AlreadyReported) (xs ys : List BlockMessage) (a b c : Progress) → Said a b (sifted t xs) →
    t' ≡ reported_after t xs → Stopped b c (sifted t' ys) → Stopped a c (sifted t (xs ++ ys))
stops_next t t' xs ys a b c p e q =
    subst (Stopped a c) (sym (sifted_append t t' xs ys e)) (stopped_after a b c (sifted t xs) (sifted t' ys) p q)

pub says_next : (T E : Type 0) (t t' : AlreadyReported) (xs ys : List BlockMessage) (a b c : Progress) (r : Result T E)
    →
    Said a b (sifted t xs) → t' ≡ reported_after t xs →
    Says b c (sifted t' ys) r → Says a c (sifted t (xs ++ ys)) r
says_next T E t t' xs ys a b c r p e q = subst (λ (ms : List Message). Says a c ms r) (sym (sifted_append t t' xs ys e))
    (says_then a b c (sifted t xs) (sifted t' ys) r p q)

-- ---- the lines of the groups
-- which fragments are free by a workspace
abbrev pub free_of : Layout → Workspace → ℕ → Bool
free_of v w = free_in (bits_of w.used) v.size

-- the lines of the groups from c on, and of the totals, where some were reported before
abbrev pub lines_after : Layout → List ℤ → Workspace → AlreadyReported → ℕ → List ℕ → List Message
lines_after v totals w t c image = map of_blocks (reported_once t
    (flat_map (group_lines v image (free_of v w) (class_in w.kinds.items)) (range_with_len c (v.ncg - c))
    ++ unless (has_right_totals v (free_of v w) (class_in w.kinds.items) totals) FreeCounts))

pub groups_begin : (v : Layout) (totals : List ℤ) (w : Workspace) (image : List ℕ) (t : AlreadyReported) →
    t ≡ unreported → HoldsBlockCheck v image w →
    map of_blocks (phase5_lines v image totals (is_free_of_kept v (owners_of v image)) (class_at v image))
    ≡ lines_after v totals w t 0 image
unfolding phase5_lines all_claims
groups_begin v totals w image t e h = grind (arith, sym, by_kinds)

-- the lines of one group, by a workspace of which only the windows have changed
pub groups_go_on : (v : Layout) (totals : List ℤ) (w now : Workspace) (image : List ℕ) (t t' : AlreadyReported)
    (lines : List BlockMessage) (c : ℕ) → c < v.ncg → now ≡ record w { windows = now.windows } →
    lines ≡ group_lines v image (free_of v now) (class_in now.kinds.items) c → t' ≡ reported_after t lines →
    lines_after v totals w t c image ≡ map of_blocks (reported_once t lines) ++ lines_after v totals w t' (c + 1) image
groups_go_on v totals w now image t t' lines c low held is f =
    let n : v.ncg - c ≡ suc (v.ncg - (c + 1)) = omega arith in
    let group : ℕ → List BlockMessage = group_lines v image (free_of v w) (class_in w.kinds.items) in
    let rest = flat_map group (range_with_len (c + 1) (v.ncg - (c + 1))) in
    let end = unless (has_right_totals v (free_of v w) (class_in w.kinds.items) totals) FreeCounts in
    let same : group c ≡ lines =
    sym (is ∙ ap (λ (x : Workspace). group_lines v image (free_of v x) (class_in x.kinds.items) c) held) in
    ap (λ j. sifted t (flat_map group (range_with_len c j) ++ end)) n
    ∙ ap (sifted t) (append_assoc (group c) rest end ∙ ap (λ (ms : List BlockMessage). ms ++ (rest ++ end)) same)
    ∙ sifted_append t t' lines (rest ++ end) f

pub groups_end : (v : Layout) (totals : List ℤ) (w : Workspace) (image : List ℕ) (t : AlreadyReported) (c : ℕ)
    (right : Bool) → v.ncg ≤ c → right ≡ has_right_totals v (free_of v w) (class_in w.kinds.items) totals →
    lines_after v totals w t c image ≡ map of_blocks (reported_once t (unless right FreeCounts)) ++ []
groups_end v totals w image t c right low f = grind arith

-- ---- the totals
pub totals_next : (v : Layout) (free : ℕ → Bool) (class : ℕ → Class) (n : ℕ) (old new : Totals) (s : SummaryCounts) →
    AreTotals v free class n old →
    new ≡ with_counts old s → group_counts_of s ≡ right_group_counts v free class n → AreTotals v free class (n + 1) new
totals_next v free class n old new s a e right = grind (arith, sum_more)

pub totals_right : (v : Layout) (free : ℕ → Bool) (class : ℕ → Class) (totals : List ℤ) (n : ℕ) (t : Totals) →
    AreTotals v free class n t → n ≡ v.ncg →
    has_totals totals (total_of t) ≡ has_right_totals v free class totals
unfolding has_right_totals right_total
totals_right v free class totals n t a e = rw (a.dirs, a.blocks, a.inodes, a.fragments, e) refl

-- the right counts of a group are those of a workspace of which only the windows have changed
pub counts_held : (v : Layout) (old new : Workspace) (kinds : List ℕ) (c : ℕ) (counts : GroupCounts) →
    new ≡ record old { windows = new.windows } → kinds ≡ new.kinds.items →
    counts ≡ right_group_counts v (free_in (bits_of new.used) v.size) (class_in kinds) c →
    counts ≡ right_group_counts v (free_in (bits_of old.used) v.size) (class_in old.kinds.items) c
counts_held v old new kinds c counts e same is = grind arith

-- one more count of below 2^32 was added to each
pub up_next : (n : ℕ) (old new : Totals) (s : SummaryCounts) → AreSumsOf n old → new ≡ with_counts old s →
    s.dirs < 2 ^ 32 → s.blocks < 2 ^ 32 → s.inodes < 2 ^ 32 → s.fragments < 2 ^ 32 → AreSumsOf (n + 1) new
up_next n old new s up e d b i f = grind arith
