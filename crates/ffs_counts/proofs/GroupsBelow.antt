-- The lines of the groups below one, and what is said before it.
use Rattle.std.proofs.Common.{◌≡◌, ℕ, zero, suc, ◌+◌, Bool, List, [], ◌∷◌, ◌++◌, map, refl, sym, ap, ◌∙◌, append_assoc}
use Rattle.std.{proofs.Common.{append-nil, arith}, specs.List.{flat_map, range_with_len}}
use Rattle.ffs_volume.specs.declared.{Layout.Layout, BlockMessage.BlockMessage}
use Rattle.ffs_volume.specs.{Blocks.{Claims.all_claims, Owners.owners_of}, Directories.Volumes.class_at}
use Rattle.ffs_volume.specs.Groups.GroupCheck.{AlreadyReported, group_lines, is_free_of_kept, note_reported, reported_once}
use Rattle.ffs_volume.specs.{Groups.GroupCheck.unreported, Messages.Kinds.{Message, of_blocks, phase5}}
use Rattle.ffs_groups.specs.{Free.free_in, Inodes.class_in}
use Rattle.ffs_workspace.specs.{declared.workspace.Workspace.Workspace, Holds.HoldsBlockCheck}
use Rattle.ffs_counts.specs.{BeforeFault.{lines_below_group, messages_before_group}, Once.reported_after}
use Rattle.ffs_counts.proofs.{Classes.group_by_kinds, GroupText.{free_of, sifted_append}}

-- what the first numbers of a range give, and the others
flat_split : {X : Type 0} (f : ℕ → List X) (a j m : ℕ) → flat_map f (range_with_len a (j + m))
    ≡ flat_map f (range_with_len a j) ++ flat_map f (range_with_len (a + j) m)
flat_split f a zero m = grind arith
flat_split {X} f a (suc j) m =
    let more : suc j + m ≡ suc (j + m) = omega arith in
    let place : a + suc j ≡ a + 1 + j = omega arith in
    rw (more, place) (ap (λ (xs : List X). f a ++ xs) (flat_split f (a + 1) j m) ∙ sym (append_assoc (f a) _ _))

-- what the numbers below n + 1 give
flat_next : {X : Type 0} (f : ℕ → List X) (n : ℕ) →
    flat_map f (range_with_len 0 (n + 1)) ≡ flat_map f (range_with_len 0 n) ++ f n
flat_next f n = grind (arith, flat_split f 0 n 1, append-nil)

after_append : (t : AlreadyReported) (xs ys : List BlockMessage) →
    reported_after t (xs ++ ys) ≡ reported_after (reported_after t xs) ys
after_append t [] ys = refl
after_append t (m ∷ xs) ys = grind (arith, after_append t xs ys, after_append (note_reported t m) xs ys)

-- the lines of a group, by what a workspace holds of the bytes
pub group_in_book : (v : Layout) (w : Workspace) (image : List ℕ) (c : ℕ) → HoldsBlockCheck v image w →
    group_lines v image (free_of v w) (class_in w.kinds.items) c
    ≡ group_lines v image (is_free_of_kept v (owners_of v image)) (class_at v image) c
unfolding all_claims
group_in_book v w image c h = group_by_kinds v image (free_of v w) w.kinds.items h.kinds c
    ∙ ap (λ (used : List Bool). group_lines v image (free_in used v.size) (class_at v image) c) h.used

-- the same, where only its windows have changed
pub group_held : (v : Layout) (w now : Workspace) (image : List ℕ) (lines : List BlockMessage) (c : ℕ) →
    HoldsBlockCheck v image w → now ≡ record w { windows = now.windows } →
    lines ≡ group_lines v image (free_of v now) (class_in now.kinds.items) c →
    lines ≡ group_lines v image (is_free_of_kept v (owners_of v image)) (class_at v image) c
group_held v w now image lines c h held is =
    is ∙ ap (λ (x : Workspace). group_lines v image (free_of v x) (class_in x.kinds.items) c) held
    ∙ group_in_book v w image c h

below_next : (v : Layout) (image : List ℕ) (lines : List BlockMessage) (c : ℕ) →
    lines ≡ group_lines v image (is_free_of_kept v (owners_of v image)) (class_at v image) c →
    lines_below_group v (c + 1) image ≡ lines_below_group v c image ++ lines
below_next v image lines c is =
    flat_next (group_lines v image (is_free_of_kept v (owners_of v image)) (class_at v image)) c
    ∙ ap (λ xs. lines_below_group v c image ++ xs) (sym is)

-- what is reported after the groups below c, and after c
pub once_next : (v : Layout) (image : List ℕ) (t t' : AlreadyReported) (lines : List BlockMessage) (c : ℕ) →
    lines ≡ group_lines v image (is_free_of_kept v (owners_of v image)) (class_at v image) c →
    t ≡ reported_after unreported (lines_below_group v c image) → t' ≡ reported_after t lines →
    t' ≡ reported_after unreported (lines_below_group v (c + 1) image)
once_next v image t t' lines c is before after =
    after ∙ ap (λ (r : AlreadyReported). reported_after r lines) before
    ∙ sym (after_append unreported (lines_below_group v c image) lines)
    ∙ ap (reported_after unreported) (sym (below_next v image lines c is))

-- the messages before those of group c, and its own
pub before_next : (v : Layout) (image : List ℕ) (t : AlreadyReported) (lines : List BlockMessage) (c : ℕ) →
    lines ≡ group_lines v image (is_free_of_kept v (owners_of v image)) (class_at v image) c →
    t ≡ reported_after unreported (lines_below_group v c image) →
    messages_before_group v (c + 1) image ≡ messages_before_group v c image ++ map of_blocks (reported_once t lines)
before_next v image t lines c is before =
    ap (λ (ls : List BlockMessage). phase5 ∷ map of_blocks (reported_once unreported ls)) (below_next v image lines c is)
    ∙ ap (λ (ms : List Message). phase5 ∷ ms) (sifted_append unreported t (lines_below_group v c image) lines before)
