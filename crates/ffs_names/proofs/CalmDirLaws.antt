-- A survey flags each directory of which nothing can be reported, by the bytes of the image.
use Rattle.std.proofs.Common.{◌≡◌, ◌∙◌, ℕ, Bool, true, false, List, arith, length, map, refl, get_or, slice_index}
use Rattle.std.proofs.{Common.{subst, sym}, lemmas.{Bool.and_parts, List.ext_get_or}}
use Rattle.std.proofs.lemmas.List.FromFn.{get_or-map-range_with_len, length-map-range_with_len}
use Rattle.std.specs.List.{range_with_len}
use mathlib.Core.Path.{fun_ext}
use Rattle.ffs_volume.specs.{Encodings.{Kinds.kind_at, Lists.{bool_at, number_at}}, Directories.Graph.reached}
use Rattle.ffs_volume.specs.Directories.{Naming.graph_of, Roles.{is_dir, roled_entries}, Volumes.marked_at}
use Rattle.ffs_volume.specs.{Directories.Volumes.volume_of, Costs.Calm.is_calm_by_parents, Blocks.Inodes.inodes_of}
use Rattle.ffs_volume.specs.Costs.Calm.{is_calm_directory, kinds_in, marks_in, parent_number, is_right_shape}
use Rattle.ffs_survey.specs.{Calm.EachCalmIsFlagged, Survey.IsSurvey}
use Rattle.ffs_names.{specs.Readers.{Base, dir_entries, dir_right_shape}, proofs.DirLaws.kind_dirs}

-- a list with a value for each number
listed : {X : Type 0} (e : X) (f : ℕ → X) (xs : List X) (n : ℕ) → length xs ≡ n →
    ((x : ℕ) → get_or xs x e ≡ f x) → xs ≡ map f (range_with_len 0 n)
listed e f xs n long each = ext_get_or e xs (map f (range_with_len 0 n))
    (long ∙ sym (length-map-range_with_len f 0 n))
    (λ i l. each i ∙ sym (get_or-map-range_with_len f 0 n i i e (omega (arith, l, long)) (omega arith)))

-- lists that a survey fills
pub flags_each_calm : (t : Base) (b kinds starts counts : List ℕ) (marked named marks : List Bool) (parents : List ℕ)
    (flags : List Bool) → length kinds ≡ inodes_of t.layout →
    ((x : ℕ) → slice_index kinds x ≡ kind_at t.layout b x) → length marked ≡ inodes_of t.layout →
    ((x : ℕ) → bool_at marked x ≡ marked_at t.layout b x) →
    IsSurvey (graph_of (volume_of t.layout b)) starts counts named marks parents →
    EachCalmIsFlagged kinds marked marks parents (dir_entries t b) (dir_right_shape t b) flags
    → (d : ℕ) → is_calm_directory t.layout b d ≡ true → bool_at flags d ≡ true
unfolding is_calm_directory
flags_each_calm t b kinds starts counts marked named marks parents flags kinds_long kinds_are marked_long marked_are
    survey each d calm =
    let v = t.layout in
    let vol = volume_of v b in
    let all = and_parts (is_dir vol d) _ calm in
    let rest = and_parts (reached (graph_of vol) d) _ all.1 in
    let kinds_is : kinds ≡ kinds_in v b = listed 0 (kind_at v b) kinds (inodes_of v) kinds_long kinds_are in
    let marked_is : marked ≡ marks_in v b =
    listed false (marked_at v b) marked (inodes_of v) marked_long marked_are in
    let up : number_at parents ≡ parent_number v b = fun_ext survey.parent_is in
    let entries_are : dir_entries t b d ≡ roled_entries vol d = rw all.0 refl in
    let shape_is : dir_right_shape t b d ≡ is_right_shape vol d = rw all.0 refl in
    let by_parents : is_calm_by_parents (kinds_in v b) (marks_in v b) (number_at parents) (roled_entries vol d)
    (is_right_shape vol d) d ≡ true = subst (λ (f : ℕ → ℕ). is_calm_by_parents (kinds_in v b) (marks_in v b) f
    (roled_entries vol d) (is_right_shape vol d) d ≡ true) (sym up) rest.1 in
    each d (kind_dirs v b kinds d (kinds_are d) ∙ all.0) (survey.reaches d ∙ rest.0)
    (rw (kinds_is, marked_is, entries_are, shape_is) by_parents)
