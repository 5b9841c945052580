use Rattle.std.proofs.Common.{◌≡◌, ◌<◌, ◌≤◌, ℕ, true, false, slice_index, vec_len}
use Rattle.ffs_volume.specs.Encodings.{Lists.bool_at, Places.{is_due as is_to_be_read, part_in}}
use Rattle.ffs_names.specs.Noting.{IsParent}
use Rattle.ffs_names.proofs.places.flag_parents.Given as goal

abbrev pub invariant-loop-number : goal.invariant-loop-number
invariant-loop-number l = record {
  count : l.count ≡ vec_len l.reached;
  long : vec_len l.words ≡ vec_len l.reached;
  none : (x : ℕ) → part_in (slice_index l.words.items x) ≡ 0;
  low : (x : ℕ) → x < 2 → is_to_be_read (slice_index l.words.items x) ≡ false;
  only : (p : ℕ) → is_to_be_read (slice_index l.words.items p) ≡ true → IsParent l.reached.items l.parents.items p;
  to_read : (x : ℕ) → 2 < x → x < l.number → bool_at l.reached.items x ≡ true → 2 ≤ slice_index l.parents.items x →
      slice_index l.parents.items x < vec_len l.reached →
      is_to_be_read (slice_index l.words.items (slice_index l.parents.items x)) ≡ true;
}
