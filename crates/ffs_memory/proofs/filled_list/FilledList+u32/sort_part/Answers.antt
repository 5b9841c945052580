use Rattle.std.proofs.Common.{◌≡◌, ◌<◌, ◌≤◌, ◌+◌, ◌-◌, ◌++◌, ◌∙◌, ap, arith, drop, length, replicate, subst, sym, take}
use Rattle.std.{proofs.Common.vec_len, specs.{Prelude.vec_capacity, List.Sorted.{IsNonDecreasing, IsPermutation}}}
use Rattle.std.{specs.Vec.vec_ptr, proofs.lemmas.List.{Sorted.IsNonDecreasingBy-from_sort, length-drop}}
use Rattle.ffs_memory.proofs.SortedParts.{with_part, part_alone, before_part, part_new, part_old, after_part}
use Rattle.ffs_memory.proofs.Touched.{same_filled}
use Rattle.ffs_memory.proofs.filled_list.FilledList+u32.sort_part.Goals as goal

pub returns : goal.returns
returns c =
    let before = c.self.inside in
    let touched = c.touch.new.touched in
    let t = touched.items in
    let from = c.args.from in
    let k = c.args.to - from in
    let mid = c.sort_unstable.new.self in
    let R = replicate (vec_capacity touched - vec_len touched) before.untouched in
    let inside : c.args.to - 1 < vec_capacity before.touched =
    omega (arith, c.requires, ap vec_len c.self.view_is) in
    let to : from + k ≡ c.args.to = omega (arith, c.requires) in
    let low : from + k ≤ length t =
    omega (arith, to, c.touch.ensures.len, touched.ok.0, c.requires) in
    let same : t ++ R ≡ c.args.self.now.items = grind (arith, same_filled) in
    let rest = length-drop from t in
    let cut : IsPermutation (take k (drop from t)) mid =
    rw c.deref_mut.ensures.value at c.sort_unstable.ensures.permutation in
    let len : length mid ≡ k = grind arith in
    let alone = ap (λ x. x ++ R) (part_alone t mid from k touched.len low len (touched.ok.0)) in
    let part : drop from (take c.args.to (take touched.len (with_part t mid from k
    ++ drop (length (with_part t mid from k)) t) ++ R)) ≡ mid = grind (arith, part_new) in
    let was : drop from (take c.args.to c.args.self.now.items) ≡ take k (drop from t) = grind (arith, part_old) in
    let rising : IsNonDecreasing mid = IsNonDecreasingBy-from_sort (λ x. x) mid c.sort_unstable.ensures.sorted in
    record {
      before = rw c.deref_mut.ensures.value (grind (arith, before_part));
      moved = rw (was, c.deref_mut.ensures.value, part) cut;
      rising = rw c.deref_mut.ensures.value (subst IsNonDecreasing (sym part) rising);
      after = rw c.deref_mut.ensures.value (grind (arith, after_part));
      len = c.touch.ensures.room ∙ ap vec_len c.self.view_is;
      address = c.touch.ensures.address ∙ ap vec_ptr c.self.view_is;
      room = c.touch.ensures.room ∙ ap vec_capacity c.self.view_is;
    }
