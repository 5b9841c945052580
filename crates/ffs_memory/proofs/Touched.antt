-- Lists of which some elements are touched, and all others have one value.
use Rattle.std.proofs.Common.{◌≡◌, ◌<◌, ◌≤◌, ◌+◌, ◌++◌, ◌∷◌, ◌∙◌, [], ℕ, zero, suc, List, ap, arith, get_or, length, min}
use Rattle.std.proofs.Common.{refl, replicate, slice_set, sym, vec_len}
use Rattle.std.proofs.lemmas.List.{append_assoc, get_or-append_right, get_or-replicate, length-append, length-replicate}
use Rattle.std.proofs.lemmas.List.{replicate-append-replicate, set-append_left}
use Rattle.std.proofs.{Math.{ListN.get_or-append, Seq.set-append_seam}}
use Rattle.std.specs.{Prelude.vec_capacity, declared.{vec.Vec.Vec, alloc.Global.Global}}
use Rattle.ffs_memory.specs.{Filled.{filled, LimitsItems}, Touching.Touches}

-- one value after itself
pub run_on : {A : Type 0} (list : List A) (x : A) (m n k : ℕ) → m + n ≡ k →
    list ++ replicate m x ++ replicate n x ≡ list ++ replicate k x
run_on list x m n k sum = grind (arith, append_assoc, replicate-append-replicate)

module _ {A : Type 0} where
  -- more of the elements are touched, and they are the same
  pub same_filled : (old new : Vec A Global) (index : ℕ) (x : A) → index < vec_capacity old → Touches old new index x →
      (filled new x).items ≡ (filled old x).items
  same_filled old new index x inside touches = grind (arith, run_on)

  -- the touched elements come first
  pub first_filled : (touched : Vec A Global) (n : ℕ) (x d : A) (k : ℕ) → k < length touched.items →
      get_or (touched.items ++ replicate n x) k d ≡ get_or touched.items k d
  first_filled touched n x d k low = get_or-append touched.items (replicate n x) d k low

  -- all others are alike
  pub rest_filled : (touched : Vec A Global) (n : ℕ) (x d : A) (k : ℕ) → length touched.items ≤ k →
      k < length touched.items + n → get_or (touched.items ++ replicate n x) k d ≡ x
  rest_filled touched n x d k high low = grind (arith, get_or-append_right, get_or-replicate)

  -- the element at a touched index is set
  pub set_filled : (touched : Vec A Global) (index n : ℕ) (x y : A) → index < vec_len touched →
      slice_set touched.items index y ++ replicate n x ≡ slice_set (touched.items ++ replicate n x) index y
  set_filled touched index n x y inside = grind (arith, set-append_left)

  -- the element after the touched ones is set
  pub set_next : (touched : Vec A Global) (n m : ℕ) (x y : A) → m ≡ suc n →
      (touched.items ++ y ∷ []) ++ replicate n x
      ≡ slice_set (touched.items ++ replicate m x) (length touched.items) y
  set_next touched n m x y more =
      append_assoc touched.items (y ∷ []) (replicate n x)
      ∙ sym (set-append_seam touched.items x (replicate n x) y)
      ∙ ap (λ k. slice_set (touched.items ++ replicate k x) (length touched.items) y) (sym more)

-- one number again and again, limited
limit_untouched : (n x most k : ℕ) → get_or (replicate n (min x most)) k 0 ≡ min (get_or (replicate n x) k 0) most
limit_untouched zero x most k = omega arith
limit_untouched (suc n) x most zero = refl
limit_untouched (suc n) x most (suc k) = limit_untouched n x most k

-- the touched numbers are limited, and the value of the others
pub limit_filled : (old new : List ℕ) (n x most : ℕ) → LimitsItems old new most →
    LimitsItems (old ++ replicate n x) (new ++ replicate n (min x most)) most
limit_filled old new n x most limits =
    grind (arith, length-append, length-replicate, get_or-append, get_or-append_right, limit_untouched)
