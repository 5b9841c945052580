-- What a list shows, and what a call leaves of it; some lists hold one value until another is set.
use Rattle.std.specs.Prelude.{◌≡◌, ◌<◌, ◌≤◌, ◌+◌, ◌++◌, ◌-◌, ℕ, Bool, false, true, List, drop, length, min, replicate, slice_set, take, vec_capacity}
use Rattle.std.{specs.List.{slice_index_or, Sorted.{IsNonDecreasing, IsPermutation}}, proofs.Common.{ap, sym, ◌∙◌, length-append}}
use Rattle.std.{proofs.{Math.Nat.{add-sub_of_le, le_refl}, lemmas.List.length-replicate}, specs.Prelude.vec_len}
use Rattle.std.specs.{Vec.vec_ptr, declared.{vec.Vec.Vec, alloc.Global.Global}}

module _ {A : Type 0} where
  -- these are the elements of the list
  pub record AreItems (list : Vec A Global) (items : List A) : Type 0 where
    pub value : items ≡ list.items
    pub len : length items ≡ vec_len list

  pub length_filled : (touched : Vec A Global) (x : A) →
      vec_capacity touched ≡ length (touched.items ++ replicate (vec_capacity touched - vec_len touched) x)
  length_filled touched x =
      let spare = vec_capacity touched - vec_len touched in
      sym (length-append touched.items (replicate spare x)
      ∙ ap (λ n. length touched.items + n) (length-replicate spare x)
      ∙ ap (λ n. n + spare) (sym touched.ok.0)
      ∙ add-sub_of_le touched.ok.1)

  -- the elements that are touched, and x for each other one that their memory has room for
  abbrev pub filled : Vec A Global → A → Vec A Global
  filled touched x = record {
    ptr = touched.ptr;
    len = touched.cap;
    cap = touched.cap;
    alloc = touched.alloc;
    items = touched.items ++ replicate (vec_capacity touched - vec_len touched) x;
    ok = (length_filled touched x, le_refl touched.cap);
    small = touched.small;
  }

  -- these are the first elements of the list, and each other one is `value`
  pub record AreFirst (list : Vec A Global) (first : List A) : Type 0 where
    pub len : length first ≤ vec_len list
    pub items : (x : A) → (k : ℕ) → k < length first → slice_index_or list.items k x ≡ slice_index_or first k x
    pub value : A
    pub others : (x : A) → (k : ℕ) → length first ≤ k → k < vec_len list → slice_index_or list.items k x ≡ value

  -- the element at an index is set, in the same memory
  pub record Sets (old new : Vec A Global) (index : ℕ) (x : A) : Type 0 where
    pub items : new.items ≡ slice_set old.items index x
    pub len : vec_len new ≡ vec_len old
    pub address : vec_ptr new ≡ vec_ptr old
    pub room : vec_capacity new ≡ vec_capacity old

  -- each element is x, and there is as much memory as before
  pub record SetsAll (old new : Vec A Global) (x : A) : Type 0 where
    pub items : new.items ≡ replicate (vec_len old) x
    pub len : vec_len new ≡ vec_len old
    pub room : vec_capacity new ≡ vec_capacity old

-- whether a flag from one index to before another is true
pub record IsAnyTrue (flags : List Bool) (from to : ℕ) (any : Bool) : Type 0 where
  pub none : any ≡ false → (k : ℕ) → from ≤ k → k < to → slice_index_or flags k false ≡ false
  pub some : any ≡ true → ((k : ℕ) → from ≤ k → k < to → slice_index_or flags k false ≡ false) → ⊥

-- each number above the most becomes that
pub record LimitsItems (old new : List ℕ) (most : ℕ) : Type 0 where
  pub same_length : length new ≡ length old
  pub items : (k : ℕ) → slice_index_or new k 0 ≡ min (slice_index_or old k 0) most

-- each number of a list above the most becomes that, in the same memory
pub record Limits (old new : Vec ℕ Global) (most : ℕ) : Type 0 where
  pub items : LimitsItems old.items new.items most
  pub len : vec_len new ≡ vec_len old
  pub address : vec_ptr new ≡ vec_ptr old
  pub room : vec_capacity new ≡ vec_capacity old

-- the numbers from one index to before another are put into ascending order, in the same memory;
-- all others stay
pub record SortsPart (old new : Vec ℕ Global) (from to : ℕ) : Type 0 where
  pub before : take from new.items ≡ take from old.items
  pub moved : IsPermutation (drop from (take to old.items)) (drop from (take to new.items))
  pub rising : IsNonDecreasing (drop from (take to new.items))
  pub after : drop to new.items ≡ drop to old.items
  pub len : vec_len new ≡ vec_len old
  pub address : vec_ptr new ≡ vec_ptr old
  pub room : vec_capacity new ≡ vec_capacity old
