-- What a fixed list ends as, where its elements were lent.
use Rattle.std.specs.{Prelude.{ℕ, List}, Borrow.{Lends, Fml, RattleType, MutBor, Array}, Vec.{with_item, with_items}}
use Rattle.std.specs.declared.{vec.Vec.Vec, alloc.Global.Global}
use Rattle.ffs_memory.specs.contracts.fixed_list.FixedList.{the_row}

module _ (T : RattleType) (list : MutBor (Vec T.Denot Global)) where
  -- the list ends with the elements that were set last through the loan r
  abbrev pub LendsItems : MutBor (List T.Denot) → Fml
  LendsItems r = Lends (the_row T) (Array T 0) list r (with_items list.now)

  -- the list ends with its element i as it was set last through the loan r
  abbrev pub LendsItem : ℕ → MutBor T.Denot → Fml
  LendsItem i r = Lends (the_row T) T list r (with_item list.now i)
