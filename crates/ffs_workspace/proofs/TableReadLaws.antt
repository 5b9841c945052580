-- How often the inode table is read for lines, from inode to inode.
use Rattle.std.proofs.Common.{◌≡◌, ℕ, zero, suc, ◌+◌, ◌-◌, ◌/◌, ◌%◌, ◌<◌, ◌≤◌, Bool, true, false, ◌&&◌, ◌==◌}
use Rattle.std.proofs.Common.{List, [], ◌∷◌, length, cond, Result, Ok, OnOk, refl, ap, ◌∙◌, sym, arith, inl, inr}
use Rattle.std.proofs.Common.{length-append, add-one, nat_lt}
use Rattle.std.proofs.lemmas.{Nat.mod-mul-add, Bool.{cases_lt, Decides.nat_tests}, Result.on_ok_weaker}
use Rattle.ffs_volume.specs.{declared.{Inode.Inode, Layout.Layout}, Blocks.Inodes.inodes_of}
use Rattle.ffs_volume.specs.{Messages.Kinds.{TreeMessage, lines_below}, Laws.Geometry.IsAcceptedLayout}
use Rattle.ffs_volume.specs.Directories.{Connectivity.{connectivity_lines, unref_dir_lines}, Volumes.volume_of}
use Rattle.ffs_volume.specs.Directories.{ReferenceCheck.{reference_lines, reference_lines_at}, Volumes.volume_with}
use Rattle.ffs_volume.proofs.{Results.on_any, SearchLaws.some_below-gives}
use Rattle.ffs_image.specs.declared.image.ImageFault.{ImageFault}
use Rattle.ffs_walk.specs.Windows.{ImageWith}
use Rattle.ffs_workspace.specs.{declared.table.Table.Table, Tables.{HoldsInode, HoldsPiece, ReadsInodeOnce, TakesPiece}}
use Rattle.ffs_workspace.specs.TableReads.{HoldsWholeBlocks, ReadsForLines, block_start, blocks_below, blocks_with_lines}
use Rattle.ffs_workspace.{specs.TableReads.{has_line, is_first_of_block}, proofs.TablePlaces.{block_divides, in_block}}

-- the inodes from the first one of a block on are of the block
same_start : (v : Layout) (x y : ℕ) → IsAcceptedLayout v → block_start v x ≤ y → y < block_start v x + v.inopb →
    block_start v y ≡ block_start v x
same_start v x y g low high =
    let n = v.inopb in
    let at = in_block x y v.ipg n (block_divides v g).some g.sizes.some_inodes g.sizes.inode_blocks low high in
    let is : y % v.ipg % n ≡ y - block_start v x =
    ap (λ (k : ℕ). k % n) at.1 ∙ mod-mul-add (x % v.ipg / n) n (y - block_start v x) (omega arith) in
    omega arith

-- a block that is held is whole
piece_has : (v : Layout) (x y : ℕ) (t : Table) → IsAcceptedLayout v → HoldsPiece v v.inopb x t →
    block_start v y ≡ block_start v x → HoldsInode t y
piece_has v x y t g h same = let some = (block_divides v g).some in
    (omega (arith, h.first), omega (arith, h.first, h.count))

piece_whole : (v : Layout) (x : ℕ) (t : Table) → IsAcceptedLayout v → HoldsPiece v v.inopb x t →
    HoldsWholeBlocks v t × HoldsInode t x
piece_whole v x t g h = (
  λ y z has same. piece_has v x z t g h
      (same ∙ same_start v x y g (omega (arith, has.0, h.first)) (omega (arith, has.1, h.first, h.count))),
  piece_has v x x t g h refl,
)

-- what lies between two inodes of a block is in it
between : (v : Layout) (x n y : ℕ) → IsAcceptedLayout v → x ≤ n → n ≤ y → block_start v y ≡ block_start v x →
    block_start v n ≡ block_start v x
between v x n y g low high same = let some = (block_divides v g).some in same_start v x n g (omega arith) (omega arith)

-- later there are as many blocks at least
blocks_more : (v : Layout) (lines : ℕ → List TreeMessage) (d n : ℕ) → d ≤ n →
    blocks_below v lines d ≤ blocks_below v lines n
unfolding blocks_below
blocks_more v lines d zero low = let q : d ≡ 0 = omega arith in rw q (omega arith)
blocks_more v lines d (suc n) low = elim (cases_lt d (suc n)) [
  | inl less ↦ let few = blocks_more v lines d n (omega arith) in omega (arith, few)
  | inr least ↦ let q : d ≡ suc n = omega arith in rw q (omega arith)
]

-- each has a line
blocks_few : (v : Layout) (lines : ℕ → List TreeMessage) (n : ℕ) → blocks_below v lines n ≤ length (lines_below lines n)
unfolding blocks_below lines_below
blocks_few v lines zero = omega arith
blocks_few v lines (suc n) =
    let one : cond (is_first_of_block v lines n) 1 0 ≤ length (lines n) = grind (arith, nat_tests) in
    omega (arith, blocks_few v lines n, length-append (lines_below lines n) (lines n), one)

-- so no more blocks have a line of phase 3, or of phase 4, than there are lines
pub unref_few : (v : Layout) (b : List ℕ) →
    blocks_with_lines v (unref_dir_lines (volume_of v b)) ≤ length (connectivity_lines (volume_of v b))
unfolding connectivity_lines volume_of volume_with
unref_few v b = blocks_few v (unref_dir_lines (volume_of v b)) (inodes_of v)

pub reference_few : (v : Layout) (b : List ℕ) →
    blocks_with_lines v (reference_lines_at (volume_of v b)) ≤ length (reference_lines (volume_of v b))
unfolding reference_lines volume_of volume_with
reference_few v b = blocks_few v (reference_lines_at (volume_of v b)) (inodes_of v)

-- the blocks of the inodes below n that have a line were read: what is left of the last one is held, and whole
-- blocks alone
pub record HaveBeenRead (v : Layout) (lines : ℕ → List TreeMessage) (n start reads : ℕ) (t : Table) : Type 0 where
  pub counted : reads ≤ start + blocks_below v lines n
  pub held : (x y : ℕ) → x < n → has_line lines x ≡ true → n ≤ y → block_start v y ≡ block_start v x → HoldsInode t y
  pub whole : HoldsWholeBlocks v t

-- before the first inode an empty table is so
pub none_read : (v : Layout) (lines : ℕ → List TreeMessage) (start reads : ℕ) (t : Table) → t.count ≡ 0 →
    reads ≤ start → HaveBeenRead v lines 0 start reads t
none_read v lines start reads t empty few = record {
  counted = omega arith;
  held = λ x y low. absurd (omega arith);
  whole = λ x y has. absurd (omega (arith, has.0, has.1));
}

-- inodes without a line are passed over
pub passed_over : (v : Layout) (lines : ℕ → List TreeMessage) (n m start reads : ℕ) (t : Table) → n ≤ m →
    ((x : ℕ) → n ≤ x → x < m → lines x ≡ []) → HaveBeenRead v lines n start reads t →
    HaveBeenRead v lines m start reads t
passed_over v lines n m start reads t low none been = record {
  counted = omega (arith, been.counted, blocks_more v lines n m low);
  held = λ x y below has after same. elim (cases_lt x n) [
    | inl less ↦ been.held x y less has (omega arith) same
    | inr least ↦ let empty = none x least below in absurd (grind (arith, nat_tests))
  ];
  whole = been.whole;
}

-- where the test finds nothing there is nothing
no_line : (lines : List TreeMessage) → nat_lt 0 (length lines) ≡ false → lines ≡ []
no_line [] e = refl
no_line (m ∷ lines) e = absurd (grind (arith, nat_tests))

module _ (v : Layout) (lines : ℕ → List TreeMessage) (n start : ℕ) (old new : ImageWith Table) (g : IsAcceptedLayout v)
    (been : HaveBeenRead v lines n start old.reads old.cache) where
  -- the block of an inode with a line is held already where a lesser one of it has a line
  not_first : has_line lines n ≡ true → is_first_of_block v lines n ≡ false → HoldsInode old.cache n
  not_first has later =
      let found = some_below-gives (λ y. has_line lines y && (block_start v y == block_start v n)) n (grind arith) in
      let passes = found.1.passes in
      been.held found.0 n found.1.below (grind arith) (omega arith) (grind (arith, nat_tests))

  counted_by : {T E : Type 0} (r : Result T E) (first line : Bool) → is_first_of_block v lines n ≡ first →
      has_line lines n ≡ line → ReadsForLines v n (lines n) old new r →
      new.reads ≤ start + (cond (is_first_of_block v lines n) 1 0 + blocks_below v lines n)
  counted_by r true line e l now = rw e (omega (arith, been.counted, now.once))
  counted_by r false true e l now = omega (arith, been.counted, (now.again (not_first l e)).reads)
  counted_by r false false e l now = omega (arith, been.counted, (now.none (no_line (lines n) l)).reads)

  counted_next : {T E : Type 0} (r : Result T E) → ReadsForLines v n (lines n) old new r →
      new.reads ≤ start + blocks_below v lines (n + 1)
  unfolding blocks_below
  counted_next r now = rw add-one (counted_by r _ _ refl refl now)

  -- of all inodes, where the call may have failed
  pub read_within : {T E : Type 0} (r : Result T E) → n < inodes_of v → ReadsForLines v n (lines n) old new r →
      new.reads ≤ start + blocks_with_lines v lines
  read_within r low now = omega (arith, counted_next r now, blocks_more v lines (n + 1) (inodes_of v) (omega arith))

  pub read_next : {T E : Type 0} (result : T) → ReadsForLines {T = T} {E = E} v n (lines n) old new (Ok result) →
      HaveBeenRead v lines (n + 1) start new.reads new.cache
  read_next result now =
      let few = counted_next (Ok result) now in
      elim (cases_lt 0 (length (lines n))) [
        | inl some ↦ let block = now.block some been.whole in record {
          counted = few;
          held = λ x y low line after one. block.0 n y block.1
              (one ∙ sym (between v x n y g (omega arith) (omega arith) one));
          whole = block.0;
        }
        | inr least ↦
            let empty = no_line (lines n) (grind (arith, nat_tests)) in
            let over = passed_over v lines n (n + 1) start old.reads old.cache (omega arith)
            (λ x low high. let q : n ≡ x = omega arith in rw q at empty) been in
            rw (now.none empty).table (record { counted = few; held = over.held; whole = over.whole })
      ]

-- an inode without a line isn't looked at
pub unread : {T E : Type 0} (v : Layout) (x : ℕ) (lines : List TreeMessage) (at : ImageWith Table) (r : Result T E) →
    lines ≡ [] → ReadsForLines v x lines at at r
unread v x lines at r e = record {
  none = λ _. record { reads = omega arith; table = refl };
  again = λ _. record { reads = omega arith; table = refl };
  once = omega arith;
  block = λ some. absurd (omega (arith, ap length e));
}

-- that of a line is read, by a call that succeeds only then
pub read_line : {T E : Type 0} (v : Layout) (x : ℕ) (lines : List TreeMessage) (old new : ImageWith Table)
    (i : Result Inode ImageFault) (r : Result T E) → IsAcceptedLayout v → length lines ≡ 1 →
    ((P : Type 0) → OnOk i P → OnOk r P) → ReadsInodeOnce v v.inopb x old new i → ReadsForLines v x lines old new r
unfolding TakesPiece
read_line v x lines old new i r g one after h = record {
  none = λ e. absurd (omega (arith, one, ap length e));
  again = λ has. record { reads = h.again has; table = h.piece.0 has };
  once = h.counted;
  block = λ _ whole. elim (cases_lt x old.cache.first) [
    | inl low ↦ missed (λ has. omega (arith, has.0))
    | inr from ↦ elim (cases_lt x (old.cache.first + old.cache.count)) [
      | inl below ↦ let same = h.piece.0 (from, below) in on_any r (rw same (whole, (from, below)))
      | inr past ↦ missed (λ has. omega (arith, has.1))
    ]
  ];
}
  where
    missed : (HoldsInode old.cache x → ⊥) → OnOk r (HoldsWholeBlocks v new.cache × HoldsInode new.cache x)
    missed out = on_ok_weaker r (piece_whole v x new.cache g) (after _ (h.piece.1 out))
