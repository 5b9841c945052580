-- How often phase 1 reads the inode tables: once for each block at most.
use Rattle.std.proofs.Common.{◌≡◌, ℕ, suc, ◌+◌, ◌-◌, ◌*◌, ◌/◌, ◌%◌, ◌<◌, ◌≤◌, ◌⊎◌, inl, inr, ◌∙◌, ap, arith}
use Rattle.std.{proofs.lemmas.{Grind.div_ceil_times, Bool.cases_lt, Nat.{div-mul-add, mod_below}}, specs.Int.div_ceil}
use Rattle.std.proofs.Math.Nat.{div-add-mod', le-div_iff_mul-le, mul-le-mul_right, mul_assoc, mul_comm, mul-mod_right}
use Rattle.ffs_volume.specs.{Laws.Geometry.IsAcceptedLayout, Report.Reads.table_blocks, declared.Layout.Layout}
use Rattle.ffs_volume.specs.Blocks.Inodes.{inodes_of}
use Rattle.ffs_workspace.specs.{Tables.{HoldsInode, HoldsPiece}, declared.table.Table.Table}

-- the last block that was read is held: so many blocks end where it does, at most, and it begins
-- before the inode x
pub record HoldsLast (v : Layout) (blocks x : ℕ) (t : Table) : Type 0 where
  pub count : t.count ≡ v.inopb
  pub ends : blocks * v.inopb ≤ t.first + v.inopb
  pub begun : t.first < x

-- at most so many blocks of the tables were read before the inode x: no more than have their inodes
-- before it, or one more that is held
pub record BlocksRead (v : Layout) (x reads reads' runs : ℕ) (t : Table) : Type 0 where
  pub blocks : ℕ
  pub most : reads' ≤ reads + blocks + runs
  pub passed : (blocks * v.inopb ≤ x) ⊎ HoldsLast v blocks x t

-- whole blocks of n that end at x or before it end where the block of x begins, or before that
whole_below : (k n x : ℕ) → 0 < n → k * n ≤ x → k * n ≤ x / n * n
whole_below k n x some h = mul-le-mul_right n ((le-div_iff_mul-le some).1 h)

-- where the block of x begins, where a table of ipg has whole blocks of n
block_begins : (x ipg n : ℕ) → 0 < n → ipg % n ≡ 0 → x - x % ipg % n ≡ x / n * n
block_begins x ipg n some whole =
    let all : n * (ipg / n) ≡ ipg = grind (arith, div-add-mod' ipg n) in
    let table : x / ipg * ipg + x % ipg ≡ x = omega (arith, div-add-mod' x ipg, mul_comm ipg (x / ipg)) in
    let block : x % ipg / n * n + x % ipg % n ≡ x % ipg =
    omega (arith, div-add-mod' (x % ipg) n, mul_comm n (x % ipg / n)) in
    let blocks : x / ipg * ipg ≡ x / ipg * (ipg / n) * n = grind (arith, all, mul_comm, mul_assoc) in
    let is : x ≡ (x / ipg * (ipg / n) + x % ipg / n) * n + x % ipg % n = grind (arith, table, block, blocks) in
    let quotient : x / n ≡ x / ipg * (ipg / n) + x % ipg / n = ap (λ (k : ℕ). k / n) is
    ∙ div-mul-add (x / ipg * (ipg / n) + x % ipg / n) n (x % ipg % n) (mod_below (x % ipg) n some) in
    rw quotient (omega (arith, is))

-- inodes that are held, or some of them, are passed over
pub blocks_later : {v : Layout} {x y reads reads' runs : ℕ} {t : Table} → x ≤ y → BlocksRead v x reads reads' runs t →
    BlocksRead v y reads reads' runs t
blocks_later later read = grind arith

-- the blocks that were read before the inode x, where it isn't held, have their inodes before it
passed_all : {v : Layout} {x reads now runs : ℕ} {t : Table} → (HoldsInode t x → ⊥) →
    (read : BlocksRead v x reads now runs t) → read.blocks * v.inopb ≤ x
passed_all {x = x} {t = t} unheld read = grind arith

module _ {v : Layout} {x reads now now' runs runs' : ℕ} {t t' : Table} where
  -- the inode x was held
  blocks_held : (t' ≡ t) × (now' + runs ≤ now + runs') → BlocksRead v x reads now runs t →
      BlocksRead v (x + 1) reads now' runs' t'
  blocks_held same read = record {
    blocks = read.blocks;
    most = omega (arith, same.1, read.most);
    passed = elim read.passed [
      | inl before ↦ inl (omega (arith, before))
      | inr last ↦ inr (rw same.0 (record { count = last.count; ends = last.ends; begun = omega (arith, last.begun) }))
    ];
  }

  -- its block was read
  blocks_more : IsAcceptedLayout v → (HoldsInode t x → ⊥) → HoldsPiece v v.inopb x t' →
      now' + runs ≤ now + 1 + runs' → BlocksRead v x reads now runs t → BlocksRead v (x + 1) reads now' runs' t'
  blocks_more g unheld piece few read =
      let some : 0 < v.inopb = omega (arith, g.sizes.inopb, g.sizes.bsize_low) in
      let before : read.blocks * v.inopb ≤ x = passed_all unheld read in
      let first : t'.first ≡ x / v.inopb * v.inopb =
      piece.first ∙ block_begins x v.ipg v.inopb some g.sizes.inode_blocks in
      let below : read.blocks * v.inopb ≤ t'.first = rw first (whole_below read.blocks v.inopb x some before) in
      record {
        blocks = suc read.blocks;
        most = omega (arith, read.most, few);
        passed = inr (record { count = piece.count; ends = omega (arith, below); begun = omega (arith, piece.first) });
      }

  -- the inode x was read, of its block if it wasn't held
  pub blocks_next : IsAcceptedLayout v → (HoldsInode t x → (t' ≡ t) × (now' + runs ≤ now + runs')) →
      ((HoldsInode t x → ⊥) → HoldsPiece v v.inopb x t') → now' + runs ≤ now + 1 + runs' →
      BlocksRead v x reads now runs t → BlocksRead v (x + 1) reads now' runs' t'
  blocks_next g again block few read = elim (cases_lt x t.first) [
    | inl below ↦
        let unheld : HoldsInode t x → ⊥ = λ held. omega (arith, held.0, below) in
        blocks_more g unheld (block unheld) few read
    | inr low ↦ elim (cases_lt x (t.first + t.count)) [
      | inl within ↦ blocks_held (again (low, within)) read
      | inr past ↦
          let unheld : HoldsInode t x → ⊥ = λ held. omega (arith, held.1, past) in
          blocks_more g unheld (block unheld) few read
    ]
  ]

-- blocks that begin in the tables
few_blocks : {v : Layout} (k : ℕ) → IsAcceptedLayout v → k * v.inopb < inodes_of v + v.inopb → k ≤ table_blocks v
few_blocks {v} k g below = grind (arith, mul_comm, mul_assoc, mul-mod_right)

module _ {v : Layout} {x reads now runs : ℕ} {t : Table} where
  -- so many at most were read before the inode x
  begun_below : 0 < v.inopb → x ≤ inodes_of v → (read : BlocksRead v x reads now runs t) →
      read.blocks * v.inopb < inodes_of v + v.inopb
  begun_below some high read = elim read.passed [
    | inl before ↦ omega (arith, before, high)
    | inr last ↦ omega (arith, last.ends, last.begun, high)
  ]

  -- all inodes before x were read
  pub blocks_all : IsAcceptedLayout v → x ≤ inodes_of v → BlocksRead v x reads now runs t →
      now ≤ reads + table_blocks v + runs
  blocks_all g high read =
      let some : 0 < v.inopb = omega (arith, g.sizes.inopb, g.sizes.bsize_low) in
      omega (arith, read.most, few_blocks read.blocks g (begun_below some high read))

  -- and then the check of the inode x failed
  pub blocks_failed : {now' : ℕ} (runs' : ℕ) {T : Type 0} → IsAcceptedLayout v → x < inodes_of v →
      (HoldsInode t x → T × (now' + runs ≤ now + runs')) → now' + runs ≤ now + 1 + runs' →
      BlocksRead v x reads now runs t → now' ≤ reads + table_blocks v + runs'
  blocks_failed {now'} runs' g below again few read =
      let some : 0 < v.inopb = omega (arith, g.sizes.inopb, g.sizes.bsize_low) in
      let held : HoldsInode t x → now' ≤ reads + table_blocks v + runs' = λ h.
      omega (arith, (again h).1, read.most, few_blocks read.blocks g (begun_below some (omega (arith, below)) read)) in
      let unheld : (HoldsInode t x → ⊥) → now' ≤ reads + table_blocks v + runs' = λ no.
      omega (arith, few, read.most, few_blocks (suc read.blocks) g (omega (arith, passed_all no read, below))) in
      elim (cases_lt x t.first) [
        | inl low ↦ unheld (λ h. omega (arith, h.0, low))
        | inr from ↦ elim (cases_lt x (t.first + t.count)) [
          | inl within ↦ held (from, within)
          | inr past ↦ unheld (λ h. omega (arith, h.1, past))
        ]
      ]

-- blocks that begin before the inode m
few_until : (k m n : ℕ) → 0 < n → k * n < m + n → k ≤ div_ceil m n
few_until k m n some below =
    let most = (div_ceil_times m n some).0 in
    elim (cases_lt (div_ceil m n) k) [
      | inl more ↦
          let whole : (div_ceil m n + 1) * n ≤ k * n = mul-le-mul_right n (omega (arith, more)) in
          absurd (grind arith)
      | inr few ↦ few
    ]

module _ {v : Layout} {x reads now runs : ℕ} {t : Table} where
  -- all inodes before x were read, and none from the inode m on
  pub blocks_until : {m : ℕ} → IsAcceptedLayout v → x ≤ m → BlocksRead v x reads now runs t →
      now ≤ reads + div_ceil m v.inopb + runs
  blocks_until {m} g high read =
      let some : 0 < v.inopb = omega (arith, g.sizes.inopb, g.sizes.bsize_low) in
      let below : read.blocks * v.inopb < m + v.inopb = elim read.passed [
        | inl before ↦ omega (arith, before, high, some)
        | inr last ↦ omega (arith, last.ends, last.begun, high)
      ] in
      omega (arith, read.most, few_until read.blocks m v.inopb some below)

  -- and then the check of the inode x failed
  pub blocks_failed_until : {now' m : ℕ} (runs' : ℕ) → IsAcceptedLayout v → x + 1 ≤ m →
      (HoldsInode t x → now' + runs ≤ now + runs') → now' + runs ≤ now + 1 + runs' →
      BlocksRead v x reads now runs t → now' ≤ reads + div_ceil m v.inopb + runs'
  blocks_failed_until {now'} {m} runs' g high again few read =
      let some : 0 < v.inopb = omega (arith, g.sizes.inopb, g.sizes.bsize_low) in
      let unheld : (HoldsInode t x → ⊥) → now' ≤ reads + div_ceil m v.inopb + runs' = λ no.
      omega (arith, few, read.most, few_until (suc read.blocks) m v.inopb some (omega (arith, passed_all no read, high))) in
      elim (cases_lt x t.first) [
        | inl low ↦ unheld (λ h. omega (arith, h.0, low))
        | inr from ↦ elim (cases_lt x (t.first + t.count)) [
          | inl within ↦ omega (arith, again (from, within), blocks_until {m = m} g (omega (arith, high)) read)
          | inr past ↦ unheld (λ h. omega (arith, h.1, past))
        ]
      ]
