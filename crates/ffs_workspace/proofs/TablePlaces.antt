-- Where inodes are in the blocks of their tables.
use Rattle.std.proofs.Common.{◌≡◌, ℕ, suc, ◌+◌, ◌-◌, ◌*◌, ◌/◌, ◌%◌, ◌<◌, ◌≤◌, true, Option, List, take, drop, arith, ap}
use Rattle.std.proofs.{Common.{◌∙◌, zero, Err}, Math.Nat.{mul-le-mul_right, mul-div_cancel, mul_comm, mul_assoc}}
use Rattle.std.proofs.{Math.Nat.{div-add-mod', mod-lt, mul-mod_right, mod_self}, lemmas.Nat.{div_below, div-mul-add}}
use Rattle.std.proofs.lemmas.{Nat.mod-mul-add, List.{drop-take, take-take, drop-drop}, Bool.Decides.nat_tests}
use Rattle.std.specs.List.{slice_range}
use Rattle.ffs_volume.specs.{declared.{Layout.Layout, Inode.Inode}, Blocks.Inodes.{inode_from_bytes, inode_of, inodes_of}}
use Rattle.ffs_volume.specs.Disk.{Numbers.piece, Areas.{cgstart, cgdmin, inode_place}, Outcome.is_block_size}
use Rattle.ffs_volume.specs.{Disk.Outcome.has_valid_sizes, Laws.Geometry.IsAcceptedLayout}
use Rattle.ffs_volume.proofs.{AreaLaws.inode_group, GeometryLaws.shape_holds}
use Rattle.ffs_image.specs.declared.image.ImageFault.{ImageFault}
use Rattle.ffs_walk.specs.Windows.{WindowHolds}
use Rattle.ffs_workspace.specs.{declared.table.Table.Table, Tables.{DividesBlock, DividesBlocks, table_place}}
use Rattle.ffs_workspace.specs.Tables.{FailsInPiece, HoldsInode, IsInPlace, IsTableOf, IsHeldAt, IsSectorOfInode, IsTableSector}

-- a block holds whole inodes
block_whole : (n : ℕ) → is_block_size n ≡ true → 128 * (n / 128) ≡ n
unfolding is_block_size
block_whole n h = grind (arith, nat_tests)

block_is : (v : Layout) → has_valid_sizes v ≡ true → is_block_size v.bsize ≡ true
unfolding has_valid_sizes
block_is v h = grind (arith, nat_tests)

pub inodes_whole : (v : Layout) → IsAcceptedLayout v → 128 * v.inopb ≡ v.bsize
inodes_whole v g = grind (arith, block_is, shape_holds, block_whole)

-- a whole number of blocks
whole_blocks : (ipg n : ℕ) → ipg % n ≡ 0 → n * (ipg / n) ≡ ipg
whole_blocks ipg n e = grind (arith, div-add-mod' ipg n)

-- what a table of m inodes has, in pieces of n
piece_ends : (i m n : ℕ) → 0 < n → i < m → m % n ≡ 0 → i / n * (n * 128) + n * 128 ≤ m * 128
piece_ends i m n some below e = grind (arith, whole_blocks, div_below, mul_comm, mul-le-mul_right, mul_assoc)

-- the table of a group ends before its data
table_fits : (v : Layout) → IsAcceptedLayout v → v.iblkno * v.fsize + v.ipg * 128 ≤ v.dblkno * v.fsize
table_fits v g =
    let all : v.inopb * (v.ipg / v.inopb) ≡ v.ipg = whole_blocks v.ipg v.inopb g.sizes.inode_blocks in
    let same : 128 * v.inopb ≡ v.bsize = inodes_whole v g in
    let block : v.bsize ≡ v.frag * v.fsize = g.sizes.block in
    fits (v.ipg / v.inopb) v.inopb v.ipg v.bsize v.frag v.fsize v.iblkno v.dblkno all same block (omega arith)
    g.parts.inodes_fit
  where
    fits : (m n ipg b frag f low high : ℕ) → n * m ≡ ipg → 128 * n ≡ b → b ≡ frag * f → 0 < f →
        low + ipg * 128 / f ≤ high → low * f + ipg * 128 ≤ high * f
    fits m n ipg b frag f low high all same block some room =
        let bytes : ipg * 128 ≡ m * frag * f = grind (arith, mul_comm, mul_assoc) in
        let blocks : ipg * 128 / f ≡ m * frag = rw bytes (mul-div_cancel (m * frag) some) in
        let scaled : (low + m * frag) * f ≤ high * f = mul-le-mul_right f (omega arith) in
        grind (arith, bytes, scaled)

-- a table is whole pieces, as its blocks are
table_whole : (v : Layout) (n : ℕ) → IsAcceptedLayout v → DividesBlock v n → v.ipg % n ≡ 0
table_whole v n g d = grind (arith, whole_blocks, mul_assoc, mul-mod_right)

-- the piece of an inode ends in the volume
pub piece_inside : (v : Layout) (n x : ℕ) → IsAcceptedLayout v → DividesBlock v n → x / v.ipg < v.ncg →
    (cgstart v (x / v.ipg) + v.iblkno) * v.fsize + x % v.ipg / n * (n * 128) + n * 128 ≤ v.size * v.fsize
piece_inside v n x g d group =
    let parts = g.groups (x / v.ipg) group in
    let low : x % v.ipg < v.ipg = mod-lt x g.sizes.some_inodes in
    let ends = piece_ends (x % v.ipg) v.ipg n d.some low (table_whole v n g d) in
    let fits = table_fits v g in
    let within : cgdmin v (x / v.ipg) ≤ v.size = parts.within_size in
    let scaled : cgdmin v (x / v.ipg) * v.fsize ≤ v.size * v.fsize = mul-le-mul_right v.fsize within in
    grind (arith, ends, fits, scaled)

-- no piece is longer than a block
pub piece_room : (v : Layout) (n : ℕ) → IsAcceptedLayout v → DividesBlock v n → n * 128 ≤ v.bsize
piece_room v n g d =
    let same : 128 * v.inopb ≡ v.bsize = inodes_whole v g in
    let block : n * (v.inopb / n) ≡ v.inopb = whole_blocks v.inopb n d.whole in
    let within : n ≤ v.inopb = within (v.inopb / n) block (omega (arith, same)) in
    omega (arith, same, within)
  where
    within : {n m : ℕ} (k : ℕ) → n * k ≡ m → 0 < m → n ≤ m
    within zero e some = omega arith
    within {n} (suc k) e some = grind (arith, e)

-- where a piece lies
pub ruleset piece_laws = (piece_room, piece_inside, inode_group)

-- a block is a whole number of 4,096 bytes
block_parts : (n : ℕ) → is_block_size n ≡ true → 4096 * (n / 4096) ≡ n
unfolding is_block_size
block_parts n h = grind (arith, nat_tests)

-- so it is a whole number of 32 inodes, and of 4
pub parts_divide : DividesBlocks 32
parts_divide v g =
    let whole = block_parts v.bsize (block_is v (shape_holds v g.shaped).0) in
    let same = inodes_whole v g in
    record { some = omega arith; whole = omega (arith, whole, same) }

pub sectors_divide : DividesBlocks 4
sectors_divide v g = let parts = (parts_divide v g).whole in
    record { some = omega arith; whole = omega (arith, parts) }

-- a block is one piece
pub block_divides : (v : Layout) → IsAcceptedLayout v → DividesBlock v v.inopb
block_divides v g = grind (arith, inodes_whole, mod_self)

-- the numbers of the block of x, in blocks of n: each is in the same table of ipg, and in the same
-- block of it
pub in_block : (x y ipg n : ℕ) → 0 < n → 0 < ipg → ipg % n ≡ 0 → x - x % ipg % n ≤ y → y < x - x % ipg % n + n →
    (y / ipg ≡ x / ipg) × (y % ipg ≡ x % ipg / n * n + (y - (x - x % ipg % n)))
in_block x y ipg n some filled whole low high =
    let below : x % ipg < ipg = mod-lt x filled in
    let all : n * (ipg / n) ≡ ipg = whole_blocks ipg n whole in
    let less : x % ipg / n < ipg / n = div_below (x % ipg) n (ipg / n) some (omega (arith, mul_comm n (ipg / n))) in
    let more : suc (x % ipg / n) * n ≤ ipg / n * n = mul-le-mul_right n less in
    let ends : x % ipg / n * n + n ≤ ipg = omega (arith, mul_comm n (ipg / n)) in
    let table : x / ipg * ipg + x % ipg ≡ x = omega (arith, div-add-mod' x ipg, mul_comm ipg (x / ipg)) in
    let block : x % ipg / n * n + x % ipg % n ≡ x % ipg =
    omega (arith, div-add-mod' (x % ipg) n, mul_comm n (x % ipg / n)) in
    let within = x % ipg / n * n + (y - (x - x % ipg % n)) in
    let small : within < ipg = omega arith in
    let is : y ≡ x / ipg * ipg + within = omega arith in (
      ap (λ (m : ℕ). m / ipg) is ∙ div-mul-add (x / ipg) ipg within small,
      ap (λ (m : ℕ). m % ipg) is ∙ mod-mul-add (x / ipg) ipg within small,
    )

-- the piece of x has each of its inodes in its place
pub inodes_there : (v : Layout) (n x : ℕ) (t : Table) → IsAcceptedLayout v → DividesBlock v n →
    t.first ≡ x - x % v.ipg % n → t.count ≡ n → t.window.place ≡ table_place v n x → t.window.length ≡ n * 128 →
    (y : ℕ) → HoldsInode t y → IsInPlace v t y
inodes_there v n x t g d first count place length y has = grind (arith, in_block, table_whole, mul_comm, mul_assoc)

-- a piece of a piece
pub piece_of : (place length at n : ℕ) (bytes : List ℕ) → at + n ≤ length → piece at n (piece place length bytes)
    ≡ piece (place + at) n bytes
piece_of place length at n bytes h =
    let more : length ≡ at + (length - at) = omega arith in
    ap (λ (k : ℕ). take n (drop at (take k (drop place bytes)))) more
    ∙ ap (λ (xs : List ℕ). take n xs) (drop-take at (length - at) (drop place bytes))
    ∙ take-take n (length - at) (drop at (drop place bytes)) (omega arith)
    ∙ ap (λ (xs : List ℕ). take n xs) (drop-drop at place bytes)

-- the bytes of an inode that is in its place
pub held_there : (v : Layout) (contents : Option (List ℕ)) (x : ℕ) (t : Table) → IsTableOf v t →
    WindowHolds contents t.window → HoldsInode t x → IsHeldAt v contents t x (128 * (x - t.first))
held_there v contents x t made holds has =
    let in_place = made.inodes x has in
    let at = 128 * (x - t.first) in
    record {
      inside = in_place.inside;
      bytes = λ b is.
          let many : at + 128 - at ≡ 128 = omega arith in
          ap (λ (xs : List ℕ). slice_range xs at (at + 128)) (holds.bytes b is)
          ∙ ap (λ (n : ℕ). take n (drop at (piece t.window.place t.window.length b))) many
          ∙ piece_of t.window.place t.window.length at 128 b in_place.inside
          ∙ ap (λ (n : ℕ). piece n 128 b) in_place.place;
    }

-- a value of the bytes of an inode that are held is its value of the inode
pub inode_there : {T : Type 0} (value : Inode → T) (v : Layout) (x at : ℕ) (bytes held held' : List ℕ) (i : T) →
    held' ≡ held → slice_range held at (at + 128) ≡ piece (inode_place v x) 128 bytes →
    i ≡ value (inode_from_bytes v.order (slice_range held' at (at + 128))) → i ≡ value (inode_of v bytes x)
unfolding inode_of
inode_there value v x at bytes held held' i same there is = grind arith

-- a read of the block of an inode fails in its sector, which is one of the inode tables if the inode is of the volume
pub fails_in_block : (T : Type 0) (v : Layout) (x : ℕ) (t : Table) (fault : ImageFault) →
    FailsInPiece {T = T} v v.inopb x t (Err fault) → IsSectorOfInode v x fault.sector
unfolding FailsInPiece
fails_in_block T v x t fault h = h.1

pub fails_in_table : (T : Type 0) (v : Layout) (x : ℕ) (t : Table) (fault : ImageFault) → x < inodes_of v →
    FailsInPiece {T = T} v v.inopb x t (Err fault) → IsTableSector v fault.sector
fails_in_table T v x t fault low h = (x, low, fails_in_block T v x t fault h)
