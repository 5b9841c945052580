-- Products of sizes and numbers of blocks have room in 64 bits, and addresses are few.
use Rattle.std.{proofs.{Common.{ℕ, ◌+◌, ◌*◌, ◌<◌, ◌≤◌, arith}, lemmas.Bool.Decides.nat_tests}, specs.Int.div_ceil}
use Rattle.ffs_volume.specs.{declared.{Inode.Inode, Layout.Layout}, Laws.Geometry.IsAcceptedLayout}
use Rattle.ffs_volume.{specs.Blocks.Inodes.addresses_allowed, proofs.StepLaws.used_most}

-- products of factors that are small are small
pub products_small : (a b m n : ℕ) → a ≤ m → b ≤ n → a * b ≤ m * n
products_small a b m n h k = grind arith

pub size_small : (a b : ℕ) → a ≤ 16384 → b ≤ 65536 → (12 + a + a * a + a * a * a) * b < 18446744073709551616
size_small a b h k =
    let squared = products_small a a 16384 16384 h h in
    let cubed = products_small (a * a) a 268435456 16384 squared h in
    omega (arith, products_small (12 + a + a * a + a * a * a) b 4398315044876 65536 (omega (arith, squared, cubed)) k)

-- fifteen addresses always reach 2^31 bytes
pub size_large : (a b : ℕ) → 1024 ≤ a → 4096 ≤ b → 2147483647 < (12 + a + a * a + a * a * a) * b
size_large a b h k = grind arith

-- a size has few blocks
pub blocks_small : (size bsize : ℕ) → size < 18446744073709551616 → 4096 ≤ bsize → bsize ≤ 65536 →
    div_ceil size bsize < 9007199254740992
blocks_small size bsize h low high = grind arith

-- an inode may use no more than its fifteen addresses
pub allowed_few : (v : Layout) (inode : Inode) → IsAcceptedLayout v → addresses_allowed v inode ≤ 15
allowed_few v inode sound = grind (arith, nat_tests, used_most)
