-- How the walk over the blocks of an inode continues, and how many steps it has at most.
use Rattle.std.proofs.{Common.{◌≡◌, ℕ, ◌+◌, ◌*◌, ◌-◌, ◌<◌, ◌≤◌, ◌^◌, arith, List, Option}, lemmas.Nat.mul-le}
use Rattle.ffs_image.specs.Device.{Device}
use Rattle.ffs_layout.specs.declared.geometry.Geometry.{Geometry}
use Rattle.ffs_walk.specs.{declared.{blocks.Blocks.Blocks, walk.Walk.Walk}, Windows.{CanWalk, KeepsBlocks}}
use Rattle.ffs_walk.specs.{Fits.IsSpent, Frames.frame_left, declared.frame.Frame.Frame, Rests.{IsAtTop, most_at}}
use Rattle.ffs_walk.specs.Rests.{most_steps_left}

-- at most how many steps lie under an address, by the words of a block
most_under : (n m1 m2 m3 : ℕ) → n ≤ 16384 → m1 ≡ 2 + n * 1 → m2 ≡ 2 + n * m1 → m3 ≡ 2 + n * m2 → m3 ≤ 4398583414786
most_under n m1 m2 m3 few a b c = grind arith

spent_left : (most : ℕ) (f : Frame) → IsSpent f → frame_left most f ≡ 0
spent_left most f s = let none : f.used - f.next ≡ 0 = omega (arith, s.0) in rw (s.1, none) (omega arith)

pub most_small : (w : Walk) → IsAtTop w → most_steps_left w < 2 ^ 62
most_small w top =
    let s = w.geometry.sound.sizes in
    let n = w.geometry.layout.nindir in
    let few : n ≤ 16384 = omega (arith, s.nindir, s.bsize_high) in
    let most : most_at n 3 ≤ 4398583414786 =
    most_under n (most_at n 1) (most_at n 2) (most_at n 3) few (omega arith) (omega arith) (omega arith) in
    let all : (w.used - w.next) * most_at n 3 ≤ 15 * 4398583414786 =
    mul-le (w.used - w.next) (most_at n 3) 15 4398583414786 (omega (arith, w.in_array)) most in
    let single = spent_left (most_at n 0) w.single top.single in
    let double = spent_left (most_at n 1) w.double top.double in
    let triple = spent_left (most_at n 2) w.triple top.triple in
    rw (single, double, triple) (omega (arith, all))

-- a walk can be gone on with
pub walk_on : {g k : Geometry} {d0 d : Device} {b0 b : Blocks} → k ≡ g → d ≡ d0 → CanWalk g.layout d0 b0 →
    KeepsBlocks g.layout d0.contents b0 b → CanWalk k.layout d b
walk_on same e can kept = grind arith

-- the buffer of blocks is as it was, and holds what the image gives
pub blocks_on : {g k : Geometry} (d0 d' : Device) {b0 b b' : Blocks} → k ≡ g → d'.contents ≡ d0.contents →
    KeepsBlocks g.layout d0.contents b0 b → KeepsBlocks k.layout d'.contents b b' →
    KeepsBlocks g.layout d0.contents b0 b'
blocks_on d0 d' same e first second = grind arith

-- and after a failed read
pub blocks_then : {g k : Geometry} {contents contents' : Option (List ℕ)} {b0 b b' : Blocks} → k ≡ g →
    KeepsBlocks g.layout contents b0 b → KeepsBlocks k.layout contents' b b' →
    KeepsBlocks g.layout contents' b0 b'
blocks_then same first second = grind arith
