-- Blocks of which one is read anew.
use Rattle.std.proofs.Common.{◌≡◌, ◌≢◌, ◌∙◌, ℕ, ◌+◌, ◌-◌, ◌*◌, ◌<◌, ◌≤◌, List, length, take, Option, Some, None, ◌⊎◌}
use Rattle.std.{proofs.Common.{inl, inr, arith, ap, slice_set}, specs.Prelude.{Vec, vec_len}}
use Rattle.std.{specs.Vec.with_items, proofs.lemmas.List.{drop-take, get_or-set_same, get_or-set_other, length-set}}
use Rattle.std.proofs.lemmas.{List.{length-take-le, length-drop, with_items_is}, Slice.take-put_mid_below}
use Rattle.std.proofs.lemmas.Slice.{drop-put_mid, between-put_mid}
use borrow.Rule.Slice.PartMut.{put_mid, same_len_mid}
use Rattle.ffs_image.specs.Device.{ForContents}
use Rattle.ffs_volume.specs.{Disk.Numbers.piece, Blocks.Steps.block_bytes, declared.Layout.Layout}
use Rattle.ffs_walk.specs.{declared.blocks.Blocks.Blocks, Windows.{BlocksHold, KeepsBlocks, level_bytes, held_address}}

-- a write to a part leaves what is before it and after it
pub piece_kept : (a k p n : ℕ) (xs ys : List ℕ) → a + k ≤ length xs → length ys ≡ k → (p + n ≤ a) ⊎ (a + k ≤ p) →
    piece p n (put_mid a k xs ys) ≡ piece p n xs
piece_kept a k p n xs ys h len (inl below) =
    rw (← drop-take p n (put_mid a k xs ys), take-put_mid_below a k xs ys (p + n) below (omega arith)) (drop-take p n xs)
piece_kept a k p n xs ys h len (inr above) = ap (take n) (drop-put_mid a k xs ys p above (omega arith) len)

-- where one level's part is written, the other levels hold what they held
pub held_apart : (v : Layout) (contents : Option (List ℕ)) (old new : Blocks) (level k : ℕ) (ys : List ℕ) →
    BlocksHold v contents old →
    new.buffer.items ≡ put_mid (level * v.bsize) k old.buffer.items ys →
    k ≡ v.bsize → length ys ≡ k → 3 * v.bsize ≤ length old.buffer.items → level < 3 →
    ((other : ℕ) → other ≢ level → held_address other new ≡ held_address other old) →
    ((other : ℕ) → other ≡ level → (address : ℕ) → held_address other new ≡ Some address →
    ForContents contents (λ b. level_bytes v other new ≡ block_bytes v b address)) →
    BlocksHold v contents new
held_apart v contents old new level k ys holds is size len room lt others own = grind (arith, piece_kept)

-- what was written to a part is what the part holds
pub piece_written : (a k : ℕ) (xs ys : List ℕ) → a ≤ length xs → length ys ≡ k → piece a k (put_mid a k xs ys) ≡ ys
piece_written a k xs ys h len =
    let e : a + k - a ≡ k = omega arith in
    rw e at (between-put_mid a k xs ys (a + k) h (omega arith))

pub some_is : (a b : ℕ) → Some a ≡ Some b → a ≡ b
some_is a b e = cc

-- a buffer after a write to a part of it
pub written_is : {Z : Type 0} (buffer : Vec ℕ Z) (a k : ℕ) (items ys : List ℕ) → items ≡ buffer.items → length ys ≡ k →
    a + k ≤ vec_len buffer →
    (with_items buffer (put_mid a k items ys)).items ≡ put_mid a k buffer.items ys
written_is buffer a k items ys is len room = grind (arith, with_items_is, same_len_mid, length-take-le, length-drop)

-- after a failed read a level holds nothing
pub held_without : (v : Layout) (contents contents' : Option (List ℕ)) (old : Blocks) (level k : ℕ) (items ys : List ℕ)
    →
    BlocksHold v contents old → contents' ≡ contents → items ≡ old.buffer.items → k ≡ v.bsize → length ys ≡ k →
    3 * v.bsize ≤ vec_len old.buffer →
    level < 3 → level < length old.held →
    BlocksHold v contents' (record {
      buffer = with_items old.buffer (put_mid (level * v.bsize) k items ys);
      held = slice_set old.held level None;
    })
held_without v contents contents' old level k items ys holds same is size len room lt within =
    grind (arith, written_is, held_apart, get_or-set_other, get_or-set_same)

-- after a read a level holds what was read
pub held_with : (v : Layout) (contents contents' : Option (List ℕ)) (old : Blocks) (level address k : ℕ)
    (items ys : List ℕ) →
    BlocksHold v contents old → contents' ≡ contents → items ≡ old.buffer.items → k ≡ v.bsize → length ys ≡ k →
    3 * v.bsize ≤ vec_len old.buffer →
    level < 3 → level < length old.held →
    ForContents contents (λ b. ys ≡ block_bytes v b address) →
    BlocksHold v contents' (record {
      buffer = with_items old.buffer (put_mid (level * v.bsize) k items ys);
      held = slice_set (slice_set old.held level None) level (Some address);
    })
held_with v contents contents' old level address k items ys holds same is size len room lt within read =
    grind (arith, written_is, held_apart, get_or-set_other, get_or-set_same, length-set, piece_written)

-- blocks that hold what the image gives after one read and after another
pub keeps_then : {v v' : Layout} {contents contents' : Option (List ℕ)} {b0 b b' : Blocks} → v' ≡ v →
    KeepsBlocks v contents b0 b → KeepsBlocks v' contents' b b' → KeepsBlocks v contents' b0 b'
keeps_then same p q = record { size = q.size ∙ p.size; holds = rw same at q.holds }
