-- How a buffer is filled from a source, piece after piece.
use Rattle.std.proofs.Common.{◌≡◌, ℕ, ◌+◌, ◌-◌, ◌≤◌, List, ◌++◌, length, take, drop, Option, arith, refl, Result, Ok}
use Rattle.std.proofs.{Common.suc, Math.Seq.{take-add, take-append-add}, lemmas.List.{take-append-le, drop-drop}}
use Rattle.std.proofs.lemmas.List.{length-take-le, length-append}
use borrow.Rule.Slice.PartMut.{put_mid}
use Rattle.ffs_image.specs.Source.{AreAt, IsReadTo}

-- the first bytes of a list into whose rest some were put
pieces : (f n : ℕ) (xs ys : List ℕ) → f ≤ length xs → n ≤ length ys → take (f + n) (put_mid f (length xs - f) xs ys)
    ≡ take f xs ++ take n ys
pieces f n xs ys p q = grind (arith, length-take-le, take-append-add, take-append-le)

-- bytes at a place, and those that follow them
joined : (at : ℕ) (xs ys bytes : List ℕ) → xs ≡ take (length xs) (drop at bytes) →
    ys ≡ take (length ys) (drop (at + length xs) bytes) →
    xs ++ ys ≡ take (length (xs ++ ys)) (drop at bytes)
joined at xs ys bytes p q = grind (arith, drop-drop, take-add, length-append)

pub filled_more : (contents : Option (List ℕ)) (at f n : ℕ) (xs ys : List ℕ) → f ≤ length xs → n ≤ length ys →
    AreAt contents at (take f xs) → AreAt contents (at + f) (take n ys) →
    AreAt contents at (take (f + n) (put_mid f (length xs - f) xs ys))
filled_more contents at f n xs ys p q before more bytes t = grind (arith, length-take-le, joined, pieces)

-- one read more
pub read_more : {S E : Type 0} (was_read : S → ℕ → ℕ → Result ℕ E → S → Type 0) (at len before some : ℕ) (a b c : S) →
    IsReadTo was_read at len before a b → was_read b (at + before) (len - before) (Ok some) c →
    IsReadTo was_read at len (before + some) a c
read_more was_read at len before some a b c p q = record {
  count = suc p.count;
  pieces = (before, some, b, p.pieces, q, refl);
}
