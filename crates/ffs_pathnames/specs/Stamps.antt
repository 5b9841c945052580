-- Stamps, by the parents of inodes and by the words that say which parent entries are due.
use Rattle.std.specs.{Prelude.{◌≡◌, ℕ, if◌then◌else◌, List, [], ◌∷◌, slice_index, vec_len}, declared.alloc.Global.Global}
use Rattle.std.specs.declared.vec.Vec.{Vec}
use Rattle.ffs_volume.specs.Encodings.Places.{is_due, part_in}

-- the parent of an inode, where its entry there is due, else 0
abbrev pub stamp_of : (parent word : ℕ) → ℕ
stamp_of parent word = if is_due word then parent else 0

-- the stamp of each inode that has a word
abbrev pub stamps_of : (parents words : List ℕ) → List ℕ
stamps_of parents [] = []
stamps_of [] (w ∷ ws) = 0 ∷ stamps_of [] ws
stamps_of (p ∷ ps) (w ∷ ws) = stamp_of p w ∷ stamps_of ps ws

-- each word notes the same place as before
abbrev pub KeepParts : (old new : List ℕ) → Type 0
KeepParts old new = (x : ℕ) → part_in (slice_index new x) ≡ part_in (slice_index old x)

-- there are as many words, and each notes the same place
pub record KeepsWords (old new : Vec ℕ Global) : Type 0 where
  pub places : KeepParts old.items new.items
  pub long : vec_len new ≡ vec_len old
