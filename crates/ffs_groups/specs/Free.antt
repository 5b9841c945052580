-- What the free fragments of blocks add to the counts of a group.
use Rattle.std.specs.Prelude.{ℕ, ◌≡◌, ◌+◌, ◌*◌, ◌^◌, ◌<◌, ◌≤◌, Bool, not, ◌&&◌, List, map, nat_eq, nat_lt, ◌==◌}
use Rattle.std.specs.{Prelude.{if◌then◌else◌, slice_index, count_by}, List.{range_with_len, sum_by}, Int.bit_at}
use Rattle.ffs_volume.specs.Groups.Records.{is_free_block, free_stretches, block_bits, block_numbers, right_frsum}
use Rattle.ffs_volume.specs.{declared.Layout.Layout, Blocks.Claims.is_set}
use Rattle.ffs_groups.specs.declared.free.FreeSpace.{FreeSpace}

-- the fragments below the size whose bit in a map of used ones is clear
abbrev pub free_in : List Bool → (size f : ℕ) → Bool
free_in used size f = nat_lt f size && not (is_set used f)

-- n bits of a word, from an index on
abbrev pub word_bits : (word index n : ℕ) → List Bool
word_bits word index n = map (λ k. nat_eq (bit_at word k) 1) (range_with_len index n)

-- which fragments of block b are free, where block 0 begins at `start`
abbrev pub bits_from : (free : ℕ → Bool) (start frag b : ℕ) → List Bool
bits_from free start frag b = map free (range_with_len (start + b * frag) frag)

-- what a block with these free fragments adds to the free blocks, to the free fragments of other
-- blocks, and to their stretches of length k
abbrev pub whole_in : List Bool → ℕ
whole_in bits = if is_free_block bits then 1 else 0

abbrev pub loose_in : List Bool → ℕ
loose_in bits = if is_free_block bits then 0 else count_by (λ f. f) bits

abbrev pub stretches_in : ℕ → List Bool → ℕ
stretches_in k bits = if is_free_block bits then 0 else count_by (λ n. n == k) (free_stretches 0 bits)

-- each count is below a limit
pub record AreBelow (limit : ℕ) (counts : FreeSpace) : Type 0 where
  pub blocks : counts.blocks < limit
  pub fragments : counts.fragments < limit
  pub frsum : (k : ℕ) → slice_index counts.frsum k < limit

-- b blocks, f other fragments and, for each k, r k stretches of length k are added
pub record Grown (b f : ℕ) (r : ℕ → ℕ) (old new : FreeSpace) : Type 0 where
  pub blocks : new.blocks ≡ old.blocks + b
  pub fragments : new.fragments ≡ old.fragments + f
  pub frsum : (k : ℕ) → slice_index new.frsum k ≡ slice_index old.frsum k + r k

-- a stretch is no longer than a block can be, and the counts have room for it
pub record HasRoomToEnd (stretch limit : ℕ) (counts : FreeSpace) : Type 0 where
  pub few : stretch ≤ 8
  pub below : AreBelow limit counts

-- a word has room for `blocks` blocks, and the counts have room for what these add
pub record HasRoomToCount (blocks frag limit : ℕ) (counts : FreeSpace) : Type 0 where
  pub some : 0 < frag
  pub few : frag ≤ 8
  pub room : blocks * frag ≤ 64
  pub below : AreBelow limit counts

-- blocks of a volume begin at a fragment, and the counts have room for them
pub record HasBlocks (start frag limit : ℕ) (counts : FreeSpace) : Type 0 where
  pub some : 0 < frag
  pub few : frag ≤ 8
  pub near : start < 2 ^ 62
  pub below : AreBelow limit counts

-- what is free in n blocks, from block `from` on, is added
pub record Added (bits : ℕ → List Bool) (from n : ℕ) (old new : FreeSpace) : Type 0 where
  pub blocks : new.blocks ≡ old.blocks + sum_by (λ b. whole_in (bits b)) (range_with_len from n)
  pub fragments : new.fragments ≡ old.fragments + sum_by (λ b. loose_in (bits b)) (range_with_len from n)
  pub frsum : (k : ℕ) → slice_index new.frsum k
      ≡ slice_index old.frsum k + sum_by (λ b. stretches_in k (bits b)) (range_with_len from n)

-- what is free in group c is counted
pub record AreFreeCounts (v : Layout) (free : ℕ → Bool) (c : ℕ) (counts : FreeSpace) : Type 0 where
  pub blocks : counts.blocks ≡ sum_by (λ b. whole_in (block_bits v free c b)) (block_numbers v)
  pub fragments : counts.fragments ≡ sum_by (λ b. loose_in (block_bits v free c b)) (block_numbers v)
  pub frsum : (k : ℕ) → slice_index counts.frsum k ≡ right_frsum v free c k
  pub blocks_fit : counts.blocks < 2 ^ 32
  pub fragments_fit : counts.fragments < 2 ^ 32

-- so many fragments are asked about at a time: a block has fewer
pub record IsAtOnce (n : ℕ) : Type 0 where
  pub few : 1024 ≤ n
  pub many : n ≤ 16384
