-- What is kept of an image between reads.
use Rattle.std.specs.Prelude.{◌≡◌, ◌*◌, ◌+◌, ◌/◌, ◌<◌, ◌≤◌, ℕ, List, length, take, Option, Some, None, vec_len, get_or}
use Rattle.std.specs.Prelude.{Result, OnOk, OnErr, IfErr, IsTrue}
use Rattle.ffs_image.specs.{Device.{Device, ForContents}, Reads.ReadAfter, declared.image.ImageFault.ImageFault}
use Rattle.ffs_volume.specs.{declared.Layout.Layout, Disk.{Areas.{is_run_in_range, FitsIn}, Numbers.piece}}
use Rattle.ffs_volume.specs.{declared.constants.TheConstants.DEV_BSIZE, Blocks.Steps.{address_in, block_bytes}}
use Rattle.ffs_memory.specs.declared.fixed_list.FixedList.{FixedList}
use Rattle.ffs_walk.specs.declared.{window.Window.Window, blocks.Blocks.Blocks}
use Rattle.ffs_image.specs.declared.image.Image as image

-- a moment of an image that is read through a cache, as a window or the blocks of a walk: the image, how
-- often it was read by then, and the cache
pub record ImageWith (T : Type 0) : Type 0 where
  pub image : Device
  pub reads : ℕ
  pub cache : T

-- the moment at which an image and its cache are these. I is what its type gives to contracts as an
-- Image: in a contract I.Image
abbrev pub image_with : {I T : Type 0} → image.Ghosts I → I → T → ImageWith T
image_with I image cache = record { image = I.device image; reads = I.reads image; cache = cache }

-- the bytes that a window holds
abbrev pub held_bytes : Window → List ℕ
held_bytes w = take w.length w.buffer.items

-- a window holds exactly the image's bytes of its place, where the image gives its bytes
pub record WindowHolds (contents : Option (List ℕ)) (w : Window) : Type 0 where
  pub fits : w.length ≤ vec_len w.buffer
  pub bytes : ForContents contents (λ b. held_bytes w ≡ piece w.place w.length b)

-- the bytes in the part of the buffer that is for the indirect blocks of a level: 0 for those with addresses of data,
-- that is the level of the addresses in them (`Blocks/Steps`)
abbrev pub level_bytes : Layout → ℕ → Blocks → List ℕ
level_bytes v level blocks = piece (level * v.bsize) v.bsize blocks.buffer.items

-- the address of the block that is held for a level, if one is
abbrev pub held_address : ℕ → Blocks → Option ℕ
held_address level blocks = get_or blocks.held level None

-- each block that is held is the image's block at its address, where the image gives its bytes
pub record BlocksHold (v : Layout) (contents : Option (List ℕ)) (blocks : Blocks) : Type 0 where
  pub block : (level : ℕ) → level < 3 → (address : ℕ) → held_address level blocks ≡ Some address
      → ForContents contents (λ b. level_bytes v level blocks ≡ block_bytes v b address)

-- the buffer has room for a block of each level
pub record HasRoom (v : Layout) (blocks : Blocks) : Type 0 where
  pub blocks_fit : 3 * v.bsize ≤ vec_len blocks.buffer

-- the number is a level's, and the buffer has room for a block of each
pub record HasLevel (v : Layout) (level : ℕ) (blocks : Blocks) : Type 0 where
  pub is_level : level < 3
  pub room : HasRoom v blocks

-- these are the bytes in the part of the buffer that is for a level, as many as a block has
pub record AreLevelBytes (v : Layout) (level : ℕ) (blocks : Blocks) (xs : List ℕ) : Type 0 where
  pub bytes : xs ≡ level_bytes v level blocks
  pub size : length xs ≡ v.bsize

-- the image has all of the volume, and the buffer has room for indirect blocks and holds what the
-- image gives
pub record CanWalk (v : Layout) (d : Device) (blocks : Blocks) : Type 0 where
  pub volume : FitsIn v d.size
  pub room : HasRoom v blocks
  pub holds : BlocksHold v d.contents blocks

-- the buffer has the size that it had, and holds what the image gives
pub record KeepsBlocks (v : Layout) (contents : Option (List ℕ)) (before after : Blocks) : Type 0 where
  pub size : vec_len after.buffer ≡ vec_len before.buffer
  pub holds : BlocksHold v contents after

-- a call that may read an indirect block leaves the image as a read does, and blocks that hold what
-- the image gives
pub record BlocksAfter {T : Type 0} (v : Layout) (old new : ImageWith Blocks) (result : Result T ImageFault) : Type 0
  where
    pub kept : KeepsBlocks v new.image.contents old.cache new.cache
    pub read : ReadAfter old.image new.image result

-- the block at an address is held for a level, with the image's bytes, where the image gives them
pub record HoldsBlockAt (v : Layout) (contents : Option (List ℕ)) (level address : ℕ) (blocks : Blocks) : Type 0
  where
    pub is_held : held_address level blocks ≡ Some address
    pub bytes : ForContents contents (λ b. level_bytes v level blocks ≡ block_bytes v b address)

-- the block at an address may be asked for, for a level: it is in range, and a walk may read
pub record CanFill (v : Layout) (d : Device) (level address : ℕ) (blocks : Blocks) : Type 0 where
  pub is_level : level < 3
  pub in_range : IsTrue (is_run_in_range v address v.frag)
  pub ready : CanWalk v d blocks

-- a read that fails is one from this byte of the image on: its fault has the sector of that byte
abbrev pub FailsAt : {T : Type 0} → ℕ → Result T ImageFault → Type 0
FailsAt at result = IfErr result (λ fault. fault.sector ≡ at / DEV_BSIZE)

-- the block at an address is held for a level, or a read of it failed; the other levels hold what
-- they held. It is read at most once, and not where it was held already
pub record FillsBlock {T : Type 0} (v : Layout) (level address : ℕ) (old new : ImageWith Blocks)
    (result : Result T ImageFault) : Type 0 where
  pub held : OnOk result (HoldsBlockAt v old.image.contents level address new.cache)
  pub leaves : BlocksAfter v old new result
  pub others : (other : ℕ) → (other ≡ level → ⊥) → held_address other new.cache ≡ held_address other old.cache
  pub counted : new.reads ≤ old.reads + 1
  pub again : held_address level old.cache ≡ Some address → new.reads ≤ old.reads
  pub sector : FailsAt (address * v.fsize) result

-- `size` bytes of a place may be asked for: the image has them, and the window has room for them and
-- holds what the image gives
pub record CanFillWindow (d : Device) (at size : ℕ) (w : Window) : Type 0 where
  pub room : size ≤ vec_len w.buffer
  pub inside : at + size ≤ d.size
  pub holds : WindowHolds d.contents w

-- a window with the room that it had holds `size` bytes of a place, or after a failed read none. They
-- are read at most once, and not where it held just these
pub record FillsWindow {T : Type 0} (at size : ℕ) (old new : ImageWith Window) (result : Result T ImageFault) : Type 0
  where
    pub bytes : OnOk result (ForContents old.image.contents (λ b. held_bytes new.cache ≡ piece at size b))
    pub place : OnOk result ((new.cache.place ≡ at) × (new.cache.length ≡ size))
    pub empty : OnErr result (new.cache.length ≡ 0)
    pub room : vec_len new.cache.buffer ≡ vec_len old.cache.buffer
    pub holds : WindowHolds new.image.contents new.cache
    pub read : ReadAfter old.image new.image result
    pub counted : new.reads ≤ old.reads + 1
    pub again : old.cache.place ≡ at → old.cache.length ≡ size → new.reads ≤ old.reads
    pub sector : FailsAt at result

-- a window over a list that holds nothing, and so what any image gives
pub record IsEmptyWindow (list : FixedList ℕ) (w : Window) : Type 0 where
  pub buffer : w.buffer ≡ list
  pub empty : w.length ≡ 0
  pub holds : (contents : Option (List ℕ)) → WindowHolds contents w

-- blocks over a list that hold nothing, and so what any image of any layout gives
pub record AreEmptyBlocks (list : FixedList ℕ) (blocks : Blocks) : Type 0 where
  pub buffer : blocks.buffer ≡ list
  pub holds : (v : Layout) (contents : Option (List ℕ)) → BlocksHold v contents blocks

-- these bytes have the words from an index on and below another
pub record HasWordsBetween (block : List ℕ) (next end : ℕ) : Type 0 where
  pub order : next ≤ end
  pub fits : 4 * end ≤ length block

-- from index `next` on the words of a block are zero up to `end`, where a word stands that isn't
-- zero, or the used ones end
pub record EndsZeros (v : Layout) (block : List ℕ) (next used end : ℕ) : Type 0 where
  pub within : (next ≤ end) × (end ≤ used)
  pub zeros : (k : ℕ) → next ≤ k → k < end → address_in v block k ≡ 0
  pub stops : end < used → 0 < address_in v block end
