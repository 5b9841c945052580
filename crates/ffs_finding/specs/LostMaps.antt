-- The map of a group as the program compares it with what is used, and what it prints of it.
use Rattle.std.specs.Prelude.{◌≡◌, ◌⊎◌, ◌≤◌, ◌<◌, ◌+◌, ◌-◌, ◌/◌, ◌++◌, ℕ, Bool, not, ◌&&◌, List, [], ◌∷◌, codes, length}
use Rattle.std.specs.{Prelude.{vec_len, Result}, List.{flat_map, range_with_len}, Int.div_ceil}
use Rattle.ffs_image.specs.{Device.Device, Known.IsContents}
use Rattle.ffs_volume.specs.{declared.Layout.Layout, Groups.Records.{bit_at, group_block, group_numbers}}
use Rattle.ffs_volume.specs.{Messages.Texts.number_text, Find.Lost.{lost_lines, lost_of_group, wrongly_free_of_group}}
use Rattle.ffs_volume.specs.{Disk.Areas.{FitsIn, group_place}, declared.constants.TheConstants.DEV_BSIZE}
use Rattle.ffs_volume.specs.{Blocks.Owners.owners_of, Groups.GroupCheck.is_free_of_kept}
use Rattle.ffs_maps.specs.Bits.{bits_of}
use Rattle.ffs_groups.specs.Free.{free_in}
use Rattle.ffs_report.specs.{Fails.FailsIn, Sink.Sink, declared.fault.RunFault.RunFault}
use Rattle.ffs_walk.specs.{Windows.WindowHolds, declared.window.Window.Window}
use Rattle.ffs_check.specs.Moment.{Moment}
use Rattle.ffs_finding.specs.{Outcome.{FindsAny, PrintedOf}, declared.lost.{ComparedMap.ComparedMap, Wrong.Wrong}}
use Rattle.ffs_finding.specs.declared.lost.Wrong.TheVariants.{Lost, MarkedFree}

-- the word before the fragments about which a map is wrong in this way
abbrev pub word_of : Wrong → List ℕ
word_of Lost = codes "lost "
word_of MarkedFree = codes "used and marked free "

-- a map is wrong about a fragment in this way, by whether that is free, and is marked as free
abbrev pub is_wrong_by : Wrong → (free marked : Bool) → Bool
is_wrong_by Lost free marked = free && not marked
is_wrong_by MarkedFree free marked = marked && not free

-- a map is wrong about f in this way
abbrev pub is_wrong_at : Wrong → ComparedMap → ℕ → Bool
is_wrong_at how m f =
    is_wrong_by how (free_in (bits_of m.used.now) m.used.now.size f) (bit_at m.block.now m.place (f - m.base))

-- the map is of fragments of the volume, and lies in its block
pub record IsComparedMap (m : ComparedMap) : Type 0 where
  pub order : m.base ≤ m.end
  pub below : m.end ≤ m.used.now.size
  pub inside : m.place + div_ceil (m.end - m.base) 8 ≤ length m.block.now

-- f is a fragment of the map
pub record IsInMap (m : ComparedMap) (f : ℕ) : Type 0 where
  pub map : IsComparedMap m
  pub low : m.base ≤ f
  pub high : f < m.end

-- f is a fragment of the map, or the one after its last
pub record IsInMapOrEnd (m : ComparedMap) (f : ℕ) : Type 0 where
  pub map : IsComparedMap m
  pub low : m.base ≤ f
  pub high : f ≤ m.end

-- the first number from one on and below `end` at which a test gives this answer, or `end`
pub record IsNext (p : ℕ → Bool) (answer : Bool) (from end found : ℕ) : Type 0 where
  pub order : from ≤ found
  pub within : found ≤ end
  pub others : (f : ℕ) → from ≤ f → f < found → p f ≡ not answer
  pub at : found < end → p found ≡ answer

-- the lines of a group that has no map
abbrev pub no_map_lines : Wrong → ℕ → List (List ℕ)
no_map_lines Lost c = number_text (codes "no map in group ") c (codes "\n") ∷ []
no_map_lines MarkedFree c = []

-- the lines of the fragments about which the map of group c is wrong in this way
abbrev pub lines_of_group : Wrong → (v : Layout) (free : ℕ → Bool) (c : ℕ) (block : List ℕ) → List (List ℕ)
lines_of_group Lost v free c block = lost_of_group v free c block
lines_of_group MarkedFree v free c block = wrongly_free_of_group v free c block

-- the lines of all groups
abbrev pub lines_of_groups : Wrong → (v : Layout) (free : ℕ → Bool) (image : List ℕ) → List (List ℕ)
lines_of_groups how v free image =
    flat_map (λ c. lines_of_group how v free c (group_block v image c)) (group_numbers v)

-- the lines of the groups from c on
abbrev pub from_group : Wrong → (v : Layout) (free : ℕ → Bool) (c : ℕ) (image : List ℕ) → List (List ℕ)
from_group how v free c image =
    flat_map (λ g. lines_of_group how v free g (group_block v image g)) (range_with_len c (v.ncg - c))

-- a block is that of group c, whose map can be compared with a map of the volume
pub record CanSayGroup (v : Layout) (mapped c : ℕ) (block : List ℕ) : Type 0 where
  pub group : c < v.ncg
  pub size : mapped ≡ v.size
  pub length_is : length block ≡ v.cgsize

-- a window has room for a block, and holds what the image gives
pub record IsBlockWindow (v : Layout) (d : Device) (w : Window) : Type 0 where
  pub room : vec_len w.buffer ≡ v.bsize
  pub holds : WindowHolds d.contents w

-- the groups of a volume can be read into a window, and compared with a map of it
pub record CanReadGroups (v : Layout) (d : Device) (mapped : ℕ) (w : Window) : Type 0 where
  pub volume : FitsIn v d.size
  pub size : mapped ≡ v.size
  pub window : IsBlockWindow v d w

-- a read failed in this sector: it is of the block of a group, before whose lines just so much was printed, and after
-- `begun` reads no more were made than one for each group up to it
pub record FailsBeforeGroup (v : Layout) (IsPrintedBefore : (group : ℕ) → Type 0) (begun made at : ℕ) : Type 0 where
  pub group : ℕ
  pub below : group < v.ncg
  pub failed : at ≡ group_place v group / DEV_BSIZE
  pub printed : IsPrintedBefore group
  pub reads : made ≤ begun + group + 1

-- where the maps of all groups are wrong in this way was printed, with a read of each group block at most
pub record FindsWrong (how : Wrong) (v : Layout) (free : ℕ → Bool) (old new : Moment)
    (result : Result Bool RunFault) : Type 0 where
  pub lines : FindsAny (IsContents old.image.contents) (lines_of_groups how v free) old new result
  pub reads : new.reads ≤ old.reads + v.ncg
  pub failed : FailsIn (FailsBeforeGroup v (λ c. PrintedOf (IsContents old.image.contents) (from_group how v free c)
      (lines_of_groups how v free) old.out new.out) old.reads new.reads) result

-- ---- both passes
-- the fragments that are free: neither reserved nor claimed by a kept offer
abbrev pub is_free_in : Layout → (image : List ℕ) → ℕ → Bool
is_free_in v image = is_free_of_kept v (owners_of v image)

-- the lines from group c on: in the pass over lost fragments its own, with all of the second pass, and in that over
-- used ones that are marked as free
abbrev pub lost_from : Layout → (c : ℕ) → (image : List ℕ) → List (List ℕ)
lost_from v c image =
    from_group Lost v (is_free_in v image) c image ++ lines_of_groups MarkedFree v (is_free_in v image) image

abbrev pub marked_free_from : Layout → (c : ℕ) → (image : List ℕ) → List (List ℕ)
marked_free_from v c image = from_group MarkedFree v (is_free_in v image) c image

-- a read failed in this sector: in the first pass, or in the second, after a read of each group in the first
abbrev pub FailsForLost : (knows : List ℕ → Type 0) → Layout → (begun : ℕ) → (old : Sink) → (new : Moment) → (at : ℕ) →
    Type 0
FailsForLost knows v begun old new at =
    FailsBeforeGroup v (λ c. PrintedOf knows (lost_from v c) (lost_lines v) old new.out) begun new.reads at
    ⊎ FailsBeforeGroup v (λ c. PrintedOf knows (marked_free_from v c) (lost_lines v) old new.out) (begun + v.ncg) new.reads at
