-- No name of a volume's entries has a `/`.
use Rattle.std.proofs.Common.{◌≡◌, ℕ, zero, suc, ◌+◌, ◌*◌, ◌==◌, Bool, true, false, if◌then◌else◌, List, [], ◌∷◌, ◌++◌}
use Rattle.std.proofs.Common.{map, Option, Some, None, refl, arith, option_and_then, ◌/◌, ◌-◌, min}
use Rattle.std.specs.List.{AllByRecursion, flat_map, range_with_len}
use Rattle.ffs_volume.specs.declared.{Layout.Layout, Order.Order, Step.{Step, TheVariants.{Run, Tail, Gap}}}
use Rattle.ffs_volume.specs.{Disk.{Areas.is_run_in_range, Numbers.piece}, Directories.Entries.{Chunk, ChunkSource}}
use Rattle.ffs_volume.specs.Directories.Entries.{chunk_of, chunks_of, entries_from, entries_with, entry_at, entry_read}
use Rattle.ffs_volume.specs.Directories.{Entries.{is_well_formed, step_chunks}, Graph.{parent, parent_entry_index}}
use Rattle.ffs_volume.specs.Directories.{Naming.{graph_of, nth_roled}, Paths.{names_down, names_by_parent, name_of}}
use Rattle.ffs_volume.specs.Directories.{Roles.{RoledEntry, roled_chunk, roled_from, roled_entries}, Volumes.volume_of}
use Rattle.ffs_volume.specs.Directories.Volumes.{volume_with, chunk_source_of, kept_steps_of_inode}
use Rattle.ffs_paths.specs.Slashes.{HaveNoSlash, has_slash}

-- ---- the name of a well formed entry
there_single : (order : Order) (chunk : List ℕ) (place : ℕ) → is_well_formed order chunk place ≡ true →
    has_slash (entry_read order chunk place).name ≡ false
unfolding is_well_formed entry_read
there_single order chunk place h = grind (arith, h)

-- ---- those of the entries of a chunk, of chunks, and of a directory
abbrev AreSingleEntries : List RoledEntry → Type 0
AreSingleEntries es = AllByRecursion (λ e. has_slash e.entry.name ≡ false) es

abbrev AreSingleChunks : List Chunk → Type 0
AreSingleChunks cs = AllByRecursion (λ c. AreSingleEntries (roled_chunk c)) cs

append_each : {X : Type 0} (P : X → Type 0) (xs ys : List X) → AllByRecursion P xs → AllByRecursion P ys →
    AllByRecursion P (xs ++ ys)
append_each P [] ys h k = k
append_each P (x ∷ xs) ys h k = (h.0, append_each P xs ys h.1 k)

entries_single : (order : Order) (chunk : List ℕ) (first : Bool) (index most place : ℕ) →
    AreSingleEntries (roled_from first index (entries_from order chunk most place))
unfolding entries_from entry_at roled_from
entries_single order chunk first index zero place = tt
entries_single order chunk first index (suc most) place = elim (is_well_formed order chunk place) as (λ b.
    is_well_formed order chunk place ≡ b → AreSingleEntries (roled_from first index (entries_with order chunk place
    (entries_from order chunk most) (if b then Some (entry_read order chunk place) else None)))) [
      | true ↦ λ h. (there_single order chunk place h, entries_single order chunk first (suc index) most _)
      | false ↦ λ h. tt
    ] refl

mapped_single : (order : Order) (offset : ℕ → ℕ) (bytes : ℕ → List ℕ) (ks : List ℕ) →
    AreSingleChunks (map (λ k. chunk_of order (offset k) (bytes k)) ks)
mapped_single order offset bytes [] = tt
mapped_single order offset bytes (k ∷ ks) =
    (entries_single order (bytes k) (offset k == 0) 0 64 0, mapped_single order offset bytes ks)

step_single : (r : ChunkSource) (passes : ℕ → ℕ → Bool) (step : Step) → AreSingleChunks (step_chunks r passes step)
step_single r passes (Run start len (Some block)) = elim (passes start len) as (λ b. AreSingleChunks (if b then map
    (λ k. chunk_of r.order (block * r.bsize + 512 * k) (piece (start * r.fsize + 512 * k) 512 r.image))
    (range_with_len 0 (min (len * r.fsize / 512) ((r.read_bytes - block * r.bsize) / 512))) else [])) [
      | true ↦ mapped_single r.order _ _ _
      | false ↦ tt
    ]
step_single r passes (Run start len None) = tt
step_single r passes Tail = tt
step_single r passes Gap = tt

steps_single : (r : ChunkSource) (passes : ℕ → ℕ → Bool) (steps : List Step) → AreSingleChunks (chunks_of r passes steps)
steps_single r passes [] = tt
steps_single r passes (s ∷ ss) = append_each (λ c. AreSingleEntries (roled_chunk c)) (step_chunks r passes s)
    (chunks_of r passes ss) (step_single r passes s) (steps_single r passes ss)

chunks_single : (cs : List Chunk) → AreSingleChunks cs → AreSingleEntries (flat_map roled_chunk cs)
chunks_single [] h = tt
chunks_single (c ∷ cs) h = append_each (λ e. has_slash e.entry.name ≡ false) (roled_chunk c) (flat_map roled_chunk cs)
    h.0 (chunks_single cs h.1)

in_single : (v : Layout) (b : List ℕ) (d : ℕ) → AreSingleEntries (roled_entries (volume_of v b) d)
unfolding roled_entries volume_of volume_with
in_single v b d = chunks_single _ (steps_single (chunk_source_of v b d) (is_run_in_range v) (kept_steps_of_inode v b d))

-- ---- those of a path
place_single : (es : List RoledEntry) → AreSingleEntries es → (o : Option ℕ) →
    has_slash (name_of (option_and_then (nth_roled es) o)) ≡ false
place_single es h None = refl
place_single [] h (Some i) = refl
place_single (e ∷ es) h (Some zero) = h.0
place_single (e ∷ es) h (Some (suc i)) = place_single es h.1 (Some i)

pub down_single : (v : Layout) (b : List ℕ) (k d : ℕ) → HaveNoSlash (names_down (graph_of (volume_of v b)) k d)
unfolding names_down
down_single v b zero d = tt
down_single v b (suc k) d = elim (parent (graph_of (volume_of v b)) d) as (λ o. HaveNoSlash
    (names_by_parent (graph_of (volume_of v b)) (names_down (graph_of (volume_of v b)) k) d o)) [
      | None ↦ tt
      | Some s ↦ append_each (λ name. has_slash name ≡ false) (names_down (graph_of (volume_of v b)) k s) _
          (down_single v b k s) (
            place_single (roled_entries (volume_of v b) s) (in_single v b s)
                (parent_entry_index (graph_of (volume_of v b)) d),
            tt,
          )
    ]
