-- How a reading of chunks continues, and that its windows can be read into from read to read.
use Rattle.std.proofs.Common.{◌≡◌, ◌≤◌, ◌∙◌, ℕ, List, Result, Ok, Err, ap, arith, refl}
use Rattle.ffs_image.specs.{Device.Device, Reads.ReadAfter, declared.image.ImageFault.ImageFault}
use Rattle.ffs_volume.specs.declared.Step.{Step}
use Rattle.ffs_layout.specs.declared.geometry.Geometry.{Geometry}
use Rattle.ffs_walk.specs.{Windows.{CanWalk, KeepsBlocks}, declared.{blocks.Blocks.Blocks, window.Window.Window}}
use Rattle.ffs_names.specs.{declared.chunks.Chunks.Chunks, Windows.{CanWalkDir, CanReadChunks}, Readings.Continues}
use Rattle.ffs_names.specs.Readings.{CountsOn, IsSame}

pub no_more : (n : ℕ) → n ≤ n
no_more n = omega arith

pub counts_here : (n : ℕ) → CountsOn n n
counts_here n = record { most = omega arith; all = λ h. refl }

pub counts_more : {n m k : ℕ} → CountsOn n m → CountsOn m k → CountsOn n k
counts_more h l = grind arith

pub continues_more : {b : List ℕ} {c c' c'' : Chunks} {steps steps' steps'' : List Step} →
    Continues b c steps c' steps' → Continues b c' steps' c'' steps'' → Continues b c steps c'' steps''
continues_more h k = grind (arith, counts_more)

pub same_here : (c : Chunks) → IsSame c c
same_here c = record { geometry = refl; cut = refl; bytes_to_read = refl; chunks_left = refl; runs = omega arith }

pub same_more : {c c' c'' : Chunks} → IsSame c' c'' → IsSame c c' → IsSame c c''
same_more k h = grind arith

-- what a walk needs of its blocks, and what it leaves of them
pub can_walk : {g g' : Geometry} {d : Device} {blocks : Blocks} → g' ≡ g → CanWalkDir g.layout d blocks →
    CanWalk g'.layout d blocks
can_walk e h = grind arith

pub walk_on : {g g' : Geometry} {d d' : Device} {blocks blocks' : Blocks} → g' ≡ g → d'.size ≡ d.size →
    KeepsBlocks g'.layout d'.contents blocks blocks' → CanWalkDir g.layout d blocks → CanWalkDir g.layout d' blocks'
walk_on e s kept h = record { volume = rw s h.volume; room = kept.size ∙ h.room; holds = rw e at kept.holds }

-- windows that can be read into, by an equal geometry
pub can_read : (g g' : Geometry) (d : Device) (blocks : Blocks) (chunk : Window)
    → CanReadChunks g.layout d blocks chunk → g' ≡ g → CanReadChunks g'.layout d blocks chunk
can_read g g' d blocks chunk h e = rw e h

-- a read, failed or not, changes no byte of the image
pub contents_kept : {T : Type 0} (d d' : Device) (result : Result T ImageFault) → ReadAfter d d' result
    → d'.contents ≡ d.contents
contents_kept d d' (Ok x) read = ap (λ x. x.contents) read
contents_kept d d' (Err fault) read = read.contents
