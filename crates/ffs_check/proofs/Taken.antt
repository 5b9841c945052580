-- What a check takes of its memory, after an accepted superblock.
use Rattle.std.proofs.Common.{◌≡◌, ◌*◌, ◌+◌, ◌≤◌, arith, inl, inr, sym, subst, ℕ, Bool, true, false, List, Option, Ok, Err}
use Rattle.ffs_image.specs.Device.{Device, ForContents}
use Rattle.ffs_memory.specs.{Account.{Account, unused}, System.account_of, declared.system.SystemMemory.SystemMemory}
use Rattle.ffs_volume.specs.declared.End.{End, TheVariants.{Consistent, Defects, RootStop, WriteFault, NoMemory}}
use Rattle.ffs_volume.specs.{Disk.{Outcome.outcome, Superblock.Superblock}, Report.{Whole.end_by, Memory.held_of}}
use Rattle.ffs_layout.specs.{declared.superblock.Super.Super, Super.{ReadsSuper, superblock_in}}
use Rattle.ffs_check.specs.{Moment.Moment, Opening.OpeningOf, AllPhases.EndsAfterPhases}
use Rattle.ffs_check.specs.{Costs.{Costs, CostsOfSystem, CostsOfVolume}, Reads.ReadsByMessages, Taken.AsksMemory}
use Rattle.ffs_check.proofs.AnyReading.{opened_reads}
use Rattle.ffs_volume.specs.Report.{Opening.opening_lines, Reads.{opening_reads, phase_reads}}

accepted_by : (image image' : Device) (sector : Option ℕ) (s : Superblock) → ReadsSuper image image' sector (Ok s) →
    ForContents image.contents (λ bytes. outcome bytes sector ≡ Ok s)
accepted_by image image' sector s (inl failed) = absurd failed.0.0
accepted_by image image' sector s (inr read) = λ bytes t. sym (read.1 bytes t)

-- what a check costs after an accepted superblock, whose opening was said
pub costs_of : (name : List ℕ) (sector : Option ℕ) (old on new : Moment) (found : Super) (held held' : Account) →
    OpeningOf name sector old on (Ok found) →
    found.geometry.layout.size * found.geometry.layout.fsize ≤ old.image.size →
    AsksMemory held held' (held_of found.geometry.layout) → on.reads ≤ old.reads + opening_reads sector →
    ReadsByMessages (phase_reads found.geometry.layout) on new → CostsOfVolume sector old new held held'
costs_of name sector old on new found held held' o inside a opened phases = record {
  memory = record {
    found = superblock_in found;
    accepted = accepted_by old.image on.image sector (superblock_in found)
        (subst (ReadsSuper old.image on.image sector) o.ends.1 o.super_is_read);
    sound = found.geometry.sound;
    inside = inside;
    asked = a;
    within = omega arith;
  };
  reads = opened_reads sector found.geometry.layout old on new (opening_lines name sector o.found) o.ends.0 opened phases;
}

not_by : (on defect : Bool) → end_by on defect ≡ NoMemory → ⊥
not_by true true e = (let w : Defects ≡ NoMemory = e in cc)
not_by true false e = (let w : Consistent ≡ NoMemory = e in cc)
not_by false defect e = (let w : RootStop ≡ NoMemory = e in cc)

not_broken : WriteFault ≡ NoMemory → ⊥
not_broken e = (let w : WriteFault ≡ NoMemory = e in cc)

-- phases that have run don't end as `NoMemory`
pub not_for_memory : (knows : List ℕ → Type 0) (s : Superblock) (old new : Moment) (end : End) →
    EndsAfterPhases knows s old new end → end ≡ NoMemory → ⊥
not_for_memory knows s old new end ran e = grind (arith, not_by, not_broken)

-- nor does an opening
pub opened_for_memory : (name : List ℕ) (sector : Option ℕ) (old new : Moment) (end : End) →
    OpeningOf name sector old new (Err end) → end ≡ NoMemory → ⊥
opened_for_memory name sector old new end o e = grind (arith, not_broken)

-- a check over the memory of the system, which was new
pub of_system : (sector : Option ℕ) (old new : Moment) (end : End) (memory memory' : SystemMemory) →
    account_of memory ≡ unused → Costs sector old new (account_of memory) (account_of memory') end →
    CostsOfSystem sector old new end
of_system sector old new end memory memory' begun costs =
    record { memory = memory; memory' = memory'; begun = begun; costs = costs }
