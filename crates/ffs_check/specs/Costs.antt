-- What a check costs, of any memory and any image, also one that gives other bytes each time: what it takes, and
-- how often it reads.
use Rattle.std.specs.Prelude.{◌≡◌, ◌⊎◌, ◌≤◌, ◌+◌, ℕ, false, Option, Err}
use Rattle.ffs_memory.specs.{Account.{Account, RefusedOneMore, unused}, System.account_of}
use Rattle.ffs_memory.specs.declared.system.SystemMemory.{SystemMemory}
use Rattle.ffs_volume.specs.declared.{SuperFault.SuperFault, End.{End, TheVariants.{NoMemory, Refused}}}
use Rattle.ffs_volume.specs.Report.Reads.{opening_reads, reads_limit}
use Rattle.ffs_layout.specs.Super.{may_read_copy}
use Rattle.ffs_check.specs.{Moment.Moment, Reads.ReadsByMessages, Taken.TakesWorkspace}

-- a volume is accepted: its workspace is taken, and the image is read within `reads_limit` of the same volume for
-- the messages that went out (`ReadsByMessages` says of which images and outputs that says something)
pub record CostsOfVolume (asked_sector : Option ℕ) (old new : Moment) (before after : Account) : Type 0 where
  pub memory : TakesWorkspace old.image asked_sector before after
  pub reads : ReadsByMessages (reads_limit asked_sector memory.found.layout) old new

-- nothing is taken, and the superblock and a copy alone are read; or a volume is accepted. A check ends as
-- `NoMemory` only where a request was refused; and a superblock that is refused for its own fields is read once
pub record Costs (asked_sector : Option ℕ) (old new : Moment) (before after : Account) (end : End) : Type 0 where
  pub most : ((after ≡ before) × (new.reads ≤ old.reads + opening_reads asked_sector))
      ⊎ CostsOfVolume asked_sector old new before after
  pub refused : end ≡ NoMemory → RefusedOneMore before after
  pub once : (fault : SuperFault) → end ≡ Refused fault → may_read_copy (Err fault) ≡ false → new.reads ≤ old.reads + 1

-- a memory of the system was asked for what `Costs` says: `memory`, of which nothing was granted or refused before,
-- and `memory'`, what the call left of it. `account_of` is hidden (`allocator_account` of ffs_memory), so what is
-- granted or refused follows from requests that were made, and from nothing else. That the body asks for nothing
-- beside is seen in its one line
pub record CostsOfSystem (asked_sector : Option ℕ) (old new : Moment) (end : End) : Type 0 where
  pub memory : SystemMemory
  pub memory' : SystemMemory
  pub begun : account_of memory ≡ unused
  pub costs : Costs asked_sector old new (account_of memory) (account_of memory') end
