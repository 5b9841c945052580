-- An entry of a directory in memory, as the definitions see it.
use Rattle.std.specs.Prelude.{◌≡◌, ℕ, ◌+◌, ◌≤◌, List, length, Bool, ◌==◌, ◌||◌, Option, Some, IfSome, option_map}
use Rattle.std.specs.List.{list_any}
use Rattle.ffs_volume.specs.{Disk.Numbers.piece, Directories.Entries.{Entry as EntryIn, entry_at}, declared.Order.Order}
use Rattle.ffs_volume.specs.declared.constants.TheConstants.{DIRBLKSIZ, DIRENT_HEADER}
use Rattle.ffs_layout.specs.declared.entry.Entry.{Entry}

-- an entry in memory as an entry of the definitions
abbrev pub entry_value : Entry → EntryIn
entry_value e = record { number = e.number; length = e.length; kind = e.kind; name = e.name.now }

-- one of the bytes is NUL or `/`
abbrev pub any_nul_or_slash : List ℕ → Bool
any_nul_or_slash bytes = list_any (λ b. b == 0) bytes || list_any (λ b. b == 47) bytes

-- the answer at a place of a chunk is the entry there, or that none is there; its record and its
-- name lie in the chunk
pub record IsEntryAt (order : Order) (chunk : List ℕ) (place : ℕ) (result : Option Entry) : Type 0 where
  pub value : option_map entry_value result ≡ entry_at order chunk place
  pub some : IfSome result (λ e. entry_at order chunk place ≡ Some (entry_value e))
  pub room : IfSome result (λ e. (DIRENT_HEADER ≤ e.length) × (place + e.length ≤ DIRBLKSIZ))
  pub name : IfSome result (λ e. (e.name.now ≡ piece (place + DIRENT_HEADER) (length e.name.now) chunk)
      × (place + DIRENT_HEADER + length e.name.now ≤ DIRBLKSIZ))
