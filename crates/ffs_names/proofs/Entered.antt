-- How a reading of a directory continues.
use Rattle.std.proofs.Common.{◌≡◌, ℕ, ◌+◌, ◌==◌, Bool, false, List, [], ◌∷◌, ◌++◌, Option, Some, None, is_some, length}
use Rattle.std.proofs.Common.{arith, flat_map, refl}
use Rattle.ffs_volume.{proofs.{Longest.entry-length, Reading.{entries_next, entries_end}}, specs.declared.Order.Order}
use Rattle.ffs_volume.specs.{declared.Role.Role, Directories.Entries.{Entry, Chunk, chunk_of, entry_at, entries_from}}
use Rattle.ffs_volume.specs.{Directories.Roles.{role_of, roled_from, roled_chunk}, Disk.Numbers.piece}

-- no entry in the current chunk
none_seen : (first : Bool) (index : ℕ) (order : Order) (chunk : List ℕ) (place : ℕ) (rest : List Chunk) →
    entry_at order chunk place ≡ None →
    roled_from first index (entries_from order chunk 64 place) ++ flat_map roled_chunk rest ≡ flat_map roled_chunk rest
unfolding roled_from
none_seen first index order chunk place rest h = rw (entries_end order chunk place h) refl

-- no entry is at the end of a chunk
pub end_of_chunk : (order : Order) (chunk : List ℕ) → entry_at order chunk 512 ≡ None
end_of_chunk order chunk = grind (arith, entry-length)

pub end_seen : (first : Bool) (index : ℕ) (order : Order) (chunk : List ℕ) (rest : List Chunk)
    → roled_from first index (entries_from order chunk 64 512) ++ flat_map roled_chunk rest ≡ flat_map roled_chunk rest
end_seen first index order chunk rest = none_seen first index order chunk 512 rest (end_of_chunk order chunk)

pub none_from : (o : Option Entry) → is_some o ≡ false → o ≡ None
none_from None h = refl
none_from (Some e) h = absurd (cc)

-- an entry of the current chunk, by what a reader keeps of it
pub take_reported : (first : Bool) (index : ℕ) (order : Order) (chunk : List ℕ) (place : ℕ) (e : Entry) (role : Role)
    (rest : List Chunk) → entry_at order chunk place ≡ Some e
    → role ≡ role_of first index e → e.name ≡ piece (place + 8) (length e.name) chunk
    → roled_from first index (entries_from order chunk 64 place) ++ flat_map roled_chunk rest
    ≡ record {
      role = role;
      entry = record
          { number = e.number; length = e.length; kind = e.kind; name = piece (place + 8) (length e.name) chunk };
    }
    ∷ (roled_from first (index + 1) (entries_from order chunk 64 (place + e.length)) ++ flat_map roled_chunk rest)
unfolding roled_from
take_reported first index order chunk place e role rest h r n = grind (arith, entries_next)

-- a chunk came
pub chunk_came : (first : Bool) (index : ℕ) (order other : Order) (chunk : List ℕ) (place : ℕ) (old : List Chunk)
    (offset : ℕ) (next : List ℕ) (rest : List Chunk) → is_some (entry_at order chunk place) ≡ false → other ≡ order →
    old ≡ chunk_of other offset next ∷ rest → roled_from (offset == 0) 0 (entries_from order next 64 0) ++ flat_map
    roled_chunk rest ≡ roled_from first index (entries_from order chunk 64 place) ++ flat_map roled_chunk old
chunk_came first index order other chunk place old offset next rest h q r = grind (arith, none_seen, none_from)

-- none came
pub none_came : (first : Bool) (index : ℕ) (order : Order) (chunk : List ℕ) (place : ℕ) (old : List Chunk) →
    is_some (entry_at order chunk place) ≡ false → old ≡ []
    → roled_from first index (entries_from order chunk 64 place) ++ flat_map roled_chunk old ≡ []
none_came first index order chunk place old h r = grind (arith, none_seen, none_from)
