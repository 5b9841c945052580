-- The entries of a chunk, one after another.
use Rattle.std.proofs.Common.{◌≡◌, ℕ, Bool, [], ◌∷◌, None, add-one, refl}
use Rattle.ffs_volume.{proofs.Reading.{entries_end, entries_next}, specs.declared.Role.Role}
use Rattle.ffs_volume.specs.Directories.{Entries.entry_at, Roles.{role_of, roled_from}}
use Rattle.ffs_layout.specs.{Entry.entry_value, declared.entry.Entry.Entry as CodeEntry}
use Rattle.ffs_names.{proofs.Shaped.{fills_from, fills_next}, specs.EntriesToCome.{entries_to_come, roled_to_come}}
use Rattle.ffs_names.specs.{EntriesToCome.GivesWithIndex, declared.chunk_entries.ChunkEntries.ChunkEntries}

pub left_on : {old new : ChunkEntries} {given : ℕ × CodeEntry} → GivesWithIndex old given new →
    entries_to_come old ≡ entry_value given.1 ∷ entries_to_come new
left_on {old = old} {given = given} h =
    rw (entries_next old.order old.chunk.now old.place (entry_value given.1) h.there.some, h.same.0, h.same.1, h.place)
    refl

pub roled_on : (first : Bool) (role : Role) {old new : ChunkEntries} {given : ℕ × CodeEntry} →
    GivesWithIndex old given new → role ≡ role_of first given.0 (entry_value given.1) →
    roled_to_come first old ≡ record { role = role; entry = entry_value given.1 } ∷ roled_to_come first new
unfolding roled_from
roled_on first role h is = rw (left_on h, is, h.index_is, h.index, add-one) refl

pub fills_on : {old new : ChunkEntries} {given : ℕ × CodeEntry} → GivesWithIndex old given new →
    fills_from new.order new.chunk.now new.place ≡ fills_from old.order old.chunk.now old.place
fills_on {old = old} h = rw (h.same.0, h.same.1, h.place) (fills_next old.order old.chunk.now old.place _ h.there.some)

-- no entry is left
pub roled_end : (first : Bool) (es : ChunkEntries) → entry_at es.order es.chunk.now es.place ≡ None →
    roled_to_come first es ≡ []
unfolding roled_from
roled_end first es none = rw (entries_end es.order es.chunk.now es.place none) refl
