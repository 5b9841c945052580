-- What `lost` prints: the fragments of which the maps of the groups say otherwise than what is used.
use Rattle.std.specs.Prelude.{ℕ, ◌+◌, ◌-◌, ◌==◌, ◌&&◌, ◌||◌, Bool, not, List, [], ◌∷◌, ◌++◌, codes, decimal, if◌then◌else◌}
use Rattle.std.specs.List.{concat, flat_map, prefix_len, range_with_len}
use Rattle.ffs_volume.specs.{declared.Layout.Layout, Disk.Areas.cgbase, Messages.Texts.number_text}
use Rattle.ffs_volume.specs.{Blocks.Owners.owners_of, Groups.GroupCheck.is_free_of_kept}
use Rattle.ffs_volume.specs.Groups.Records.{bit_at, fragment_map_place, group_block, group_numbers, group_size, has_right_magic, maps_fit}

-- the line of the fragments from one to another one, after a word
abbrev pub range_text : (word : List ℕ) (first last : ℕ) → List ℕ
range_text word first last =
    if first == last then number_text word first (codes "\n")
    else concat (word ∷ (decimal first ++ codes " to ") ∷ (decimal last ++ codes "\n") ∷ [])

-- how many fragments from f on and below `end` pass, one after the other
abbrev pub stretch_length : (p : ℕ → Bool) (end f : ℕ) → ℕ
stretch_length p end f = prefix_len p (range_with_len f (end - f))

-- f begins a stretch of fragments that pass, of those from `base` on: it passes, and is the first one or
-- comes after one that doesn't
abbrev pub begins_stretch : (p : ℕ → Bool) (base f : ℕ) → Bool
begins_stretch p base f = p f && (f == base || not (p (f - 1)))

-- the line of the stretch that begins at f, if one does
abbrev pub stretch_at : (word : List ℕ) (p : ℕ → Bool) (base end f : ℕ) → List (List ℕ)
stretch_at word p base end f =
    if begins_stretch p base f then range_text word f (f + stretch_length p end f - 1) ∷ [] else []

-- a line for each stretch of fragments that pass, of those from `base` on and below `end`, ascending
unfoldable pub stretch_lines : (word : List ℕ) (p : ℕ → Bool) (base end : ℕ) → List (List ℕ)
stretch_lines word p base end = flat_map (stretch_at word p base end) (range_with_len base (end - base))

-- a group has a map: its block has its magic number, and the maps end within it
unfoldable pub has_map : Layout → (block : List ℕ) → Bool
has_map v block = has_right_magic v block && maps_fit v block

-- the map in the block of group c marks f as free
abbrev pub is_marked_free : (v : Layout) (block : List ℕ) (c f : ℕ) → Bool
is_marked_free v block c f = bit_at block (fragment_map_place v block) (f - cgbase v c)

-- f is lost: it is free, as `free` says, but the map of group c marks it as used
abbrev pub is_lost_fragment : (v : Layout) (free : ℕ → Bool) (block : List ℕ) (c f : ℕ) → Bool
is_lost_fragment v free block c f = free f && not (is_marked_free v block c f)

-- f is marked as free, but isn't free
abbrev pub is_wrongly_free : (v : Layout) (free : ℕ → Bool) (block : List ℕ) (c f : ℕ) → Bool
is_wrongly_free v free block c f = is_marked_free v block c f && not (free f)

-- the lines of the lost fragments of group c; a group that has no map has a line that says so
abbrev pub lost_of_group : (v : Layout) (free : ℕ → Bool) (c : ℕ) (block : List ℕ) → List (List ℕ)
lost_of_group v free c block =
    if has_map v block
    then stretch_lines (codes "lost ") (is_lost_fragment v free block c) (cgbase v c) (cgbase v c + group_size v c)
    else number_text (codes "no map in group ") c (codes "\n") ∷ []

-- the lines of its fragments that are wrongly marked as free
abbrev pub wrongly_free_of_group : (v : Layout) (free : ℕ → Bool) (c : ℕ) (block : List ℕ) → List (List ℕ)
wrongly_free_of_group v free c block =
    if has_map v block
    then stretch_lines (codes "used and marked free ") (is_wrongly_free v free block c) (cgbase v c)
    (cgbase v c + group_size v c)
    else []

-- the lines of an image: of all groups the lost fragments, and then those that are wrongly marked as free.
-- A fragment is free where it is neither reserved nor claimed by a kept offer
unfoldable pub lost_lines : (v : Layout) (image : List ℕ) → List (List ℕ)
lost_lines v image =
    flat_map (λ c. lost_of_group v (is_free_of_kept v (owners_of v image)) c (group_block v image c)) (group_numbers v)
    ++ flat_map (λ c. wrongly_free_of_group v (is_free_of_kept v (owners_of v image)) c (group_block v image c))
    (group_numbers v)
