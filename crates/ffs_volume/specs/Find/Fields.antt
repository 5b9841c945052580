-- What `fields` prints: fields of the superblock that a check doesn't look at and that a kernel
-- computes with, where they aren't what the layout gives.
use Rattle.std.specs.Prelude.{ℕ, ◌+◌, ◌-◌, ◌*◌, ◌/◌, ◌^◌, Bool, List, [], ◌∷◌, ◌++◌, codes, decimal, if◌then◌else◌, ℤ, pos, unwrap_or, Option, nat_lt}
use Rattle.std.specs.{Ordering.int_eq, List.{concat, flat_map, slice_index_or}, Fmt.signed_decimal, Int.{div_ceil, cast_signed, w64}}
use Rattle.ffs_volume.specs.declared.{constants.TheConstants.{DEV_BSIZE}, Layout.Layout, Order.Order}
use Rattle.ffs_volume.specs.Disk.{Numbers.{u32_at, u64_at}, Search.first_below, Superblock.Superblock}
use Rattle.ffs_volume.specs.Disk.Outcome.{super_sector, super_bytes}

-- a field: its name, where it begins in the superblock, in bytes, what it has, and what it should have
pub record Field : Type 0 where
  pub name : List ℕ
  pub place : ℕ
  pub has : ℤ
  pub wants : ℤ

-- the k for which 2^k is n, where n is a power of two: the least k for which n is below 2^(k + 1)
unfoldable pub exponent_of : ℕ → ℕ
exponent_of n = unwrap_or (first_below (λ k. nat_lt n (2 ^ (k + 1))) 32) 0

-- a field of 32 bits, unsigned
abbrev pub field_32 : (order : Order) (bytes : List ℕ) (name : List ℕ) (place wants : ℕ) → Field
field_32 order bytes name place wants =
    record { name = name; place = place; has = pos (u32_at order place bytes); wants = pos wants }

-- a total of 64 bits, signed, which should be one of the four totals of 32 bits
abbrev pub total_64 : (order : Order) (bytes : List ℕ) (name : List ℕ) (place : ℕ) (wants : ℤ) → Field
total_64 order bytes name place wants =
    record { name = name; place = place; has = cast_signed w64 (u64_at order place bytes); wants = wants }

-- the bits above those of a size that is a power of two, in 32 bits
abbrev pub mask_of : ℕ → ℕ
mask_of n = 4294967296 - n

-- the fields that follow from the layout: the size of a superblock should be one of whole fragments
abbrev pub layout_fields : (v : Layout) (bytes : List ℕ) → List Field
layout_fields v bytes =
    field_32 v.order bytes (codes "bmask") 72 (mask_of v.bsize)
    ∷ field_32 v.order bytes (codes "fmask") 76 (mask_of v.fsize)
    ∷ field_32 v.order bytes (codes "bshift") 80 (exponent_of v.bsize)
    ∷ field_32 v.order bytes (codes "fshift") 84 (exponent_of v.fsize)
    ∷ field_32 v.order bytes (codes "fragshift") 96 (exponent_of v.frag)
    ∷ field_32 v.order bytes (codes "fsbtodb") 100 (exponent_of (v.fsize / DEV_BSIZE))
    ∷ field_32 v.order bytes (codes "sbsize") 104 (div_ceil v.sbsize v.fsize * v.fsize)
    ∷ field_32 v.order bytes (codes "nspf") 124 (v.fsize / DEV_BSIZE)
    ∷ []

-- the totals of 64 bits, which should be those of 32 bits
abbrev pub total_fields : (s : Superblock) (bytes : List ℕ) → List Field
total_fields s bytes =
    total_64 s.layout.order bytes (codes "cs_ndir") 1008 (slice_index_or s.cstotal 0 (pos 0))
    ∷ total_64 s.layout.order bytes (codes "cs_nbfree") 1016 (slice_index_or s.cstotal 1 (pos 0))
    ∷ total_64 s.layout.order bytes (codes "cs_nifree") 1024 (slice_index_or s.cstotal 2 (pos 0))
    ∷ total_64 s.layout.order bytes (codes "cs_nffree") 1032 (slice_index_or s.cstotal 3 (pos 0))
    ∷ []

-- a field has what it should have
abbrev pub has_what_it_wants : Field → Bool
has_what_it_wants f = int_eq f.has f.wants

-- the line of a field of a superblock that begins at a byte of the image: the byte where the field
-- begins, what it has, and what it wants
abbrev pub field_text : (start : ℕ) → Field → List ℕ
field_text start f = concat (
    f.name ∷ codes " byte " ∷ (decimal (start + f.place) ++ codes " has ") ∷ (signed_decimal f.has ++ codes " wants ")
    ∷ (signed_decimal f.wants ++ codes "\n") ∷ [])

-- the line of a field, where it is wrong
abbrev pub field_lines : (start : ℕ) → Field → List (List ℕ)
field_lines start f = if has_what_it_wants f then [] else field_text start f ∷ []

-- the lines of an image with this superblock, which is read at a sector, or at the usual place
unfoldable pub wrong_fields : (s : Superblock) (image : List ℕ) (sector : Option ℕ) → List (List ℕ)
wrong_fields s image sector =
    flat_map (field_lines (super_sector sector * DEV_BSIZE))
    (layout_fields s.layout (super_bytes image sector) ++ total_fields s (super_bytes image sector))
