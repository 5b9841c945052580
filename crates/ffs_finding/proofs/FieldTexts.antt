-- The lines of the wrong fields of a superblock, in two parts: those that follow from the layout, and
-- the totals.
use Rattle.std.proofs.Common.{◌≡◌, ◌∙◌, ℕ, ◌+◌, ◌*◌, ◌<◌, List, ◌++◌, map, Option, Some, Ok, sym, ap, arith, refl}
use Rattle.std.{specs.List.flat_map, proofs.lemmas.List.{Concat.flat_map-append, Folds.flat_map-map}}
use Rattle.ffs_image.specs.Device.{Device, IsSized}
use Rattle.ffs_volume.specs.Disk.{Outcome.{outcome, super_bytes, super_sector}, Superblock.Superblock}
use Rattle.ffs_volume.{proofs.OutcomeLaws.outcome_past_end, specs.Find.Fields.{field_lines, layout_fields}}
use Rattle.ffs_volume.specs.Find.Fields.{total_fields, wrong_fields}
use Rattle.ffs_volume.specs.Find.Fields as book
use Rattle.ffs_finding.{specs.{Fields.{field_of, wrong_lines}, declared.fields.Field.Field}}

-- no superblock is accepted that ends after the image
pub too_short : (d : Device) (b : List ℕ) (sector : Option ℕ) (s : Superblock) (start : ℕ) → IsSized d →
    d.contents ≡ Some b → start ≡ super_sector sector → d.size < start * 512 + 1376 → outcome b sector ≡ Ok s → ⊥
too_short d b sector s start sized k at h accepted = grind (arith, outcome_past_end)

module _ (s : Superblock) (sector : Option ℕ) (start : ℕ) (at : start ≡ super_sector sector) (b bytes : List ℕ)
    (read : bytes ≡ super_bytes b sector) where
  whole : wrong_fields s b sector
      ≡ flat_map (field_lines (start * 512)) (layout_fields s.layout bytes ++ total_fields s bytes)
  unfolding wrong_fields
  whole = rw (read, at) refl

  lines_of : (xs : List Field) (fields : List book.Field) → map field_of xs ≡ fields →
      wrong_lines (start * 512) xs ≡ flat_map (field_lines (start * 512)) fields
  lines_of xs fields e = sym (flat_map-map (field_lines (start * 512)) field_of xs)
      ∙ ap (flat_map (field_lines (start * 512))) e

  module _ (xs : List Field) (layout : map field_of xs ≡ layout_fields s.layout bytes) where
    -- the lines of the first part, and those that are to come
    pub first : wrong_lines (start * 512) xs ++ flat_map (field_lines (start * 512)) (total_fields s bytes)
        ≡ wrong_fields s b sector
    first =
        ap (λ (ls : List (List ℕ)). ls ++ flat_map (field_lines (start * 512)) (total_fields s bytes))
        (lines_of xs (layout_fields s.layout bytes) layout)
        ∙ sym (flat_map-append (field_lines (start * 512)) (layout_fields s.layout bytes) (total_fields s bytes))
        ∙ sym whole

    module _ (ys : List Field) (totals : map field_of ys ≡ total_fields s bytes) where
      pub both : wrong_lines (start * 512) xs ++ wrong_lines (start * 512) ys ≡ wrong_fields s b sector
      both = ap (λ (ls : List (List ℕ)). wrong_lines (start * 512) xs ++ ls)
          (lines_of ys (total_fields s bytes) totals) ∙ first
