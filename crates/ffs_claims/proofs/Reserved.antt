-- The claims before the first inode.
use Rattle.std.proofs.Common.{◌≡◌, ◌∙◌, ◌||◌, ◌<◌, Bool, List, false, replicate, refl, ap, sym}
use Rattle.std.proofs.{Common.arith, Math.Bool.or-false, lemmas.List.{same_lists, get_or-replicate}}
use Rattle.std.proofs.lemmas.List.FromFn.{length-map-range_with_len, get_or-map-range_with_len}
use Rattle.ffs_volume.specs.{Blocks.Claims.{Claims, reserved_map, no_claims, at_next_inode}, Disk.Areas.is_reserved}
use Rattle.ffs_volume.specs.declared.Layout.{Layout}
use Rattle.ffs_maps.{proofs.ReservedBits.{get_with, length_with}, specs.Reserved.with_reserved}

-- where no bit was set, only the reserved fragments' are then
with_none : (v : Layout) → with_reserved v (replicate v.size false) ≡ reserved_map v
unfolding reserved_map
with_none v =
    same_lists _ _
    (length_with v (replicate v.size false) ∙ sym (length-map-range_with_len (is_reserved v) 0 v.size))
    (λ f d inside. let low : f < v.size = omega (arith, inside, length_with v (replicate v.size false)) in
    get_with v (replicate v.size false) f d low
    ∙ ap (λ b. is_reserved v f || b) (get_or-replicate v.size f false false low) ∙ or-false (is_reserved v f)
    ∙ sym (get_or-map-range_with_len (is_reserved v) 0 v.size f f d low (omega arith)))

-- the claims before the first inode
pub reserved_claims : (v : Layout) (s s1 : Claims) (used : List Bool) → s1 ≡ at_next_inode s →
    s.duplicates ≡ replicate v.size false → used ≡ with_reserved v (replicate v.size false) →
    record s1 { used = used; runs = 0 } ≡ no_claims v
unfolding no_claims
reserved_claims v s s1 used e d u = rw (e, u, d, with_none v) refl
