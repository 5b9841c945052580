use Rattle.std.proofs.Common.{◌≡◌, ◌+◌, ◌-◌, ◌<◌, ◌≤◌, ℕ, List, Bool, true, false, codes, arith, refl, sym}
use Rattle.ffs_volume.specs.{declared.Layout.Layout, Disk.Areas.cgbase, Messages.Texts.number_text}
use Rattle.ffs_volume.specs.{Groups.Records.{bit_at, fragment_map_place}, Laws.Geometry.IsAcceptedLayout}
use Rattle.ffs_volume.specs.Find.{Lost.{has_map, is_marked_free}, Owner.{group_of_fragment, map_text}}
use Rattle.ffs_finding.proofs.owner.print_by_map.Goals as goal

no_map : (v : Layout) (block : List ℕ) (f : ℕ) → has_map v block ≡ false → map_text v block f
    ≡ number_text (codes "no map in group ") (group_of_fragment v f) (codes "\n")
unfolding map_text
no_map v block f e = rw e refl

free_text : (v : Layout) (block : List ℕ) (f : ℕ) → has_map v block ≡ true →
    is_marked_free v block (group_of_fragment v f) f ≡ true → map_text v block f ≡ codes "free\n"
unfolding map_text
free_text v block f e b = rw (e, b) refl

lost_text : (v : Layout) (block : List ℕ) (f : ℕ) → has_map v block ≡ true →
    is_marked_free v block (group_of_fragment v f) f ≡ false → map_text v block f ≡ codes "lost\n"
unfolding map_text
lost_text v block f e b = rw (e, b) refl

base_low : (v : Layout) (f : ℕ) → IsAcceptedLayout v →
    (cgbase v (group_of_fragment v f) ≤ f) × (f < cgbase v (group_of_fragment v f) + v.fpg)
unfolding cgbase
base_low v f g = grind arith

-- the bit that is looked at is the one of the definition
bit_is : (v : Layout) (block : List ℕ) (f base place : ℕ) (bit : Bool) → place ≡ fragment_map_place v block →
    base ≡ cgbase v (group_of_fragment v f) → bit ≡ bit_at block place (f - base) →
    is_marked_free v block (group_of_fragment v f) f ≡ bit
bit_is v block f base place bit e at is = rw (e, at) at (sym is)

pub returns-in_default : goal.returns-in_default
returns-in_default g c =
    rw (no_map c.args.geometry.now.layout c.args.block.now c.args.fragment c.in_default.ensures)
    (rw c.from.ensures at c.print_number.ensures)

pub overflow_sub-index : goal.overflow_sub-index
overflow_sub-index g c = grind (arith, base_low)

pub is_marked_free-requires : goal.is_marked_free-requires
is_marked_free-requires g c = grind (arith, base_low)

pub returns-then-is_marked_free : goal.returns-then-is_marked_free
returns-then-is_marked_free g c = grind (arith, free_text)

pub returns : goal.returns
returns g c = grind (arith, lost_text)
