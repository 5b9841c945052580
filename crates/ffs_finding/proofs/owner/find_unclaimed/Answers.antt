use Rattle.std.proofs.{Common.{◌≡◌, ◌∙◌, ℕ, List, [], ◌∷◌, arith, rules, refl, ap}, lemmas.Result.err_from_is_err_and}
use Rattle.ffs_volume.specs.{declared.Layout.Layout, Disk.Numbers.piece, Groups.Records.group_block}
use Rattle.ffs_volume.proofs.{AreaLaws.{group_below, group_block_inside}, Results.fails_with}
use Rattle.ffs_volume.specs.Find.Owner.{group_of_fragment, map_text}
use Rattle.ffs_finding.{specs.Keepers.map_lines, proofs.Printing.{one, one_broken, prints_all, reads_first, stops_all}}
use Rattle.ffs_finding.proofs.owner.find_unclaimed.Goals as goal

pub fill-requires : goal.fill-requires
fill-requires g c = grind (arith, group_block_inside, group_below)

lines_are : (v : Layout) (b block : List ℕ) (f : ℕ) → block ≡ group_block v b (group_of_fragment v f) →
    map_lines v b f ≡ map_text v block f ∷ []
lines_are v b block f e = rw e refl

pub returns-in_err-fill-clause-prints : goal.returns-in_err-fill-clause-prints
returns-in_err-fill-clause-prints g c = grind (arith, err_from_is_err_and, reads_first)

pub returns-in_err-print_by_map-clause-prints : goal.returns-in_err-print_by_map-clause-prints
returns-in_err-print_by_map-clause-prints g c =
    let v = c.args.geometry.now.layout in
    rw (fails_with _ c.from_residual-in_err-print_by_map.ensures.1) (record {
      image = search rules;
      text = stops_all (λ b k. lines_are v b c.bytes.result.now c.args.fragment (c.bytes.ensures
          ∙ (c.in_ok-fill.ensures.fills.bytes b k ∙ ap (λ (n : ℕ). piece n v.cgsize b) c.group_place-place.ensures)))
          (one_broken c.in_err-print_by_map.ensures);
    })

pub returns-clause-prints : goal.returns-clause-prints
returns-clause-prints g c =
    let v = c.args.geometry.now.layout in
    record {
      image = search rules;
      text = prints_all (λ b k. lines_are v b c.bytes.result.now c.args.fragment (c.bytes.ensures
          ∙ (c.in_ok-fill.ensures.fills.bytes b k ∙ ap (λ (n : ℕ). piece n v.cgsize b) c.group_place-place.ensures)))
          (one c.in_ok-print_by_map.ensures);
    }
