use Rattle.std.proofs.Common.{ap, arith, ◌∙◌, rules}
use Rattle.ffs_maps.{specs.{Bits.bits_of, Reserved.with_reserved}, proofs.Bits.bits_long}
use Rattle.ffs_workspace.specs.{Holds.claims_of, declared.workspace.Workspace.Workspace}
use Rattle.ffs_claims.{specs.Leaves.StaySet, proofs.{Frames.{stay, stay_reserved}, Reserved.reserved_claims}}
use Rattle.ffs_claims.proofs.reserve.reserve.Goals as goal

pub returns : goal.returns
returns c =
    let w = c.args.workspace.now in
    let v = c.args.geometry.now.layout in
    let same = ap (λ (w : Workspace). bits_of w.used) c.clear_counts.ensures in
    let used : StaySet (bits_of w.used) (bits_of c.reserve.new.self) =
    rw (c.reserve.ensures.bits, same) (stay_reserved v (bits_of w.used) (bits_long w.used ∙ c.requires.used)) in
    let duplicates = stay (bits_of w.duplicates) in
    record {
      used = c.reserve.ensures.bits ∙ ap (with_reserved v) same;
      claims = λ fresh. reserved_claims v (claims_of w) (claims_of c.clear_counts.new.workspace)
          (bits_of c.reserve.new.self) (ap claims_of c.clear_counts.ensures) fresh.duplicates
          (c.reserve.ensures.bits ∙ ap (with_reserved v) (same ∙ fresh.used));
      runs = search rules;
      counts = grind arith;
      only = grind arith;
    }
