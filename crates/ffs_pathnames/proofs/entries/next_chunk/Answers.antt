use Rattle.std.proofs.{Common.{◌∙◌, refl, ◌≡◌, ◌≤◌, ℕ, List, Some, ap, arith, true}, lemmas.Bool.both_ways}
use Rattle.ffs_image.{specs.{Device.Device, Limited.reads_asked}, proofs.Limits.read_over}
use Rattle.ffs_names.specs.Costs.{HoldsReading, to_read}
use Rattle.ffs_pathnames.proofs.{Carrying.if_both, LimitedLaws.{LookedBy, budget_falls, can_read_same, looked}}
use Rattle.ffs_pathnames.proofs.{LimitedLaws.{taken_below, taken_left}, entries.next_chunk.Given.Over}
use Rattle.ffs_pathnames.proofs.entries.next_chunk.Goals.{After-is_spent}
use Rattle.ffs_pathnames.proofs.entries.next_chunk.Goals as goal

-- what became of the image below, and of the reads that were left
after : (g : Over) (c : After-is_spent g) →
    LookedBy (g.I.Image.device c.args.image.now) (g.I.Image.device c.next-offset.new.image.below.now)
    c.new-arg-1.given c.next-offset.new.image.below.ghost_name (g.I.Image.reads c.args.image.now)
    (g.I.Image.reads c.next-offset.new.image.below.now) c.args.reads_left.now c.next-offset.new.image.left
    (reads_asked c.next-offset.new.image.limit c.next-offset.new.image.left c.next-offset.new.image.spent)
    c.is_spent.result c.next-offset.result
after g c = looked (rw c.new-limited.ensures.device at c.next-offset.ensures.leaves.read) c.is_spent.ensures.below

-- the limited image gives the bytes of the one below
bytes : (g : Over) (c : After-is_spent g) (b : List ℕ) → (g.I.Image.device c.args.image.now).contents ≡ Some b →
    (g.I.Image.device c.new-limited.result.begins.value).contents ≡ Some b
bytes g c b t = ap (λ (d : Device). d.contents) c.new-limited.ensures.device ∙ t

-- no read of known bytes is refused
answered : (g : Over) (c : After-is_spent g) (b : List ℕ) → (g.I.Image.device c.args.image.now).contents ≡ Some b →
    HoldsReading c.args.windows.now.blocks c.args.windows.now.current c.args.chunks.now →
    to_read b c.args.chunks.now ≤ c.args.reads_left.now → c.is_spent.result ≡ true → ⊥
answered g c b t held enough = grind (arith, bytes, both_ways, after)

-- a read was refused
pub returns-then-is_spent : goal.returns-then-is_spent
returns-then-is_spent g c =
    let at = (goal.at.returns-then-is_spent g c).After-is_spent in
    let spent = c.if-is_spent.true in
    record {
      chunk = record {
        chunk = λ held b t enough. absurd (answered g at b t held enough spent);
        chunks_left = tt;
      };
      takes = record {
        reads = λ held b t enough. absurd (answered g at b t held enough spent);
        spends = λ held b t enough. absurd (answered g at b t held enough spent);
        most = grind (arith, after);
      };
      leaves = record {
        geometry = c.next-offset.ensures.leaves.geometry;
        ready = grind (arith, after, read_over, can_read_same);
        read = grind (arith, after);
        others = refl;
      };
    }

-- none was refused
pub returns : goal.returns
returns g c = record {
  chunk =
      let at = (goal.at.returns g c).After-is_spent in
      if_both c.next-offset.result _ _ _
      (λ o h chunks_left. record { chunk = λ held b t enough. h b (bytes g at b t); chunks_left = chunks_left })
      c.next-offset.ensures.chunk (budget_falls c.next-offset.result _ _ c.next-offset.ensures.leaves.chunks_left);
  takes = record {
    reads = λ held b t enough. grind (arith, after, taken_below, bytes);
    spends = λ held b t enough. grind (arith, taken_left, bytes, after);
    most = grind (arith, after);
  };
  leaves = grind (arith, after, read_over, can_read_same);
}
