use Rattle.std.proofs.Common.{◌∙◌, ap, refl}
use Rattle.ffs_image.specs.Device.{Device}
use Rattle.ffs_volume.proofs.Results.{on_ok}
use Rattle.ffs_pathnames.proofs.Limiting.{gathered, spared}
use Rattle.ffs_pathnames.proofs.paths.put_path.Goals as goal

-- a read was refused: not where the image gives its bytes
pub returns-then-is_spent-clause-puts : goal.returns-then-is_spent-clause-puts
returns-then-is_spent-clause-puts g c =
    let below = gathered c.new-limited.ensures.device c.new-limited.ensures.asked refl
    c.put_path-result.ensures.costs.leaves c.is_spent.ensures.below in
    rw (c.image-1.given.1 below.same_image ∙ c.drop-limited.ensures.below) (record {
      path = λ x b k. absurd (below.all b _ k c.if-is_spent.true);
      leaves = below.forgets c.if-is_spent.true _ _ (c.forget_parent.ensures _ _ _);
    })

-- none was refused
pub returns-clause-puts : goal.returns-clause-puts
returns-clause-puts g c =
    let below = gathered c.new-limited.ensures.device c.new-limited.ensures.asked refl
    c.put_path-result.ensures.costs.leaves c.is_spent.ensures.below in
    rw (c.image-2-1.given.1 below.same_image ∙ c.drop-limited-2.ensures.below) (record {
      path = on_ok c.put_path-result.result _ _ (λ p x b k. p b k.gives_bytes k.block_check k.survey)
          (rw (ap (λ (d : Device). d.contents) c.new-limited.ensures.device) at c.put_path-result.ensures.path);
      leaves = below.leaves c.if-is_spent.false;
    })

-- ---- what was spared
pub returns-then-is_spent-clause-spares : goal.returns-then-is_spent-clause-spares
returns-then-is_spent-clause-spares g c =
    let put = c.put_path-result.ensures in
    let below = gathered c.new-limited.ensures.device c.new-limited.ensures.asked refl put.costs.leaves
    c.is_spent.ensures.below in
    rw (c.image-1.given.1 below.same_image ∙ c.drop-limited.ensures.below) (record {
      reads = spared c.new-limited.ensures.device c.new-limited.ensures.asked put.costs.leaves c.is_spent.ensures.below
          put.costs.spares;
      keeps = λ y b k. absurd (below.all b y k c.if-is_spent.true);
    })

pub returns-clause-spares : goal.returns-clause-spares
returns-clause-spares g c =
    let put = c.put_path-result.ensures in
    let below = gathered c.new-limited.ensures.device c.new-limited.ensures.asked refl put.costs.leaves
    c.is_spent.ensures.below in
    rw (c.image-2-1.given.1 below.same_image ∙ c.drop-limited-2.ensures.below) (record {
      reads = spared c.new-limited.ensures.device c.new-limited.ensures.asked put.costs.leaves c.is_spent.ensures.below
          put.costs.spares;
      keeps = on_ok c.put_path-result.result _ _ (λ kept y b k. kept) put.costs.keeps;
    })
