use Rattle.std.proofs.Common.{◌∙◌, ap, refl}
use Rattle.ffs_image.specs.Device.{Device}
use Rattle.ffs_pathnames.proofs.Limiting.{gathered, spared}
use Rattle.ffs_pathnames.proofs.entry_texts.make_path.Goals as goal

-- a read was refused: not where the image gives its bytes
pub returns-then-is_spent-clause-makes : goal.returns-then-is_spent-clause-makes
returns-then-is_spent-clause-makes g c =
    let made = c.make_path_unlimited-result.ensures.makes in
    let below = gathered c.new-limited.ensures.device c.new-limited.ensures.asked refl made.leaves
    c.is_spent.ensures.below in
    let left = below.forgets c.if-is_spent.true _ _ (c.forget_parent.ensures _ _ _) in
    rw (c.image-1.given.1 below.same_image ∙ c.drop-limited.ensures.below) (record {
      makes = record {
        settled = refl;
        stays = λ settled. refl;
        made = λ b k. absurd (below.all b _ k.knows c.if-is_spent.true);
        path = λ b k settled. absurd (below.all b _ k.knows c.if-is_spent.true);
        leaves = left.path;
      };
      most = left.most;
    })

-- none was refused
pub returns-clause-makes : goal.returns-clause-makes
returns-clause-makes g c =
    let made = c.make_path_unlimited-result.ensures.makes in
    let below = gathered c.new-limited.ensures.device c.new-limited.ensures.asked refl made.leaves
    c.is_spent.ensures.below in
    let left = below.leaves c.if-is_spent.false in
    let contents = ap (λ (d : Device). d.contents) c.new-limited.ensures.device in
    rw (c.image-2-1.given.1 below.same_image ∙ c.drop-limited-2.ensures.below) (record {
      makes = record {
        settled = made.settled;
        stays = made.stays;
        made = rw contents at made.made;
        path = rw contents at made.path;
        leaves = left.path;
      };
      most = left.most;
    })

-- ---- what was spared
pub returns-then-is_spent-clause-spares : goal.returns-then-is_spent-clause-spares
returns-then-is_spent-clause-spares g c =
    let made = c.make_path_unlimited-result.ensures in
    let below = gathered c.new-limited.ensures.device c.new-limited.ensures.asked refl made.makes.leaves
    c.is_spent.ensures.below in
    rw (c.image-1.given.1 below.same_image ∙ c.drop-limited.ensures.below) (record {
      reads = spared c.new-limited.ensures.device c.new-limited.ensures.asked made.makes.leaves c.is_spent.ensures.below
          made.spares.reads;
      keeps = λ y b k. absurd (below.all b y k c.if-is_spent.true);
    })

pub returns-clause-spares : goal.returns-clause-spares
returns-clause-spares g c =
    let made = c.make_path_unlimited-result.ensures in
    let below = gathered c.new-limited.ensures.device c.new-limited.ensures.asked refl made.makes.leaves
    c.is_spent.ensures.below in
    let contents = ap (λ (d : Device). d.contents) c.new-limited.ensures.device in
    rw (c.image-2-1.given.1 below.same_image ∙ c.drop-limited-2.ensures.below) (record {
      reads = spared c.new-limited.ensures.device c.new-limited.ensures.asked made.makes.leaves c.is_spent.ensures.below
          made.spares.reads;
      keeps = rw contents at made.spares.keeps;
    })
