use Rattle.std.proofs.{Common.{◌∙◌, ◌≡◌, ◌≤◌, ◌+◌, ℕ, List, arith, false, sym}, lemmas.Result.IfOk-weaker}
use Rattle.ffs_image.{specs.{Limited.reads_asked}, proofs.Limits.read_over}
use Rattle.ffs_workspace.proofs.Readiness.{can_read_same}
use Rattle.ffs_volume.specs.Costs.DirectoryReads.{directory_cost}
use Rattle.ffs_pathnames.specs.KnowsAtDirectory.{KnowsAtDirectory}
use Rattle.ffs_pathnames.proofs.{LimitedLaws.{LookedBy, looked}, look.look_directory.{Given.Over, Goals.After-is_spent}}
use Rattle.ffs_pathnames.proofs.look.look_directory.Goals as goal

-- what became of the image below, and of the reads that were left
after : (g : Over) (c : After-is_spent g) →
    LookedBy (g.I.Image.device c.args.image.now)
    (g.I.Image.device c.look_directory_unlimited-looked.new.image.below.now)
    c.new-arg-1.given c.look_directory_unlimited-looked.new.image.below.ghost_name (g.I.Image.reads c.args.image.now)
    (g.I.Image.reads c.look_directory_unlimited-looked.new.image.below.now) c.args.reads_left.now
    c.look_directory_unlimited-looked.new.image.left
    (reads_asked c.look_directory_unlimited-looked.new.image.limit c.look_directory_unlimited-looked.new.image.left
    c.look_directory_unlimited-looked.new.image.spent) c.is_spent.result c.look_directory_unlimited-looked.result
after g c =
    looked (rw c.new-limited.ensures.device at c.look_directory_unlimited-looked.ensures.looks.leaves.read)
    c.is_spent.ensures.below

-- what is known of the bytes is known of those of the limited image
known : (g : Over) (c : After-is_spent g) (b : List ℕ) → KnowsAtDirectory c.args.geometry.now.layout
    (g.I.Image.device c.args.image.now).contents c.args.workspace.now c.args.dir b →
    KnowsAtDirectory c.args.geometry.now.layout (g.I.Image.device c.new-limited.result.begins.value).contents
    c.args.workspace.now c.args.dir b
known g c b k = grind arith

-- no read of known bytes is refused
answered : (g : Over) (c : After-is_spent g) (b : List ℕ) → KnowsAtDirectory c.args.geometry.now.layout
    (g.I.Image.device c.args.image.now).contents c.args.workspace.now c.args.dir b →
    directory_cost c.args.geometry.now.layout b c.args.dir ≤ c.args.reads_left.now → c.is_spent.result ≡ false
answered g c b k enough = grind arith

-- the reads that it made, and those that are left
taken : (g : Over) (c : After-is_spent g) (b : List ℕ) → KnowsAtDirectory c.args.geometry.now.layout
    (g.I.Image.device c.args.image.now).contents c.args.workspace.now c.args.dir b →
    (g.I.Image.reads c.look_directory_unlimited-looked.new.image.below.now
    ≤ g.I.Image.reads c.args.image.now + directory_cost c.args.geometry.now.layout b c.args.dir)
    × (c.args.reads_left.now
    ≤ c.look_directory_unlimited-looked.new.image.left + directory_cost c.args.geometry.now.layout b c.args.dir)
taken g c b k = grind arith

pub returns-then-is_spent : goal.returns-then-is_spent
returns-then-is_spent g c = grind arith

pub returns : goal.returns
returns g c =
    let at = (goal.at.returns g c).After-is_spent in
    let back = after g at in
    let left = c.look_directory_unlimited-looked.ensures.looks.leaves in
    let image = c.image-2-1.given.1 back.served.same_image ∙ c.drop-limited-2.ensures.below in
    let over = read_over _ _ c.look_directory_unlimited-looked.result (rw c.new-limited.ensures.device at left.read) in
    rw (image, c.left.ensures.value) (record {
      looks = record {
        found = IfOk-weaker c.look_directory_unlimited-looked.result _ _ (λ e h b k. h b (known g at b k.0))
            c.look_directory_unlimited-looked.ensures.looks.found;
        leaves = record {
          lists = left.lists;
          ready = can_read_same c.args.geometry.now.layout _ _ _ (back.served.contents ∙ sym over.contents)
              (back.served.size ∙ sym over.size) left.ready;
          read = back.served.read c.if-is_spent.false;
        };
      };
      cost = record {
        reads = λ b k. (taken g at b k).0;
        spends = λ b k. (taken g at b k).1;
        most = back.most;
      };
    })
