use Rattle.std.proofs.{Common.{arith, rules, ◌∙◌, sym}, lemmas.Grind.common_steps}
use Rattle.ffs_image.{proofs.Limits.{read_over, served}}
use Rattle.ffs_names.proofs.places.note_places.Goals as goal

pub returns-clause-places : goal.returns-clause-places
returns-clause-places g c = grind arith

pub returns-then-is_spent-clause-leaves : goal.returns-then-is_spent-clause-leaves
returns-then-is_spent-clause-leaves g c =
    let left = c.note_places_unlimited-noted.ensures.leaves in
    let back = served (rw c.new-limited.ensures.device at left.read) c.is_spent.ensures.below in
    let image = c.image-1.given.1 back.same_image ∙ c.drop-limited.ensures.below in
    let over = read_over _ _ c.note_places_unlimited-noted.result (rw c.new-limited.ensures.device at left.read) in
    let same = back.contents ∙ sym over.contents in
    let size = back.size ∙ sym over.size in
    let ready = left.ready in
    let made = ready.ready.made in
    let held = ready.windows in
    rw image (record {
      lists = grind (arith, common_steps);
      ready = record {
        ready = record { made = search rules; volume = rw size ready.ready.volume };
        windows = record {
          table = rw same held.table;
          blocks = rw same held.blocks;
          current = rw same held.current;
          other = rw same held.other;
        };
      };
      read = back.refused c.if-is_spent.true;
      none_due = grind (arith, common_steps);
    })
