use Rattle.std.proofs.Common.{◌≡◌, ◌*◌, ◌/◌, ◌∙◌, ap, length, refl, sym, suc, ℕ, List, Some, arith, slice_index}
use Rattle.std.{proofs.{Common.length-take, lemmas.List.get_or_default}, specs.List.list_any}
use Rattle.ffs_volume.specs.{Directories.Graph.is_naming_entry}
use Rattle.ffs_paths.{specs.Climbing.name_in, proofs.Keeping.name_read}
use Rattle.ffs_volume.specs.Encodings.Places.{entries_in_chunks, entries_in_part, part_size, part_in}
use Rattle.ffs_paths.proofs.name.find_by_place.Given as given
use Rattle.ffs_paths.proofs.name.find_by_place.Goals as goal

-- the part that is looked at is the noted one
part_is : (g : given.Over) (c : goal.After-find_in_chunks g) →
    part_in (slice_index c.args.workspace.now.words.items c.args.dir) ≡ suc c.in-Some.part
part_is g c = grind (arith, get_or_default)

-- its entries are those of the bytes that were read
entries_are : (g : given.Over) (c : goal.After-find_in_chunks g) (b : List ℕ) →
    (g.I.Image.device c.args.image.now).contents ≡ Some b →
    entries_in_chunks c.args.geometry.now.layout.order (length c.bytes.result.now / 512) c.bytes.result.now
    ≡ entries_in_part c.args.geometry.now.layout b c.in-Some.part
entries_are g c b t = grind (arith, length-take)

-- where it is in the image
place_is : (g : given.Over) (c : goal.After-find_in_chunks g) →
    c.part_size-size.result * c.from.result ≡ part_size c.args.geometry.now.layout * c.in-Some.part
place_is g c = rw (c.part_size-size.ensures, c.from.ensures) refl

pub returns-clause-finds : goal.returns-clause-finds
returns-clause-finds g c =
    let v = c.args.geometry.now.layout in
    record {
      name = λ found b t claims survey parent is dir.
          c.find_in_chunks.ensures.name found
          ∙ (ap (name_in c.args.dir) (entries_are g c b t)
          ∙ survey.places c.args.dir parent c.in-Some.part (part_is g c) is);
      some = c.find_in_chunks.ensures.some;
      found = λ b t noted.
          let same : noted.part ≡ c.in-Some.part = let e = sym noted.place ∙ part_is g c in omega arith in
          c.find_in_chunks.ensures.found
          (ap (list_any (is_naming_entry c.args.dir)) (entries_are g c b t)
          ∙ (ap (λ k. list_any (is_naming_entry c.args.dir) (entries_in_part v b k)) (sym same) ∙ noted.named));
    }

pub returns-clause-leaves : goal.returns-clause-leaves
returns-clause-leaves g c =
    let read = c.in_ok-fill.ensures.fills in
    record {
      reads = name_read c.requires.ready read.room read.holds read.read;
      counted = record { count = read.counted; blocks = refl };
      again = λ held. let at = held c.in-Some.part (part_is g c) in
          read.again (at.0 ∙ sym (place_is g c)) (at.1 ∙ sym c.part_size-size.ensures);
      held = λ b t noted k e.
          let same : c.in-Some.part ≡ k = let e = sym (part_is g c) ∙ e in omega arith in (
            read.place.0 ∙ (place_is g c ∙ ap (λ n. part_size c.args.geometry.now.layout * n) same),
            read.place.1 ∙ c.part_size-size.ensures,
          );
    }

-- the read failed
pub returns-in_err-fill-clause-leaves : goal.returns-in_err-fill-clause-leaves
returns-in_err-fill-clause-leaves g c = grind (arith, get_or_default)
