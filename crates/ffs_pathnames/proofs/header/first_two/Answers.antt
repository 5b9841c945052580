use Rattle.std.proofs.Common.{arith, sym, ap, ◌∙◌, option_map}
use Rattle.ffs_volume.specs.Directories.Entries.{entry_at}
use Rattle.ffs_layout.specs.Entry.{entry_value}
use Rattle.ffs_pathnames.proofs.FirstTwo.{none_found, first_found, second_found}
use Rattle.ffs_pathnames.proofs.header.first_two.Goals as goal

pub returns-in-None : goal.returns-in-None
returns-in-None c = grind (arith, none_found)

pub returns-in-Some : goal.returns-in-Some
returns-in-Some c =
    let start = c.args.start.now in
    let started = c.if-not-started.false in
    let one = sym c.entry_at.ensures.value ∙ ap (option_map entry_value) c.in-Some.is in
    let two = c.entry_at-second.ensures.value ∙ ap (entry_at c.args.order start) c.from.ensures in
    record {
      first = first_found c.args.order start c.args.started (entry_value c.in-Some.entry) started one;
      second = second_found c.args.order start c.args.started (entry_value c.in-Some.entry) _ started one two;
    }
