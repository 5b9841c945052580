use Rattle.std.proofs.{Common.arith, lemmas.Bool.both_ways}
use Rattle.ffs_volume.specs.Directories.Paths.{entry_path}
use Rattle.ffs_paths.proofs.Rooms.{fits, fits_not, by_path, entry_is}
use Rattle.ffs_paths.proofs.path.DirectoryPath.put_entry.Goals as goal

pub returns-then-self : goal.returns-then-self
returns-then-self c = λ g d h. entry_is g d c.args.name.now c.args.self.now _ h c.if-self.true c.put_with.ensures

pub returns-then-name-gt-LONGEST_NAME : goal.returns-then-name-gt-LONGEST_NAME
unfolding entry_path
returns-then-name-gt-LONGEST_NAME c = grind (arith, by_path, both_ways, fits_not)

pub returns : goal.returns
unfolding entry_path
returns c = grind (arith, by_path, both_ways, fits)
