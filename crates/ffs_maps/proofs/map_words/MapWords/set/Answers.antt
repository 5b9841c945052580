use Rattle.ffs_maps.proofs.Words.{same_stored, set_seen}
use Rattle.ffs_maps.proofs.map_words.MapWords.set.Goals as goal

pub returns : goal.returns
returns c =
    let w = c.self.inside.stored in
    let s = c.touch.new.stored in
    let same = same_stored w s c.args.index c.args.self.now c.self.view_is c.touch.ensures in
    rw c.set.ensures (set_seen s.touched s.reserved c.args.index c.args.word s.count c.args.self.now same c.touch.ensures.words.past)
