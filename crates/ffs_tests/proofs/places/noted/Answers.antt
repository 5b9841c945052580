use Rattle.std.proofs.Common.{arith, rules}
use Rattle.ffs_tests.proofs.places.noted.Goals as goal

pub note_places-read-requires : goal.note_places-read-requires
note_places-read-requires c =
    c.forget_windows.ensures.forgets _ _ (record { made = c.in_ok-workspace.ensures.made; volume = search (rules, arith) })
