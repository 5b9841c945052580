-- What the check of directories leaves of what was found before it.
use Rattle.std.proofs.Common.{◌≡◌, arith}
use Rattle.ffs_workspace.specs.{declared.workspace.Workspace.Workspace, Leaves.LeavesAllButPlaces}

pub findings_kept : (w : Workspace) → LeavesAllButPlaces w w
findings_kept w = grind arith

-- what two calls leave
pub findings_more : (a b c : Workspace) → LeavesAllButPlaces a b → LeavesAllButPlaces b c → LeavesAllButPlaces a c
findings_more a b c s t = grind arith

-- where only the windows and the places that are noted have changed
pub findings_noted : (old new : Workspace) → new ≡ record old { windows = new.windows; words = new.words } →
    LeavesAllButPlaces old new
findings_noted old new e = grind arith
