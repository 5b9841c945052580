-- What the check of connectivity, phase 3, reports.
use Rattle.std.specs.Prelude.{ℕ, ◌==◌, Bool, true, not, ◌&&◌, ◌||◌, List, Option, None, Some}
use Rattle.ffs_volume.specs.declared.{constants.TheConstants.ROOTINO, tree_lines.ReferenceLine.TheVariants.UnrefDir}
use Rattle.ffs_volume.specs.Directories.{Climb.is_leader_within, Graph.{Graph, is_named, parent, reached}}
use Rattle.ffs_volume.specs.Directories.{Naming.graph_of, PathnameCheck.attributes, Roles.{Volume, is_suspect}}
use Rattle.ffs_volume.specs.Messages.Kinds.{TreeMessage, lines_below, of_reference, reported}

-- x is dead: it is suspect, isn't the root, and no plain entry names it
abbrev pub is_dead_in : Graph → (ℕ → Bool) → ℕ → Bool
is_dead_in g suspect x = suspect x && (not (x == ROOTINO) && not (is_named g x))

-- d is lost: a directory other than 2 that is neither reached nor dead
abbrev pub is_lost_in : Graph → (ℕ → Bool) → ℕ → Bool
is_lost_in g suspect d = g.is_dir d && (not (d == ROOTINO) && (not (reached g d) && not (is_dead_in g suspect d)))

-- the directory has no parent, or a dead one
abbrev pub none_or_dead : Graph → (ℕ → Bool) → Option ℕ → Bool
none_or_dead g suspect None = true
none_or_dead g suspect (Some s) = is_dead_in g suspect s

-- d is reported as UNREF DIR, as one of each lost tree or cycle: it is lost, and has no parent, or
-- a dead one, or is the least on its cycle of parents
abbrev pub is_unref_dir_in : Graph → (ℕ → Bool) → ℕ → Bool
is_unref_dir_in g suspect d =
    is_lost_in g suspect d && (none_or_dead g suspect (parent g d) || is_leader_within (parent g) g.count d)

-- the same in a volume
abbrev pub is_dead : Volume → ℕ → Bool
is_dead vol x = is_dead_in (graph_of vol) (is_suspect vol) x

abbrev pub is_unref_dir : Volume → ℕ → Bool
is_unref_dir vol d = is_unref_dir_in (graph_of vol) (is_suspect vol) d

-- the line on d, if there is one
abbrev pub unref_dir_lines : Volume → ℕ → List TreeMessage
unref_dir_lines vol d = reported (is_unref_dir vol d) (of_reference (UnrefDir (attributes vol d)))

-- the lines of phase 3
unfoldable pub connectivity_lines : Volume → List TreeMessage
connectivity_lines vol = lines_below (unref_dir_lines vol) vol.count
