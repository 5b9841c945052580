use Rattle.std.proofs.Common.{arith}
use Rattle.ffs_workspace.proofs.TablePlaces.{piece_of}
use Rattle.ffs_names.proofs.run_cursor.RunCursor.read_chunk.Goals as goal

-- it is one of those that the window holds
pub returns-clause-chunk : goal.returns-clause-chunk
returns-clause-chunk g c = grind (arith, piece_of)
