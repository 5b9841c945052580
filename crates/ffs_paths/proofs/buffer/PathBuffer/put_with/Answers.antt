use Rattle.std.proofs.Common.{arith}
use Rattle.ffs_paths.proofs.LongestEnds.{end-past, end_tail, last-length, text_cut}
use Rattle.ffs_paths.proofs.Held.{entry-whole, has_parts, no_room}
use Rattle.ffs_paths.proofs.buffer.PathBuffer.put_with.Goals as goal

pub returns-then-has_room : goal.returns-then-has_room
returns-then-has_room c = grind (arith, has_parts, entry-whole)

pub returns-then-name-gt-LONGEST_NAME : goal.returns-then-name-gt-LONGEST_NAME
returns-then-name-gt-LONGEST_NAME c = grind (arith, no_room, text_cut, last-length, end-past)

pub returns : goal.returns
returns c = grind (arith, no_room, text_cut, last-length, end_tail)
