use Rattle.std.proofs.{Common.arith, lemmas.Result.IfOk-weaker}
use Rattle.ffs_names.proofs.{Continuing.{can_read, contents_kept}, Shaped.shape_same, SurveyHolds.none_ended}
use Rattle.ffs_names.proofs.reader.DirectoryReaderDirectories.next.Goals as goal

pub returns-in-Some-clause-shape : goal.returns-in-Some-clause-shape
returns-in-Some-clause-shape g c = search (arith, shape_same)

-- where the current chunk has no entry left, the reading is as it was
pub advance-requires : goal.advance-requires
advance-requires g c = grind (arith, can_read)

pub returns-clause-reader : goal.returns-clause-reader
returns-clause-reader g c = grind (arith, contents_kept)

pub returns-clause-left : goal.returns-clause-left
returns-clause-left g c = rw c.in-None.ensures.taken.same at c.advance.ensures.leaves.left

pub returns-clause-rest : goal.returns-clause-rest
returns-clause-rest g c = IfOk-weaker c.advance.result _ _
    (λ o h b k. rw c.in-None.ensures.taken.same at (h b k.bytes).entries) c.advance.ensures.entry

pub returns-clause-shape : goal.returns-clause-shape
returns-clause-shape g c = IfOk-weaker c.advance.result _ _
    (λ o h b k. rw c.in-None.ensures.taken.same at (h b k.bytes).shape) c.advance.ensures.entry

pub returns-clause-ended : goal.returns-clause-ended
returns-clause-ended g c =
    IfOk-weaker c.advance.result _ _ (λ o h. none_ended o _ (λ b k. (h b k.bytes).ended)) c.advance.ensures.entry

pub returns-clause-counted : goal.returns-clause-counted
returns-clause-counted g c = λ b k held.
    let same = c.in-None.ensures.taken.same in
    rw same at (c.advance.ensures.reads (rw same held) b k.bytes)
