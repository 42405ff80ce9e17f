use Rattle.std.proofs.Common.{rules}
use Rattle.byte_io.proofs.BufferedLemmas.{Buffered-is, Buffered-then}
use Rattle.live_questions.specs.Answers.{entry_line}
use Rattle.live_questions.proofs.history.put_entry.Goals as goal

pub returns : goal.returns
unfolding entry_line
returns g c =
    Buffered-is
    (Buffered-then (Buffered-then (Buffered-then (Buffered-then c.put_byte.ensures c.put_txn.ensures) c.put_byte-2.ensures)
    c.put_mark.ensures) c.put.ensures)
    (search rules)
