use Rattle.std.proofs.Common.{rules}
use Rattle.byte_io.proofs.BufferedLemmas.{Buffered-is, Buffered-then}
use Rattle.live_questions.specs.Answers.{item_line}
use Rattle.live_questions.proofs.items.put_item.Goals as goal

pub returns : goal.returns
unfolding item_line
returns g c =
    Buffered-is
    (Buffered-then (Buffered-then (Buffered-then (Buffered-then c.put_byte.ensures c.put_item_id.ensures) c.put_byte-2.ensures)
    c.put_found.ensures) c.put.ensures)
    (search rules)
