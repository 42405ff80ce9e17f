use Rattle.std.proofs.Common.{rules}
use Rattle.byte_io.proofs.BufferedLemmas.{Buffered-is, Buffered-then}
use Rattle.live_questions.specs.Answers.{cell_line}
use Rattle.live_questions.proofs.cells.put_cell_line.Goals as goal

pub returns : goal.returns
unfolding cell_line
returns g c =
    Buffered-is
    (Buffered-then (Buffered-then (Buffered-then (Buffered-then (Buffered-then c.put.ensures c.put_cell.ensures) c.put_byte.ensures)
    c.put_unsigned.ensures) c.put_title.ensures) c.put-2.ensures)
    (search rules)
