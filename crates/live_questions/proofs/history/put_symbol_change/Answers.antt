use Rattle.std.proofs.Common.{rules}
use Rattle.byte_io.proofs.BufferedLemmas.{Buffered-is, Buffered-then}
use Rattle.live_questions.specs.Answers.{symbol_line}
use Rattle.live_questions.proofs.history.put_symbol_change.Goals as goal

pub returns : goal.returns
unfolding symbol_line
returns g c =
    Buffered-is
    (Buffered-then (Buffered-then (Buffered-then (Buffered-then c.put.ensures c.put_unsigned.ensures) c.put_byte.ensures)
    c.put_change.ensures) c.put-2.ensures)
    (search rules)
