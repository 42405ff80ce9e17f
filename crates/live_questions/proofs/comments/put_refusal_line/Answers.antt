use Rattle.std.proofs.Common.{rules}
use Rattle.byte_io.proofs.BufferedLemmas.{Buffered-is, Buffered-then}
use Rattle.live_questions.specs.Answers.{refusal_line}
use Rattle.live_questions.proofs.comments.put_refusal_line.Goals as goal

pub returns : goal.returns
unfolding refusal_line
returns g c =
    Buffered-is (Buffered-then (Buffered-then c.put_byte.ensures c.put_refusal.ensures) c.put.ensures)
    (search rules)
