-- All was put but the text of the points that are left.
use Rattle.std.proofs.Common.{drop}
use Rattle.job_text.specs.Replies.{points_text}
use Rattle.cif_write.proofs.BegunLemmas.{Begun}
use Rattle.job_text.proofs.reply_text.put_points.Given as goal

abbrev pub invariant-loop-point : goal.invariant-loop-point
invariant-loop-point g l =
    Begun g.O.Out.written g.O.Out.failures l.fn.out l.fn.buffer l.out l.buffer
    (points_text (drop l.point-index l.points)) (points_text l.points)
