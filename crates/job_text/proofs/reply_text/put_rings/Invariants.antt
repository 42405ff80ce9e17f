-- All was put but the text of the rings that are left.
use Rattle.std.proofs.Common.{length}
use Rattle.job_text.specs.Replies.{rings_text}
use Rattle.cif_write.proofs.BegunLemmas.{Begun}
use Rattle.job_text.proofs.reply_text.put_rings.Given as goal

abbrev pub invariant-loop-ring : goal.invariant-loop-ring
invariant-loop-ring g l =
    Begun g.O.Out.written g.O.Out.failures l.fn.out l.fn.buffer l.out l.buffer (rings_text l.rest) (rings_text l.fn.rings)

abbrev pub decreases-loop-ring : goal.decreases-loop-ring
decreases-loop-ring g l = length l.rest
