-- All was put but the lines of the replies that are left.
use Rattle.std.proofs.Common.{◌≡◌, ◌+◌, drop}
use Rattle.job_text.specs.Replies.{session_text}
use Rattle.cif_write.proofs.BegunLemmas.{Begun}
use Rattle.job_text.proofs.reply_text.put_session.Given as goal

abbrev pub invariant-loop-reply : goal.invariant-loop-reply
invariant-loop-reply g l = record {
  lines : Begun g.O.Out.written g.O.Out.failures l.fn.out l.fn.buffer l.out l.buffer
      (session_text l.session l.step (drop l.reply-index l.replies)) (session_text l.session 1 l.replies);
  count : l.step ≡ l.reply-index + 1;
}
