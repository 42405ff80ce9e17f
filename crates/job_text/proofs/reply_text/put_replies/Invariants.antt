-- All was put but the lines of the sessions that are left.
use Rattle.std.proofs.Common.{◌≡◌, ◌+◌, drop}
use Rattle.job_text.specs.Replies.{sessions_text}
use Rattle.cif_write.proofs.BegunLemmas.{Begun}
use Rattle.job_text.proofs.reply_text.put_replies.Given as goal

abbrev pub invariant-loop-replies : goal.invariant-loop-replies
invariant-loop-replies g l = record {
  lines : Begun g.O.Out.written g.O.Out.failures l.fn.out l.fn.buffer l.out l.buffer
      (sessions_text l.session (drop l.replies-index l.sessions)) (sessions_text 1 l.sessions);
  count : l.session ≡ l.replies-index + 1;
}
