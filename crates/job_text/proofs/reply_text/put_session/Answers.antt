use Rattle.std.proofs.Common.{◌≡◌, ◌+◌, [], drop, ap, refl, arith}
use Rattle.std.proofs.Math.ListN.{drop_of_length-le}
use Rattle.std.proofs.lemmas.List.{at_drop_more}
use Rattle.byte_io.proofs.BufferedLemmas.{Buffered-is}
use Rattle.job_text.specs.Replies.{reply_text, session_text}
use Rattle.cif_write.proofs.BegunLemmas.{Begun-all, Begun-nothing, Begun-then}
use Rattle.job_text.proofs.reply_text.put_session.Goals as goal

pub loop-reply-init : goal.loop-reply-init
loop-reply-init g c = record { lines = Begun-nothing _ _ _; count = refl }

pub loop-reply-preserved : goal.loop-reply-preserved
loop-reply-preserved g c =
    let session = c.args.session in
    let step = c.loop-reply.step in
    let i = c.loop-reply.reply-index in
    let replies = c.args.replies.now in
    let reply = c.reply-item.result in
    record {
      lines = Begun-then (session_text session (step + 1) (drop (i + 1) replies)) c.loop-reply.invariant.lines
          (Buffered-is c.put_reply.ensures (ap (reply_text session step) c.reply-item.is))
          (at_drop_more (session_text session step) replies i reply c.loop-reply-test.true);
      count = omega (arith, c.loop-reply.invariant.count);
    }

pub returns : goal.returns
returns g c =
    let none : drop c.loop-reply.reply-index c.args.replies.now ≡ [] =
    drop_of_length-le c.args.replies.now c.loop-reply-test.false in
    Begun-all c.loop-reply.invariant.lines (ap (session_text c.args.session c.loop-reply.step) none)
