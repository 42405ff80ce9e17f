use Rattle.std.proofs.Common.{◌≡◌, ◌+◌, [], drop, ap, refl, arith, ◌∙◌}
use Rattle.std.proofs.Math.ListN.{drop_of_length-le}
use Rattle.std.proofs.lemmas.List.{at_drop_more}
use Rattle.byte_io.proofs.BufferedLemmas.{Buffered-is}
use Rattle.job_text.specs.Replies.{session_text, sessions_text}
use Rattle.cif_write.proofs.BegunLemmas.{Begun-all, Begun-nothing, Begun-then}
use Rattle.job_text.proofs.reply_text.put_replies.Goals as goal

pub loop-replies-init : goal.loop-replies-init
loop-replies-init g c = record { lines = Begun-nothing _ _ _; count = refl }

pub loop-replies-preserved : goal.loop-replies-preserved
loop-replies-preserved g c =
    let session = c.loop-replies.session in
    let i = c.loop-replies.replies-index in
    let sessions = c.args.sessions.now in
    let replies = c.replies-item.result in
    record {
      lines = Begun-then (sessions_text (session + 1) (drop (i + 1) sessions)) c.loop-replies.invariant.lines
          (Buffered-is {xs = session_text session 1 c.as_slice.result.now} c.put_session.ensures
          (ap (session_text session 1) (c.as_slice.ensures ∙ c.replies-item.is)))
          (at_drop_more (sessions_text session) sessions i replies c.loop-replies-test.true);
      count = omega (arith, c.loop-replies.invariant.count);
    }

pub returns : goal.returns
returns g c =
    let none : drop c.loop-replies.replies-index c.args.sessions.now ≡ [] =
    drop_of_length-le c.args.sessions.now c.loop-replies-test.false in
    Begun-all c.loop-replies.invariant.lines (ap (sessions_text c.loop-replies.session) none)
