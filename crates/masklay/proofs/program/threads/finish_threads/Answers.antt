use Rattle.std.proofs.Common.{◌≡◌, false, inr, rules}
use Rattle.std.specs.List.{list_any}
use Rattle.undo_rules.specs.Books.{History}
use Rattle.session_core.specs.Machine.{is_memory}
use Rattle.job_text.specs.Order.{order_of}
use Rattle.locked_desk.proofs.ScriptLemmas.{few_replies}
use Rattle.masklay.proofs.program.threads.finish_threads.Goals as goal

-- as many sessions reply as have scripts
pub order_of-requires : goal.order_of-requires
order_of-requires g c =
    let run = c.in_ok-closed.field-0 in
    let lent : c.as_slice-2.result.now ≡ run.replies = search rules in
    rw lent (few_replies c.args.base c.args.scripts run.replies run.closed.book c.in_ok-closed.ensures)

pub returns : goal.returns
returns g c =
    let run = c.in_ok-closed.field-0 in
    let book : History = run.closed.book in
    let served : list_any (list_any is_memory) run.replies ≡ false = search rules in
    let printed : c.from_vec.result ≡ order_of book.log run.replies = search rules in
    let layout : c.in_ok-share.field-0 ≡ book.layout = search rules in
    inr (record { book = book; ran = c.in_ok-closed.ensures; served = served; order = printed; layout = layout })
