-- the layout is wanted
use Rattle.live_run.proofs.SaidLemmas.{seen_one}
use Rattle.live_run.proofs.put.seen_in.Goals as goal

pub returns : goal.returns
returns c =
    seen_one c.args.answer.now.is_layout_wanted c.args.view.now c.args.layout.now c.in_ok-seen.field-0.layout c.if-not-answer.false
    c.in_ok-seen.ensures.layout
