use Rattle.std.proofs.Common.{◌≡◌, ◌∙◌, ◌++◌, List, OnOk, IfErr, ap, subst, unwrap_or}
use Rattle.lay_flat.specs.Flattening.{Drawn, drawn_at, rings_from}
use Rattle.lay_flat.specs.Lending.{IsTooMany, drawn_with}
use Rattle.lay_flat.proofs.LendingLemmas.{listed-drawn}
use Rattle.lay_flat.proofs.lending.lend_end.Goals as goal

pub returns-clause-ok : goal.returns-clause-ok
returns-clause-ok c =
    let drawn : drawn_with c.unwrap_or-turn.result c.as_slice.result.now
    ≡ drawn_at c.args.lists.now.layout c.args.lists.now.layer c.args.end.now =
    listed-drawn c.args.lists.now.layout c.args.lists.now.layer c.args.end.now c.unwrap_or-turn.result c.as_slice.result.now
    (c.unwrap_or-turn.ensures ∙ ap (unwrap_or c.args.end.now.turn) c.unturned.ensures)
    (c.as_slice.ensures ∙ c.in_ok-shapes.ensures.list) in
    subst (λ (shapes : List Drawn). OnOk c.lend_shapes.result (c.lend_shapes.new.rings.items
    ≡ c.args.rings.now.items ++ rings_from c.args.number shapes)) drawn c.lend_shapes.ensures.ok

pub returns-clause-err : goal.returns-clause-err
returns-clause-err c =
    let drawn : drawn_with c.unwrap_or-turn.result c.as_slice.result.now
    ≡ drawn_at c.args.lists.now.layout c.args.lists.now.layer c.args.end.now =
    listed-drawn c.args.lists.now.layout c.args.lists.now.layer c.args.end.now c.unwrap_or-turn.result c.as_slice.result.now
    (c.unwrap_or-turn.ensures ∙ ap (unwrap_or c.args.end.now.turn) c.unturned.ensures)
    (c.as_slice.ensures ∙ c.in_ok-shapes.ensures.list) in
    subst (λ (shapes : List Drawn). IfErr c.lend_shapes.result (IsTooMany (c.args.rings.now.items
    ++ rings_from c.args.number shapes))) drawn c.lend_shapes.ensures.err
