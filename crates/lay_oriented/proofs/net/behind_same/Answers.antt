use Rattle.std.proofs.Common.{◌∷◌, sym, ap, ◌∙◌}
use Rattle.lay_oriented.proofs.NetLemmas.{edge_same}
use Rattle.lay_oriented.proofs.net.behind_same.Goals as goal

pub returns-then-is_same : goal.returns-then-is_same
returns-then-is_same c = c.in_ok-next.ensures.cases.0
    ∙ ap (λ e. e ∷ c.in_ok-next.rest.now)
    (sym (edge_same c.args.edge c.in_ok-next.next.now (sym c.is_same.ensures ∙ c.if-is_same.true)))
