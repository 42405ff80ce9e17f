use Rattle.std.proofs.Common.{◌≡◌, ◌∷◌, ◌++◌, [], ap, sym, ◌∙◌}
use Rattle.lay_oriented.proofs.AlikeLemmas.{alike_added, alike_cancelled}
use Rattle.lay_oriented.proofs.NetLemmas.{edge_same}
use Rattle.lay_oriented.proofs.directed_net.add_or_cancel.Goals as goal

pub returns-then-is_same : goal.returns-then-is_same
returns-then-is_same c = λ f laws.
    alike_cancelled f laws c.args.kept.now.items c.pop.new.self.items c.in-Some.last c.args.edge c.in-Some.ensures.items
    (edge_same c.in-Some.last (c.args.edge.1, c.args.edge.0) (sym c.is_same.ensures ∙ c.if-is_same.true))

pub returns : goal.returns
returns c = λ f laws.
    let again : c.push-2.new.self.items ≡ c.args.kept.now.items = c.in_ok-push-2.ensures.items ∙ sym c.in-Some.ensures.items in
    alike_added f c.push-3.new.self.items c.args.kept.now.items c.args.edge
    (c.in_ok-push-3.ensures.items ∙ ap (λ l. l ++ c.args.edge ∷ []) again)
