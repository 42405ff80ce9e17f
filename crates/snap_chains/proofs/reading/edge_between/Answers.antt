use Rattle.std.proofs.Common.{◌≡◌, ◌∙◌, rules, subst}
use Rattle.lay_point.specs.Edges.{undirected}
use Rattle.lay_point.specs.Points.{IsBefore}
use Rattle.lay_point.proofs.EdgeOrder.{before_is_strict, test_by_before, undirected_lesser}
use Rattle.snap_chains.proofs.reading.edge_between.Goals as goal

pub unwrap-requires : goal.unwrap-requires
unwrap-requires c =
    let apart : ¬ (c.args.low ≡ c.args.high) = λ e. before_is_strict.irreflexive c.args.high
    (subst (λ p. IsBefore p c.args.high) e c.requires) in
    search rules

pub returns : goal.returns
returns c =
    let made : c.unwrap.result ≡ undirected (c.args.low, c.args.high) = search rules in
    made ∙ undirected_lesser (c.args.low, c.args.high) (test_by_before c.args.low c.args.high c.requires)
