use Rattle.std.proofs.Common.{rules}
use Rattle.std.proofs.lemmas.Fn.{always_returns_same}
use Rattle.snap_edge_laws.specs.Edges.{key}
use Rattle.snap_chains.proofs.ChainLemmas.{chain_of, met_alone}
use Rattle.snap_chains.proofs.chains.put_chain.Goals as goal

pub returns : goal.returns
returns c =
    let s = c.args.segment.now in
    let hot = c.args.finder.now in
    let met = c.add_met.new.points.items in
    let are_met = met_alone s hot c.clear.new.self.items met (search rules) c.in_ok-add_met.ensures in
    let sorted = c.sort_unstable_by_key.ensures.sorted (λ p. (key s p, p)) (always_returns_same _ _ _ (λ a r f k. search rules)) in
    chain_of s hot met c.sort_unstable_by_key.new.self.items c.dedup.new.self.items
    are_met c.sort_unstable_by_key.ensures.permutation sorted c.dedup.ensures.filtered
