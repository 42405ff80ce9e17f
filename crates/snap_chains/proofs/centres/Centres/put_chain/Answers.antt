use Rattle.std.proofs.Common.{◌<◌, ◌∙◌, List, Contains, length, subst}
use Rattle.lay_point.specs.declared.point.Point.{Point}
use Rattle.snap_edge_laws.specs.Chains.{IsChain}
use Rattle.snap_slabs.specs.Runs.{centres_at}
use Rattle.snap_chains.proofs.centres.Centres.put_chain.Goals as goal

pub put_numbers-requires : goal.put_numbers-requires
put_numbers-requires c = λ p m.
    subst (λ l. Contains l p) c.self.invariant
    (((c.in_ok-put_chain.ensures.exact p).0 (subst (λ l. Contains l p) c.as_slice.ensures.value m)).0)

pub returns-clause-inside : goal.returns-clause-inside
returns-clause-inside c = λ k m. subst (λ l. k < length l) c.self.view_is (c.in_ok-put_numbers.ensures.inside k m)

pub returns-clause-chain : goal.returns-clause-chain
returns-clause-chain c =
    let s = c.args.segment.now in
    let points = c.put_chain.new.points.items in
    let numbers = c.put_numbers.new.found.items in
    subst (λ (l : List Point). IsChain (Contains l) s (centres_at l numbers)) c.self.view_is
    (coe 1 0 (i. IsChain (Contains (c.self.inside.numbers)) s ((c.in_ok-put_numbers.ensures.centres ∙ c.as_slice.ensures.value) i))
    (subst (λ (l : List Point). IsChain (Contains l) s points) c.self.invariant c.in_ok-put_chain.ensures))
