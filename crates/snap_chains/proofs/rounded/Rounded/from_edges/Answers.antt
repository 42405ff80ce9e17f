use Rattle.std.proofs.Common.{◌≡◌, ◌↔◌, [], length, rules, ap, ◌∙◌, subst, Contains}
use Rattle.std.specs.Prelude.{replicate}
use Rattle.lay_point.specs.declared.point.Point.{Point}
use Rattle.lay_point.specs.Edges.{IsEdgeBefore}
use Rattle.snap_chains.proofs.EdgeOrder.{edge_order}
use Rattle.snap_chains.proofs.OwnerLemmas.{rounded_without_owners}
use Rattle.snap_slabs.proofs.Sorted.{sorted_once}
use Rattle.snap_chains.proofs.rounded.Rounded.from_edges.Goals as goal

pub invariant_of-result : goal.invariant_of-result
invariant_of-result c =
    let once = sorted_once IsEdgeBefore edge_order _ _ _ c.sort_unstable.ensures.permutation c.sort_unstable.ensures.sorted
    c.dedup.ensures.filtered in
    let count : c.len.result ≡ length c.dedup.new.self.items = search rules in
    rounded_without_owners c.dedup.new.self.items _ once.rising
    (c.in_ok-owners.ensures ∙ ap (λ n. replicate n []) count)

pub returns-clause-edges : goal.returns-clause-edges
returns-clause-edges c =
    let once = sorted_once IsEdgeBefore edge_order _ _ _ c.sort_unstable.ensures.permutation c.sort_unstable.ensures.sorted
    c.dedup.ensures.filtered in
    subst (λ l. (e : Point × Point) → Contains c.dedup.new.self.items e ↔ Contains l e) c.in_ok-kept.ensures.items once.members
