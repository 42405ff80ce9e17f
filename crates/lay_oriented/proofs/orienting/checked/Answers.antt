use Rattle.std.proofs.Common.{◌≡◌, ◌∙◌, subst, true, rules}
use Rattle.std.specs.List.{AllByRecursion}
use Rattle.lay_point.specs.RingEdges.{edges_of}
use Rattle.lay_point.specs.Rings.{IsRing}
use Rattle.lay_oriented.specs.Once.{WindOnce}
use Rattle.lay_oriented.specs.Net.{PassAlike}
use Rattle.lay_oriented.proofs.OrientedLemmas.{oriented_by_once}
use Rattle.lay_oriented.proofs.orienting.checked.Goals as goal

pub returns : goal.returns
returns c =
    let same : c.in_ok-have_edges.field-0 ≡ true = search rules in
    let once : c.in_ok-wind_once.field-0 ≡ true = search rules in
    let edges = subst (λ l. PassAlike (edges_of l) c.args.edges.now) c.as_slice.ensures.value (c.in_ok-have_edges.ensures same) in
    oriented_by_once c.args._rings.now c.in-Some.new.items (subst (AllByRecursion IsRing) c.as_slice-3.ensures.value c.are_rings.ensures)
    (subst WindOnce c.as_slice-2.ensures.value (c.in_ok-wind_once.ensures once)) (λ test either. edges test either ∙ c.requires test either)
