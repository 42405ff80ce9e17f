use Rattle.std.proofs.Common.{◌∙◌, ap, subst}
use Rattle.lay_point.specs.RingEdges.{edges_of}
use Rattle.lay_oriented.specs.Once.{IsZeroOrOne}
use Rattle.lay_oriented.specs.Slants.{counts, slant_count, slants_of}
use Rattle.lay_oriented.proofs.AlikeLemmas.{winding_alike}
use Rattle.lay_oriented.proofs.SlantLemmas.{counts_of_slants}
use Rattle.lay_oriented.proofs.WindingLemmas.{sum_of-permutation}
use Rattle.lay_oriented.proofs.once.wind_once.Goals as goal

pub returns : goal.returns
returns c = λ found k x y scale. subst IsZeroOrOne
    (ap (counts k x y) c.as_slice-2.ensures.value
    ∙ sum_of-permutation (slant_count k x y) c.in_ok-slants.slants.items c.sort_unstable_by_key.new.self.items
    c.sort_unstable_by_key.ensures.permutation
    ∙ ap (counts k x y) (c.in_ok-slants.ensures ∙ ap slants_of c.as_slice.ensures.value)
    ∙ counts_of_slants k x y c.in_ok-edges.edges.items scale
    ∙ winding_alike c.in_ok-edges.edges.items (edges_of c.args.rings.now) c.in_ok-edges.ensures k x y)
    (c.in_ok-found.ensures found k x y scale)
