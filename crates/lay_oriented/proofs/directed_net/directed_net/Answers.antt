use Rattle.std.proofs.Common.{◌∙◌, ap}
use Rattle.lay_oriented.specs.Winding.{sum_of}
use Rattle.lay_oriented.proofs.WindingLemmas.{sum_of-permutation}
use Rattle.lay_oriented.proofs.directed_net.directed_net.Goals as goal

pub returns : goal.returns
returns c = λ f laws.
    c.in_ok-net.ensures f laws ∙ ap (sum_of f) c.as_slice.ensures.value
    ∙ sum_of-permutation f c.in_ok-edges.edges.items c.sort_unstable_by_key.new.self.items c.sort_unstable_by_key.ensures.permutation
    ∙ ap (sum_of f) c.in_ok-edges.ensures
