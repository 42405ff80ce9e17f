use Rattle.std.proofs.Common.{◌∙◌, ap}
use Rattle.lay_point.specs.Parity.{parity}
use Rattle.lay_oriented.proofs.NetLemmas.{parity-permutation}
use Rattle.lay_oriented.proofs.net.net_edges.Goals as goal

pub returns : goal.returns
returns c = λ test either.
    c.in_ok-kept.ensures test either ∙ ap (parity test) c.as_slice-2.ensures.value
    ∙ parity-permutation test c.in_ok-ordered.ordered.items c.sort_unstable.new.self.items c.sort_unstable.ensures.permutation
    ∙ c.in_ok-ordered.ensures test either ∙ ap (parity test) (c.as_slice.ensures.value ∙ c.in_ok-edges.ensures)
