use Rattle.std.proofs.Common.{sym, ap, ◌∙◌}
use Rattle.lay_point.specs.Parity.{parity}
use Rattle.lay_oriented.proofs.NetLemmas.{edges_same}
use Rattle.lay_oriented.proofs.orienting.have_edges.Goals as goal

pub returns : goal.returns
returns c = λ same test either.
    let edges = edges_same c.as_slice.result.now c.args.edges.now (sym c.are_same.ensures ∙ same) in
    sym (c.in_ok-found.ensures test either) ∙ ap (parity test) (sym c.as_slice.ensures.value ∙ edges)
