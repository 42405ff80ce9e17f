use Rattle.std.proofs.Common.{sym, ap, ◌∙◌}
use Rattle.lay_oriented.specs.Winding.{sum_of}
use Rattle.lay_oriented.proofs.NetLemmas.{edges_same}
use Rattle.lay_oriented.proofs.joining.go_alike.Goals as goal

pub returns : goal.returns
returns c = λ same f laws.
    let edges = edges_same c.as_slice.result.now c.as_slice-2.result.now (sym c.are_same.ensures ∙ same) in
    sym (c.in_ok-new_net.ensures f laws) ∙ ap (sum_of f) (sym c.as_slice.ensures.value ∙ edges ∙ c.as_slice-2.ensures.value)
    ∙ c.in_ok-old_net.ensures f laws
