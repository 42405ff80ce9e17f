use Rattle.std.proofs.Common.{◌∙◌, ap, subst}
use Rattle.std.specs.List.Sorted.{IsPermutation}
use Rattle.face_sweep.specs.Ends.{edge_begins}
use Rattle.face_sweep.proofs.EndLemmas.{are_begins, rows_after}
use Rattle.face_sweep.proofs.ends.Ends.of_edges.Goals as goal

pub returns-clause-ends : goal.returns-clause-ends
returns-clause-ends c =
    let edges = c.args.edges.now in
    let order = c.args.order.now in
    let sorted = c.sort_unstable.new.self.items in
    let moved = subst (λ bs. IsPermutation bs sorted) (c.in_ok-begins.ensures.begins ∙ ap (edge_begins edges) c.spans.ensures)
    c.sort_unstable.ensures.permutation in
    record {
      rising = rows_after order.0 c.requires.by_row;
      begins = are_begins edges order c.requires sorted c.in_ok-begins.ensures.few moved c.sort_unstable.ensures.sorted;
      tops = c.in_ok-tops.ensures;
    }
