use Rattle.std.proofs.Common.{◌≡◌, ◌∙◌, ap, map, subst, sym}
use Rattle.std.specs.Prelude.{All}
use Rattle.lay_point.specs.Rising.{IsRising}
use Rattle.snap_slabs.specs.Runs.{IsRowBefore}
use Rattle.snap_chains.specs.RowOrder.{AreSpansOf, HasKeys, keyed_point}
use Rattle.snap_chains.proofs.RowOrderLemmas.{keys_stay, points_rise}
use Rattle.snap_chains.proofs.row_order.RowOrder.of_edges.Goals as goal

pub keyed_spans-requires-clause-keyed : goal.keyed_spans-requires-clause-keyed
keyed_spans-requires-clause-keyed c =
    let edges = c.args.edges.now in
    subst (λ keys. All (HasKeys keys) edges) (sym c.as_slice-2.ensures.value)
    (keys_stay c.in_ok-keys.keys.items c.sort_once.new.numbers.items edges c.sort_once.ensures.members c.in_ok-keys.ensures)

pub returns : goal.returns
returns c =
    let keys = c.sort_once.new.numbers.items in
    let points : c.in_ok-points.points.items ≡ map keyed_point keys =
    c.in_ok-points.ensures ∙ ap (map keyed_point) c.as_slice.ensures.value in
    let lent : map keyed_point c.as_slice-2.result.now ≡ map keyed_point keys = ap (map keyed_point) c.as_slice-2.ensures.value in
    record {
      by_row = subst (IsRising IsRowBefore) (sym points) (points_rise keys c.sort_once.ensures.increasing);
      as_many = c.in_ok-spans.ensures.as_many;
      spanned = subst (λ ps. AreSpansOf ps c.args.edges.now c.in_ok-spans.spans.items) (lent ∙ sym points)
          c.in_ok-spans.ensures.spans;
    }
