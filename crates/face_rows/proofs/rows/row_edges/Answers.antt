-- The comparison of places is an order, and the edges of a row have different places.
use Rattle.std.proofs.Common.{◌≡◌, ◌*ℤ◌, map, to_z, of_z, w32, refl, sym, ap, subst, ◌∙◌, rules}
use Rattle.std.specs.Ordering.{int_cmp, is_lt}
use Rattle.std.specs.Prelude.{All}
use Rattle.std.proofs.lemmas.Fn.{always_returns_same}
use Rattle.std.proofs.lemmas.Int.{to_z-of_z}
use Rattle.face_rows.specs.declared.crossing.Crossing.{Crossing}
use Rattle.face_rows.specs.Crossings.{IsCrossingOf, crossing_numbers}
use Rattle.face_rows.specs.Rows.{AreRowEdges}
use Rattle.face_rows.proofs.RowLemmas.{compared, is_left, ranks, row_edges_of}
use Rattle.face_rows.proofs.rows.row_edges.Goals as goal

pub returns : goal.returns
returns c =
    let edges = c.args.edges.now.0 in
    let sorted = c.sort_unstable_by.new.self.items in
    let order = c.sort_unstable_by.ensures.sorted is_left ranks (always_returns_same _ _ _ (λ a r f k.
    let answer : r ≡ int_cmp (a.1.0.now.rise *ℤ a.0.now.x) (a.0.now.rise *ℤ a.1.0.now.x) = search rules in (
      ap is_lt answer ∙ compared (a.1.0.now.rise *ℤ a.0.now.x) (a.0.now.rise *ℤ a.1.0.now.x),
      refl,
    ))) in
    let at : to_z w32 (of_z w32 c.args.row) ≡ c.args.row = to_z-of_z w32 c.args.row c.ranges.row in
    let same : c.edges.result.now ≡ edges = c.edges.ensures.value in
    let crossed = c.in_ok-crossings.ensures.numbers ∙ (λ i. crossing_numbers (at i) 0 (same i)) in
    let places = coe 0 1 (i. All (IsCrossingOf (same i) (at i)) c.in_ok-crossings.crossings.items) c.in_ok-crossings.ensures.places in
    let rows = row_edges_of edges c.args.row c.edges.ensures.rising c.edges.ensures.clean c.in_ok-crossings.crossings.items sorted
    crossed places
    c.sort_unstable_by.ensures.permutation order in
    let numbers : c.in_ok-numbers.numbers.items ≡ map (λ (z : Crossing). z.number) sorted = search rules in
    subst (AreRowEdges edges c.args.row) (sym numbers) rows
