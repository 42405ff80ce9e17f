use Rattle.std.proofs.Common.{◌≡◌, ◌*ℤ◌, ◌∙◌, ◌++◌, map, to_z, of_z, w32, refl, ap, rules}
use Rattle.std.specs.Ordering.{int_cmp, is_lt}
use Rattle.std.specs.Prelude.{All}
use Rattle.std.proofs.lemmas.Fn.{always_returns_same}
use Rattle.std.proofs.lemmas.Int.{to_z-of_z}
use Rattle.face_rows.specs.declared.crossing.Crossing.{Crossing}
use Rattle.face_rows.specs.Crossings.{IsCrossingOf}
use Rattle.face_rows.proofs.RowLemmas.{compared, is_left, ranks}
use Rattle.face_sweep.proofs.StopLemmas.{few_risers, many_risers}
use Rattle.face_sweep.proofs.stops.put_rising.Goals as goal

pub returns-then-group-lt2 : goal.returns-then-group-lt2
returns-then-group-lt2 c =
    few_risers c.args.edges.now.0 c.args.row c.args.group.now c.args.begun.now.items c.put_numbers.new.begun.items c.if-group-lt2.true
    c.in_ok-put_numbers.ensures

pub returns : goal.returns
returns c =
    let edges = c.args.edges.now.0 in
    let group = c.args.group.now in
    let sorted = c.sort_unstable_by.new.self.items in
    let order = c.sort_unstable_by.ensures.sorted is_left ranks (always_returns_same _ _ _ (λ a r f k.
    let answer : r ≡ int_cmp (a.1.0.now.rise *ℤ a.0.now.x) (a.0.now.rise *ℤ a.1.0.now.x) = search rules in (
      ap is_lt answer ∙ compared (a.1.0.now.rise *ℤ a.0.now.x) (a.0.now.rise *ℤ a.1.0.now.x),
      refl,
    ))) in
    let at : to_z w32 (of_z w32 c.args.row) ≡ c.args.row = to_z-of_z w32 c.args.row c.ranges.row in
    let same : c.edges.result.now ≡ edges = c.edges.ensures.value in
    let places = coe 0 1 (i. All (IsCrossingOf (same i) (at i)) c.in_ok-crossings.crossings.items) c.in_ok-crossings.ensures.places in
    let is : c.put_crossings.new.begun.items ≡ c.args.begun.now.items ++ map (λ (z : Crossing). z.number) sorted = search rules in
    many_risers edges c.args.row c.edges.ensures.rising c.edges.ensures.clean group c.in_ok-crossings.crossings.items sorted
    c.args.begun.now.items c.put_crossings.new.begun.items c.requires.1.apart c.in_ok-crossings.ensures.numbers places
    c.sort_unstable_by.ensures.permutation order is
