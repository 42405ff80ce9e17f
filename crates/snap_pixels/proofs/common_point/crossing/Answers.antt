use Rattle.std.proofs.Common.{sym, ◌∙◌, arith}
use Rattle.std.proofs.lemmas.Int.{ints}
use Rattle.snap_pixels.specs.Segments.{AreParallel}
use Rattle.snap_pixels.proofs.BoxLemmas.{Crosses-apart}
use Rattle.snap_pixels.proofs.CrossingLemmas.{Crosses-exchanged, Crosses-parallel, Crosses-same, Crosses-same_turned, turned_left}
use Rattle.snap_pixels.proofs.common_point.crossing.Goals as goal

pub returns-then-boxes_are_apart : goal.returns-then-boxes_are_apart
returns-then-boxes_are_apart c =
    Crosses-same _ _ _ _ _ _ _ _ _ c.a-a.ensures c.b-b.ensures c.a-c.ensures c.b-d.ensures
    (Crosses-apart _ _ _ _ (c.boxes_are_apart.ensures c.if-boxes_are_apart.true))

pub returns-then-c-d-2 : goal.returns-then-c-d-2
returns-then-c-d-2 c = Crosses-exchanged _ _ _ _ _ c.level_crossing-then-c-d-2.ensures

pub returns-then-turn-gt0 : goal.returns-then-turn-gt0
returns-then-turn-gt0 c =
    Crosses-same _ _ _ _ _ _ _ _ c.left_crossing.result c.a-a.ensures c.b-b.ensures c.a-c.ensures c.b-d.ensures c.left_crossing.ensures

pub left_crossing-requires-then-turn-lt0 : goal.left_crossing-requires-then-turn-lt0
left_crossing-requires-then-turn-lt0 c =
    let turn = c.area-turn.ensures in
    turned_left c.a-a.result c.b-b.result c.a-c.result c.b-d.result (omega (arith, ints, turn.value, turn.low, turn.high))

pub returns-then-turn-lt0 : goal.returns-then-turn-lt0
returns-then-turn-lt0 c =
    Crosses-same_turned _ _ _ _ _ _ _ _ c.left_crossing-then-turn-lt0.result
    c.a-a.ensures c.b-b.ensures c.a-c.ensures c.b-d.ensures c.left_crossing-then-turn-lt0.ensures

pub returns : goal.returns
returns c =
    let turn = c.area-turn.ensures in
    let none : AreParallel c.a-a.result c.b-b.result c.a-c.result c.b-d.result =
    sym turn.value ∙ omega (arith, ints, turn.low, turn.high) in
    Crosses-same _ _ _ _ _ _ _ _ _ c.a-a.ensures c.b-b.ensures c.a-c.ensures c.b-d.ensures (Crosses-parallel _ _ _ _ none)
