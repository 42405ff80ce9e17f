use Rattle.std.proofs.Common.{subst, sym, ◌∙◌, arith, length}
use Rattle.face_rings.specs.Joining.{AreCoversJoined, IsPartOf, Joins, box_reaches_high, box_reaches_low}
use Rattle.face_rings.proofs.CutLemmas.{inside_part, joined_by_sides}
use Rattle.face_rings.proofs.JoinLemmas.{all_inside, on_ok}
use Rattle.face_rings.proofs.joining.+join_all.Goals as goal

pub join_all-requires : goal.join_all-requires
join_all-requires t c =
    let boxes = c.args.boxes.now in
    let cut = c.halving-cut.result in
    let low = c.in_ok-low.low.items in
    let is_low = subst (λ l. IsPartOf (box_reaches_low cut) boxes l low) c.as_slice-4.ensures.value c.in_ok-low.ensures in (
      omega (arith, c.decreases, c.if-depth-eq0.false),
      (
        c.in_ok-join_covering.ensures.grows.forest,
        (
          c.in_ok-join_covering.ensures.grows.each ∙ c.requires.each,
          (
            c.requires.height,
            (
              all_inside low (length boxes) (inside_part (box_reaches_low cut) boxes c.args.numbers.items low c.requires.inside is_low),
              is_low.by_bottom,
            ),
          ),
        ),
      ),
    )

pub join_all-requires-2 : goal.join_all-requires-2
join_all-requires-2 t c =
    let boxes = c.args.boxes.now in
    let cut = c.halving-cut.result in
    let high = c.in_ok-high.high.items in
    let is_high = subst (λ l. IsPartOf (box_reaches_high cut) boxes l high) c.as_slice-5.ensures.value c.in_ok-high.ensures in (
      omega (arith, c.decreases, c.if-depth-eq0.false),
      (
        c.in_ok-join_all.ensures.grows.forest,
        (
          c.in_ok-join_all.ensures.grows.each ∙ c.in_ok-join_covering.ensures.grows.each ∙ c.requires.each,
          (
            c.requires.height,
            (
              all_inside high (length boxes) (inside_part (box_reaches_high cut) boxes c.args.numbers.items high c.requires.inside is_high),
              is_high.by_bottom,
            ),
          ),
        ),
      ),
    )

pub returns : goal.returns
returns t c =
    let boxes = c.args.boxes.now in
    let numbers = c.args.numbers.items in
    let old = c.args.parents.now in
    let first = c.join_covering.new.parents in
    let mid = c.join_all.new.parents in
    let new = c.join_all-2.new.parents in
    let low = c.in_ok-low.low.items in
    let high = c.in_ok-high.high.items in
    let cut = c.halving-cut.result in
    let over = coe 0 1 (k. AreCoversJoined boxes (sym c.halving-cut.ensures k) (c.as_slice-3.ensures.value k) first)
    c.in_ok-join_covering.ensures.joined in
    let is_low = subst (λ l. IsPartOf (box_reaches_low cut) boxes l low) c.as_slice-4.ensures.value c.in_ok-low.ensures in
    let is_high = subst (λ l. IsPartOf (box_reaches_high cut) boxes l high) c.as_slice-5.ensures.value c.in_ok-high.ensures in
    on_ok c.join_all-2.result (Joins boxes high mid new) (Joins boxes numbers old new)
    (joined_by_sides boxes cut numbers low high old first mid new c.requires.each c.in_ok-join_covering.ensures.grows over is_low is_high
    c.in_ok-join_all.ensures)
    c.join_all-2.ensures
