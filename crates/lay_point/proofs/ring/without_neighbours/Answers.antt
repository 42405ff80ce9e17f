use Rattle.std.proofs.Common.{◌≡◌, pos, arith, rules, ◌++◌, ◌∷◌, [], get_or}
use Rattle.std.proofs.lemmas.Grind.{common_steps}
use Rattle.lay_point.specs.declared.point.Point.{Point}
use Rattle.lay_point.proofs.RingLemmas.{kept_behind_more, kept_more}
use Rattle.lay_point.proofs.ring.without_neighbours.Goals as goal
use Rattle.lay_point.proofs.ring.without_neighbours.Goals.{then-ne+in_ok-push-2, else-ne}

abbrev zero_point : Point
zero_point = record { x = pos 0; y = pos 0 }

pub loop-point-preserved : goal.loop-point-preserved
loop-point-preserved c =
    let e = kept_behind_more c.loop-point.last zero_point c.in-Some.behind.now c.loop-point.point-index (omega arith) in
    elim c.if-ne.branch [
      | then-ne+in_ok-push-2 w ↦
          let kept : c.if-ne.kept.items ≡ c.loop-point.kept.items ++ get_or c.in-Some.behind.now c.loop-point.point-index zero_point ∷ [] =
          search rules in
          let last : c.if-ne.last ≡ get_or c.in-Some.behind.now c.loop-point.point-index zero_point = search rules in
          rw (kept, last) (kept_more c.loop-point.kept.items c.loop-point.last zero_point c.in-Some.behind.now c.loop-point.point-index _
          (omega arith) (search rules) c.loop-point.invariant)
      | else-ne w ↦ grind (arith, common_steps)
    ]
