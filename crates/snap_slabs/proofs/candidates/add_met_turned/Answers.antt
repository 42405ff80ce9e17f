use Rattle.std.proofs.Common.{◌≡◌, ◌++◌, [], ◌∷◌, cond, refl, rules, ap, subst, get_or, pos, Contains}
use Rattle.std.proofs.lemmas.List.{take_all, get_or_default}
use Rattle.lay_point.specs.declared.point.Point.{Point}
use Rattle.snap_pixels.specs.Order.{transposed}
use Rattle.snap_pixels.specs.Segments.{Meets}
use Rattle.snap_slabs.proofs.Sorted.{ArePassed, kept_more, none_passed}
use Rattle.snap_slabs.proofs.candidates.add_met_turned.Goals as goal
use Rattle.snap_slabs.proofs.candidates.add_met_turned.Goals.{then-meets+in_ok-push, else-meets}

pub loop-centre-init : goal.loop-centre-init
loop-centre-init c = none_passed (Meets c.args.segment.now.a c.args.segment.now.b) transposed c.args.points.now.items

pub loop-centre-preserved : goal.loop-centre-preserved
loop-centre-preserved c =
    let s = c.args.segment.now in
    let cs = c.args.centres.now in
    let i = c.loop-centre.centre-index in
    let origin : Point = record { x = pos 0; y = pos 0 } in
    let old = c.loop-centre.points.items in
    let more : c.if-meets.points.items ≡ cond c.meets.result (old ++ transposed (get_or cs i origin) ∷ []) old = elim c.if-meets.branch [
      | then-meets+in_ok-push w ↦ rw w.if-meets.true (search rules)
      | else-meets w ↦ rw w.if-meets.false (ap (λ v. v.items) w.points-is)
    ] in
    kept_more (Meets s.a s.b) (Contains c.args.points.now.items) transposed (λ p. refl) cs i (get_or cs i origin) old
    c.loop-centre-test.true
    (get_or_default cs i _ origin c.loop-centre-test.true)
    c.loop-centre.invariant c.meets.result c.if-meets.points.items c.meets.ensures more

pub returns : goal.returns
returns c =
    let all = take_all c.loop-centre.centre-index c.args.centres.now (search rules) in
    subst (λ l. ArePassed (Meets c.args.segment.now.a c.args.segment.now.b) (Contains c.args.points.now.items) transposed l
    c.loop-centre.points.items)
    all c.loop-centre.invariant
