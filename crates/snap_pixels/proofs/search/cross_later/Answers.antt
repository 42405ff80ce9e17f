use Rattle.std.proofs.Common.{◌≡◌, ◌↔◌, ◌⊎◌, Contains, Some, rules}
use Rattle.lay_point.specs.declared.point.Point.{Point}
use Rattle.snap_pixels.proofs.MarkLemmas.{CrossesOne-step, CrossesOne-whole, found_none, found_some}
use Rattle.snap_pixels.proofs.search.cross_later.Goals as goal
use Rattle.snap_pixels.proofs.search.cross_later.Goals.{in-Some+in_ok-push, in_default}

pub loop-other-preserved : goal.loop-other-preserved
loop-other-preserved c =
    let more : (p : Point) → Contains c.match-crossing.centres p ↔ (Contains c.loop-other.centres p ⊎ (c.crossing.result ≡ Some p)) =
    elim c.match-crossing.branch [
      | in-Some+in_ok-push w ↦ λ p. coe 1 0 (i. Contains (w.centres-is i) p ↔ (Contains c.loop-other.centres p ⊎ (w.in-Some.is i ≡ Some p)))
          (found_some w.in-Some.centre p (w.in_ok-push.ensures p))
      | in_default w ↦ λ p. coe 1 0 (i. Contains (w.centres-is i) p ↔ (Contains c.loop-other.centres p ⊎ (w.in_default.is i ≡ Some p)))
          (found_none p)
    ] in
    CrossesOne-step c.args.segment.now c.other-item.result c.args.later.now c.loop-other.other-index c.crossing.result
    c.args.centres.now c.loop-other.centres c.match-crossing.centres
    (search rules) c.other-item.is c.crossing.ensures more c.loop-other.invariant

pub returns : goal.returns
returns c =
    CrossesOne-whole c.args.segment.now c.args.later.now c.args.centres.now c.loop-other.centres c.loop-other.other-index
    (search rules) c.loop-other.invariant
