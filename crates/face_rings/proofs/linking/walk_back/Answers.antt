use Rattle.std.proofs.Common.{get_or, subst, sym}
use Rattle.face_rings.specs.Incidence.{left_of}
use Rattle.face_rings.proofs.IncidenceLemmas.{other}
use Rattle.face_ring_laws.specs.Linking.{Ends}
use Rattle.face_ring_laws.proofs.StepLemmas.{IsOnWay, on_way_further, taken_shorter}
use Rattle.face_rings.proofs.linking.walk_back.Goals as goal

pub loop-start-smaller : goal.loop-start-smaller
loop-start-smaller c =
    let d : Ends = (c.args.start, c.args.start) in
    taken_shorter c.loop-start.stop.at (left_of c.args.edges.now c.loop-start.unused.used.items)
    (left_of c.args.edges.now c.take_at.new.self.used.items) (get_or c.args.edges.now c.in-Some.number d) (c.in-Some.ensures.taken.1 d)

pub loop-start-preserved : goal.loop-start-preserved
loop-start-preserved c =
    let edges = c.args.edges.now in
    let left = left_of edges c.loop-start.unused.used.items in
    let left' = left_of edges c.take_at.new.self.used.items in
    let all = left_of edges c.args.unused.now.used.items in
    let before = c.args.points.now.items in
    let d : Ends = (c.args.start, c.args.start) in (
      c.take_at.ensures.sound,
      (λ k h. c.take_at.ensures.kept k (c.loop-start.invariant.1 k h)),
      subst (λ v. IsOnWay c.args.start c.args.stop.at v before c.push.new.self.items all left') (sym (c.other_stop-stop.ensures.point d))
          (on_way_further c.args.start c.args.stop.at c.loop-start.stop.at before c.loop-start.points.items c.push.new.self.items all left
          left' (get_or edges c.in-Some.number d) (other c.loop-start.stop.at c.args.start c.loop-start-test.ensures)
          c.loop-start.invariant.2 (c.in-Some.ensures.taken.1 d) c.in_ok-push.ensures.items),
      c.other_stop-stop.ensures.first,
    )
