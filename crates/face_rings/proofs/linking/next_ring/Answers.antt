use Rattle.std.proofs.Common.{◌≤◌, length, ap, ◌∙◌, arith}
use Rattle.lay_point.specs.declared.ring.TheConstants.{MAX_RING_POINTS}
use Rattle.lay_point.specs.Rings.{ring_of}
use Rattle.lay_point.proofs.BridgeLemmas.{ring_of_ring}
use Rattle.face_rings.specs.Incidence.{left_of}
use Rattle.face_ring_laws.specs.Linking.{first_ring}
use Rattle.face_rings.proofs.LinkLemmas.{ring_answer}
use Rattle.face_rings.proofs.linking.next_ring.Goals as goal

pub returns-clause-ring : goal.returns-clause-ring
returns-clause-ring c =
    let points = first_ring (left_of c.args.edges.now c.args.unused.now.used.items) in
    let same = c.deref.ensures.value ∙ c.in_ok-walk_ring.ensures.points in
    let few : length points ≤ MAX_RING_POINTS =
    omega (arith, c.if-len-gt-MAX_RING_POINTS.false, c.len.ensures, ap length c.in_ok-walk_ring.ensures.points) in
    ring_answer _ _ c.new.result (ring_of c.deref.result.now) c.map_err.result points c.new.ensures
    (ap ring_of same ∙ ring_of_ring points (c.requires.ring few)) c.map_err.ensures.cases c.map_err.ensures.variant
