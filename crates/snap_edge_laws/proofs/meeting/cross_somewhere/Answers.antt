use Rattle.std.proofs.Common.{◌≡◌, subst}
use Rattle.std.specs.Prelude.{IfSome}
use Rattle.snap_pixels.specs.declared.segment.Segment.{Segment}
use Rattle.snap_pixels.proofs.CrossingLemmas.{Crosses-same}
use Rattle.snap_edge_laws.proofs.Slanted.{common_by_crossing}
use Rattle.snap_edge_laws.proofs.meeting.cross_somewhere.Goals as goal

pub returns : goal.returns
returns c =
    let f = subst (λ r. IfSome r (λ (s : Segment). (s.a ≡ c.args.a) × (s.b ≡ c.args.b))) c.unwrap-first.ensures c.new.ensures.some in
    let g = subst (λ r. IfSome r (λ (s : Segment). (s.a ≡ c.args.c) × (s.b ≡ c.args.d))) c.unwrap-second.ensures c.new-2.ensures.some in
    rw c.is_some.ensures (common_by_crossing c.args.a c.args.b c.args.c c.args.d c.crossing.result
    c.requires.first c.requires.second c.requires.slanted
    (Crosses-same _ _ _ _ c.args.a c.args.b c.args.c c.args.d c.crossing.result f.0 f.1 g.0 g.1 c.crossing.ensures))
