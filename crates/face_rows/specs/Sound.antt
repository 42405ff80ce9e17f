-- What all that is found of rounded edges rests on.
use Rattle.std.specs.Prelude.{◌≡◌, length}
use Rattle.lay_point.specs.Edges.{IsEdgeBefore}
use Rattle.lay_point.specs.Rising.{IsRising}
use Rattle.snap_chains.specs.Rounded.{AreClean, AreEven, Owned}
use Rattle.face_rows.specs.Laws.{AreLesserFirst}

-- clean rounded edges, each from its lesser end to the other
pub record AreSound (r : Owned) : Type 0 where
  pub rising : IsRising IsEdgeBefore r.0
  pub paired : length r.1 ≡ length r.0
  pub even : AreEven r
  pub clean : AreClean r.0
  pub lesser : AreLesserFirst r.0
