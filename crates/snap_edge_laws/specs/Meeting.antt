-- Places that two edges have in common.
use Rattle.std.specs.Prelude.{◌⊎◌, ℤ, pos, ◌≤ℤ◌}
use Rattle.lay_point.specs.declared.point.Point.{Point}
use Rattle.snap_edge_laws.specs.Edges.{IsEndpoint, IsOn, IsSharedEnd}

-- the edges have no place in common but a point that is an end of both
abbrev pub MeetAtEnds : Point × Point → Point × Point → Type 0
MeetAtEnds e f = (k x y : ℤ) → pos 1 ≤ℤ k → IsOn e.0 e.1 k x y → IsOn f.0 f.1 k x y → IsSharedEnd e.0 e.1 f.0 f.1 k x y

-- an end of the edge from a to b is one of that from c to d
abbrev pub ShareEnd : Point → Point → Point → Point → Type 0
ShareEnd a b c d = IsEndpoint a c d ⊎ IsEndpoint b c d

-- the edges from a to b and from c to d have a common place
abbrev pub HaveCommon : Point → Point → Point → Point → Type 0
HaveCommon a b c d = (k : ℤ) × (x : ℤ) × (y : ℤ) × (pos 1 ≤ℤ k) × IsOn a b k x y × IsOn c d k x y
