-- Rings of shapes, rounded together.
-- Source: Hobby, Practical segment intersection with finite precision output, 1999.
use Rattle.std.specs.Prelude.{◌≡◌, Contains, List, flat_map, map}
use Rattle.std.specs.List.{AllZip}
use Rattle.lay_point.specs.declared.point.Point.{Point}
use Rattle.snap_pixels.specs.declared.segment.Segment.{Segment}
use Rattle.lay_point.specs.Rising.{pairs}
use Rattle.snap_edge_laws.specs.Rounding.{IsRoundedPath, closed_walk}
use Rattle.snap_chains.specs.declared.owner.Owner.{Owner}
use Rattle.snap_chains.specs.Sides.{segment_ends}

-- the segments are the sides of all rings, ring by ring
abbrev pub AreSides : List (Owner × List Point) → List Segment → Type 0
AreSides rings segments = map segment_ends segments ≡ flat_map (λ r. pairs (closed_walk r.1)) rings

-- the sides of all rings are among the segments
abbrev pub HaveSides : List (Owner × List Point) → List Segment → Type 0
HaveSides rings segments = (e : Point × Point) → Contains (flat_map (λ (r : Owner × List Point). pairs (closed_walk r.1)) rings) e
    → Contains (map segment_ends segments) e

-- the walks are the rounded rings, each closed, over the hot pixels of all sides together
pub record AreRounded (rings : List (Owner × List Point)) (walks : List (List Point)) : Type 0 where
  pub segments : List Segment
  pub sides : AreSides rings segments
  pub rounded : AllZip (λ r w. IsRoundedPath segments (closed_walk r.1) w) rings walks
