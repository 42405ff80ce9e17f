-- What is so of pixels, segments and hot centres.
-- Source: Hobby, Practical segment intersection with finite precision output, 1999.
use Rattle.std.specs.Prelude.{◌≡◌, ◌↔◌, ℤ, pos, ◌*ℤ◌, ◌≤ℤ◌, List}
use Rattle.lay_point.specs.declared.point.Point.{Point}
use Rattle.snap_pixels.specs.declared.segment.Segment.{Segment}
use Rattle.snap_pixels.specs.Hot.{AreHotCentres}
use Rattle.snap_pixels.specs.Pixels.{HoldsPlace}
use Rattle.snap_pixels.specs.Segments.{Crosses, Meets}

-- the place (x / k, y / k) is in a pixel, and in no other
abbrev pub PlacesHaveOnePixel : Type 0
PlacesHaveOnePixel = (k x y : ℤ) → pos 1 ≤ℤ k → (c : Point) × HoldsPlace c k x y × ((d : Point) → HoldsPlace d k x y → c ≡ d)

-- (x / k, y / k) is (m x / m k, m y / m k)
abbrev pub ScalesAreFree : Type 0
ScalesAreFree = (c : Point) (m k x y : ℤ) → pos 1 ≤ℤ m → pos 1 ≤ℤ k
    → HoldsPlace c k x y ↔ HoldsPlace c (m *ℤ k) (m *ℤ x) (m *ℤ y)

abbrev pub EndsAreMet : Type 0
EndsAreMet = (a b : Point) → Meets a b a × Meets a b b

-- both segments meet the pixel of their crossing
abbrev pub CrossingsAreMet : Type 0
CrossingsAreMet = (a b a' b' c : Point) → Crosses a b a' b' c → Meets a b c × Meets a' b' c

abbrev pub EitherWayMeets : Type 0
EitherWayMeets = (a b c : Point) → Meets a b c → Meets b a c

abbrev pub AreOneList : List Segment → Type 0
AreOneList segments = (cs ds : List Point) → AreHotCentres segments cs → AreHotCentres segments ds → cs ≡ ds
