-- The same layout, but for where its rings begin and which way they run.
-- Source: Caltech Intermediate Form 2.0: a polygon is closed, and filled whichever way its edge runs.
-- Checked on: 0 0, 4 0, 4 2, 0 2 is the same ring as 4 2, 0 2, 0 0, 4 0, and as 4 2, 4 0, 0 0, 0 2; 0 0, 4 2, 4 0, 0 2 isn't.
use Rattle.std.specs.Prelude.{◌≡◌, ◌⊎◌, List, [], ◌∷◌, ◌++◌, reverse, ℤ, Option, None, Some, ⊤}
use Rattle.lay_point.specs.declared.point.Point.{Point}
use Rattle.lay_point.specs.Parity.{odd}
use Rattle.lay_point.specs.RingEdges.{edges_of_ring}
use Rattle.lay_layouts.specs.declared.id.ItemId.{ItemId}
use Rattle.lay_layouts.specs.declared.item.Item.{Item}
use Rattle.lay_layouts.specs.declared.item.Item.TheVariants.{Placed, Shape}
use Rattle.lay_layouts.specs.Layout.{Layout, item_at}

-- the same points in turn, begun at any of them
abbrev pub BeginsElsewhere : List Point → List Point → Type 0
BeginsElsewhere ring other = (front behind : List Point) × (ring ≡ front ++ behind) × (other ≡ behind ++ front)

-- run either way
abbrev pub IsSameRing : List Point → List Point → Type 0
IsSameRing ring other = BeginsElsewhere ring other ⊎ BeginsElsewhere (reverse ring) other

-- ring by ring
abbrev pub AreSameRings : List (List Point) → List (List Point) → Type 0
AreSameRings [] [] = ⊤
AreSameRings [] (other ∷ others) = ⊥
AreSameRings (ring ∷ rings) [] = ⊥
AreSameRings (ring ∷ rings) (other ∷ others) = IsSameRing ring other × AreSameRings rings others

-- a shape of the same rings on the same layer of the same cell, or the same call
abbrev pub IsSameItem : Item → Item → Type 0
IsSameItem (Shape cell layer rings) other =
    (others : List (List Point)) × (other ≡ Shape cell layer others) × AreSameRings rings others
IsSameItem (Placed cell target turn) other = other ≡ Placed cell target turn

abbrev pub IsSameFound : Option Item → Option Item → Type 0
IsSameFound None other = other ≡ None
IsSameFound (Some item) other = (same : Item) × (other ≡ Some same) × IsSameItem item same

-- the same symbols, and under each id the same item
pub record IsSameLayout (layout other : Layout) : Type 0 where
  pub symbols : other.symbols ≡ layout.symbols
  pub items : (id : ItemId) → IsSameFound (item_at layout id) (item_at other id)

-- each place is inside both of two such rings, or inside neither
abbrev pub SameRingsHoldTheSamePlaces : Type 0
SameRingsHoldTheSamePlaces = (ring other : List Point) → IsSameRing ring other → (k x y : ℤ)
    → odd (edges_of_ring other) k x y ≡ odd (edges_of_ring ring) k x y
