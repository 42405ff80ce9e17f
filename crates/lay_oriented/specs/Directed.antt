-- Layouts that readers by winding number and readers by parity see alike.
-- Source: a place is inside a shape by the parity of its rings (lay_point's Parity); that readers by winding number are to see
-- the same places is this project's own.
use Rattle.std.specs.Prelude.{◌≡◌, ◌⊎◌, ℕ, List, [], ◌∷◌, ◌++◌, length, take, ⊤}
use Rattle.std.specs.FinMap as map
use Rattle.lay_point.specs.declared.point.Point.{Point}
use Rattle.lay_point.specs.Bridges.{bridged}
use Rattle.lay_point.specs.RingEdges.{edges_of, edges_of_ring}
use Rattle.lay_cells.specs.declared.cell_id.CellId.{CellId}
use Rattle.lay_layouts.specs.declared.id.ItemId.{ItemId}
use Rattle.lay_layouts.specs.declared.item.Item.{Item}
use Rattle.lay_layouts.specs.declared.item.Item.TheVariants.{Placed, Shape}
use Rattle.lay_layouts.specs.Layout.{Layout}
use Rattle.lay_layouts.specs.Sound.{IsDrawn}
use Rattle.lay_oriented.specs.Oriented.{AreOriented, GoRound}

-- the one path round these rings goes once round each place inside by their parity, and not round any other
abbrev pub GoesOnce : List (List Point) → Type 0
GoesOnce rings = GoRound (edges_of_ring (bridged rings)) (edges_of rings)

-- both readers see the item alike; a call draws nothing of its own
abbrev pub IsSeenAlike : Item → Type 0
IsSeenAlike (Shape cell layer rings) = GoesOnce rings
IsSeenAlike (Placed cell target turn) = ⊤

-- two shapes of one cell and one layer: the new rings, and the one path round them, go once round each place that the old ones
-- have inside by parity, and not round any other, and have the same places inside by parity
abbrev pub IsTurned : Item → Item → Type 0
IsTurned (Shape cell layer rings) (Shape cell' layer' rings') =
    (cell' ≡ cell) × (layer' ≡ layer) × IsDrawn rings' × AreOriented rings rings'
IsTurned (Shape cell layer rings) (Placed cell' target turn) = ⊥
IsTurned (Placed cell target turn) new = ⊥

-- the one item that stays though readers may see it otherwise: this shape, with its cell
abbrev pub IsStaying : ItemId → Item → List (CellId × ItemId) → Type 0
IsStaying id (Shape cell layer rings) stays = stays ≡ (cell, id) ∷ []
IsStaying id (Placed cell target turn) stays = ⊥

-- What becomes of an item, and what it adds to those that stay though readers may see them otherwise: the same item, which both
-- see alike, or the shape turned, which add none; or the same shape, which adds itself.
abbrev pub IsDirectedItem : ItemId → Item → Item → List (CellId × ItemId) → Type 0
IsDirectedItem id old new stays =
    ((stays ≡ []) × (new ≡ old) × IsSeenAlike old)
    ⊎ (((stays ≡ []) × IsTurned old new)
    ⊎ ((new ≡ old) × IsStaying id old stays))

-- item by item under the same ids, in their order, and those that stay, in theirs
abbrev pub AreDirected : List (ItemId × Item) → List (ItemId × Item) → List (CellId × ItemId) → Type 0
AreDirected [] [] stays = stays ≡ []
AreDirected [] (new ∷ news) stays = ⊥
AreDirected (old ∷ olds) [] stays = ⊥
AreDirected (old ∷ olds) (new ∷ news) stays =
    (new.0 ≡ old.0)
    × ((first : List (CellId × ItemId)) × (rest : List (CellId × ItemId)) × (stays ≡ first ++ rest)
    × IsDirectedItem old.0 old.1 new.1 first × AreDirected olds news rest)

-- the layout with its shapes directed, but for those that stay as they were
pub record IsDirectedBut (old new : Layout) (stays : List (CellId × ItemId)) : Type 0 where
  pub symbols : new.symbols ≡ old.symbols
  pub items : AreDirected (map.entries old.items) (map.entries new.items) stays

-- the layout with its shapes directed, of which so many stay as they were
abbrev pub IsDirected : Layout → Layout → ℕ → Type 0
IsDirected old new count = (stays : List (CellId × ItemId)) × (count ≡ length stays) × IsDirectedBut old new stays

-- the same, with the first three of those that stay, each with its cell, or as many as there are
abbrev pub IsDirectedNaming : Layout → Layout → ℕ → List (CellId × ItemId) → Type 0
IsDirectedNaming old new count named =
    (stays : List (CellId × ItemId)) × (count ≡ length stays) × (named ≡ take 3 stays) × IsDirectedBut old new stays
