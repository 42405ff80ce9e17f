-- The order of walks, and of the shapes at their ends.
-- Source: this project's own rule.
use Rattle.std.specs.Prelude.{◌≡◌, ◌⊎◌, ℕ, List, [], ◌∷◌, Some, Contains, flat_map, map, unwrap_or, ⊤}
use Rattle.std.specs.declared.cmp.Ordering.TheVariants.{Less}
use Rattle.lay_point.specs.Turns.{unturned}
use Rattle.lay_cells.specs.declared.cell_id.CellId.{CellId}
use Rattle.lay_layouts.specs.declared.id.ItemId.{ItemId}
use Rattle.lay_layouts.specs.Ids.{id_cmp}
use Rattle.lay_layouts.specs.Layout.{Layout}
use Rattle.lay_layouts.specs.Lent.{LentCall, LentShape, shapes_in}
use Rattle.lay_flat.specs.Ends.{end_of, turn_along, walks_of}
use Rattle.lay_flat.specs.Flattening.{Drawn, drawn_at, ends_of}

-- each comes before all later ones
abbrev pub AreInOrder : {A : Type 0} → (A → A → Type 0) → List A → Type 0
AreInOrder {A} Before [] = ⊤
AreInOrder {A} Before (x ∷ xs) = ((y : A) → Contains xs y → Before x y) × AreInOrder Before xs

-- by session, then transaction, then number
abbrev pub IsIdBefore : ItemId → ItemId → Type 0
IsIdBefore a b = id_cmp a b ≡ Less

-- a walk comes before those that go on from it; else the first call that differs tells
abbrev pub IsWalkBefore : List LentCall → List LentCall → Type 0
IsWalkBefore [] [] = ⊥
IsWalkBefore [] (d ∷ v) = ⊤
IsWalkBefore (c ∷ w) [] = ⊥
IsWalkBefore (c ∷ w) (d ∷ v) = IsIdBefore c.0 d.0 ⊎ ((c ≡ d) × IsWalkBefore w v)

-- a shape at the end of a walk
abbrev pub WalkedShape : Type 0
WalkedShape = List LentCall × LentShape

-- by walk, then by the shape's id
abbrev pub IsPlaceBefore : WalkedShape → WalkedShape → Type 0
IsPlaceBefore p q = IsWalkBefore p.0 q.0 ⊎ ((p.0 ≡ q.0) × IsIdBefore p.1.0 q.1.0)

-- the shapes on the layer at the end of this walk from the cell
abbrev pub places_on : Layout → CellId → List ℕ → List LentCall → List WalkedShape
places_on layout cell layer walk = map (λ shape. (walk, shape)) (shapes_in layout (end_of cell walk) layer)

-- those at the ends of all walks
abbrev pub places : Layout → CellId → List ℕ → List WalkedShape
places layout cell layer = flat_map (places_on layout cell layer) (walks_of layout cell)

-- what is drawn there
abbrev pub drawn_of : WalkedShape → Drawn
drawn_of p = (unwrap_or (turn_along (Some unturned) p.0) unturned, p.1.1)

pub record AreNumberedInOrder (layout : Layout) (cell : CellId) (layer : List ℕ) : Type 0 where
  pub walks : AreInOrder IsWalkBefore (walks_of layout cell)
  pub shapes : AreInOrder IsPlaceBefore (places layout cell layer)
  -- these are the shapes that a flattening numbers
  pub numbered : flat_map (drawn_at layout layer) (ends_of layout cell) ≡ map drawn_of (places layout cell layer)

abbrev pub ShapesAreNumberedInOrder : Type 0
ShapesAreNumberedInOrder = (layout : Layout) (cell : CellId) (layer : List ℕ) → AreNumberedInOrder layout cell layer
