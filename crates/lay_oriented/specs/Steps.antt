-- What is found for each item, and what is written then. No public clause cites this module.
use Rattle.std.specs.Prelude.{◌≡◌, ◌⊎◌, ℕ, List, [], ◌∷◌, Some, length, take}
use Rattle.lay_cells.specs.declared.cell_id.CellId.{CellId}
use Rattle.lay_layouts.specs.declared.id.ItemId.{ItemId}
use Rattle.lay_layouts.specs.declared.item.Item.{Item}
use Rattle.lay_layouts.specs.declared.item.Item.TheVariants.{Placed, Shape}
use Rattle.lay_layouts.specs.Layout.{Write}
use Rattle.lay_oriented.specs.declared.directing.Step.{Step}
use Rattle.lay_oriented.specs.declared.directing.Step.TheVariants.{Alike, Otherwise, Turned}
use Rattle.lay_oriented.specs.Directed.{IsSeenAlike, IsTurned}

abbrev pub IsShapeOf : CellId → Item → Type 0
IsShapeOf cell (Shape cell' layer rings) = cell' ≡ cell
IsShapeOf cell (Placed cell' target turn) = ⊥

-- what is found for an item
abbrev pub IsFoundFor : Item → Step → Type 0
IsFoundFor item Alike = IsSeenAlike item
IsFoundFor item (Turned new) = IsTurned item new
IsFoundFor item (Otherwise cell) = IsShapeOf cell item

-- the writes of the turned shapes among these items, in their order, and the shapes that readers may see otherwise
abbrev pub AreWrites : List (ItemId × Item) → List Write → List (CellId × ItemId) → Type 0
AreWrites [] writes stays = (writes ≡ []) × (stays ≡ [])
AreWrites (entry ∷ entries) writes stays =
    (IsSeenAlike entry.1 × AreWrites entries writes stays)
    ⊎ (((new : Item) × (rest : List Write) × (writes ≡ (entry.0, Some new) ∷ rest) × IsTurned entry.1 new × AreWrites entries rest stays)
    ⊎ ((cell : CellId) × (rest : List (CellId × ItemId)) × (stays ≡ (cell, entry.0) ∷ rest) × IsShapeOf cell entry.1
    × AreWrites entries writes rest))

-- the writes, how many shapes readers may see otherwise, and the first three of them
abbrev pub AreFound : List (ItemId × Item) → List Write → ℕ → List (CellId × ItemId) → Type 0
AreFound entries writes count named =
    (stays : List (CellId × ItemId)) × (count ≡ length stays) × (named ≡ take 3 stays) × AreWrites entries writes stays
