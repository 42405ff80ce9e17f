-- Lists that are kept under the numbers of symbols.
-- Source: this project's own.
use Rattle.std.specs.Prelude.{◌≡◌, ℕ, List, Option, map, refl, unwrap_or}
use Rattle.std.specs.BTreeMap.{is_at}
use Rattle.std.specs.Coded.{Coded, code_by, coded×, coded_list, coded_ℕ}
use Rattle.std.specs.Map.{lookup}
use Rattle.std.specs.Ordering.{nat_cmp}
use Rattle.lay_point.specs.declared.point.Point.{Point}
use Rattle.lay_cells.specs.declared.cell_id.CellId.{CellId}
use Rattle.lay_layouts.specs.Layout.{Layout, coded_layout}
use Rattle.lay_layouts.specs.Lent.{shapes_in}

-- the list that is kept under a number
abbrev pub list_under : {X : Type 0} → List (ℕ × List X) → ℕ → Option (List X)
list_under entries n = lookup (is_at (nat_cmp n)) entries

-- what is kept under a number is the list that belongs there
abbrev pub AreListsOf : {X : Type 0} → (ℕ → List X) → List (ℕ × List X) → Type 0
AreListsOf list_of entries = (n : ℕ) → unwrap_or (list_under entries n) (list_of n) ≡ list_of n

-- a layer of a layout
pub record LayerOf : Type 0 where
  pub layout : Layout
  pub layer : List ℕ

-- it is stored as the pair of both
abbrev pub coded_layer_of : Coded LayerOf
coded_layer_of =
    code_by (Layout × List ℕ) (coded× coded_layout (coded_list coded_ℕ)) (λ l. (l.layout, l.layer))
    (λ p. record { layout = p.0; layer = p.1 }) (λ _. refl)

-- the rings of each shape that stands on the layer in a cell, in order of the shapes' ids
abbrev pub shape_rings : LayerOf → CellId → List (List (List Point))
shape_rings from cell = map (λ shape. shape.1) (shapes_in from.layout cell from.layer)
