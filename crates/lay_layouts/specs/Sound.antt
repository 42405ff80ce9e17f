-- Which layouts are sound.
-- Source: Caltech Intermediate Form 2.0, symbol definitions and calls; the limits, that a shape may have several rings
-- and that symbols have slots are this project's own.
-- Checked on: the layout of any text is sound; one with a shape in symbol 9, or a call of it, and
-- without symbol 9 is not; nor is one in which symbol 1 calls 2, and 2 calls 1.
use Rattle.std.specs.Prelude.{◌≡◌, ℕ, ◌≤◌, List, length, Some, IsTrue}
use Rattle.std.specs.List.{AllByRecursion}
use Rattle.std.specs.FinMap as map
use Rattle.lay_point.specs.declared.point.Point.{Point}
use Rattle.lay_point.specs.declared.ring.TheConstants.{MAX_RING_POINTS}
use Rattle.lay_point.specs.Bridges.{bridged}
use Rattle.lay_point.specs.Points.{is_in_range}
use Rattle.lay_point.specs.Rings.{IsRing}
use Rattle.lay_cells.specs.declared.cell_id.CellId.TheVariants.{Symbol}
use Rattle.lay_cells.specs.declared.cells.TheConstants.{MAX_SYMBOL}
use Rattle.lay_cells.specs.Walks.{IsAcyclic}
use Rattle.lay_layouts.specs.declared.id.ItemId.{ItemId}
use Rattle.lay_layouts.specs.declared.item.Item.{Item}
use Rattle.lay_layouts.specs.declared.item.Item.TheVariants.{Placed, Shape}
use Rattle.lay_layouts.specs.declared.slot.CellSlot.{CellSlot}
use Rattle.lay_layouts.specs.declared.slot.CellSlot.TheVariants.{Base}
use Rattle.lay_layouts.specs.Calls.{calls_of}
use Rattle.lay_layouts.specs.Layout.{Layout, is_cell, item_at}

-- a shape is drawn by one ring or more, and the one path that is written for them is no longer than a ring
pub record IsDrawn (rings : List (List Point)) : Type 0 where
  pub some : 1 ≤ length rings
  pub each : AllByRecursion IsRing rings
  pub short : length (bridged rings) ≤ MAX_RING_POINTS

-- what a layout with these cells may hold: shapes in them, and calls in them of its symbols, with shifts in range
abbrev pub IsSoundItem : Layout → Item → Type 0
IsSoundItem layout (Shape cell layer rings) = IsTrue (is_cell layout cell) × IsDrawn rings
IsSoundItem layout (Placed cell target turn) =
    IsTrue (is_cell layout cell) × IsTrue (is_cell layout (Symbol target)) × IsTrue (is_in_range turn.shift)

-- what a layout keeps
pub record IsSound (layout : Layout) : Type 0 where
  -- numbers are within their limit
  pub numbers : (number : ℕ) (slot : CellSlot) → map.get layout.symbols number ≡ Some slot → number ≤ MAX_SYMBOL
  -- no two symbols have one place of a text
  pub apart : (m n place : ℕ) → map.get layout.symbols m ≡ Some (Base place) → map.get layout.symbols n ≡ Some (Base place) → m ≡ n
  pub items : (id : ItemId) (item : Item) → item_at layout id ≡ Some item → IsSoundItem layout item
  -- no symbol contains itself
  pub acyclic : IsAcyclic (calls_of layout)
