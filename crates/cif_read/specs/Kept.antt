-- What is so of a text's contents at each command.
use Rattle.std.specs.Prelude.{◌≡◌, ℕ, ◌≤◌, List, length, map, All, IsTrue}
use Rattle.lay_point.specs.Points.{is_in_range}
use Rattle.lay_point.specs.Rings.{IsRing}
use Rattle.lay_cells.specs.declared.cells.TheConstants.{MAX_SYMBOL}
use Rattle.lay_cells.specs.Symbols.{has_cell}
use Rattle.cif_read.specs.declared.content.Content.{Content}
use Rattle.cif_read.specs.declared.element.Element.{Element}
use Rattle.cif_read.specs.declared.element.Figure.{Figure}
use Rattle.cif_read.specs.declared.element.Figure.TheVariants.{Call, Polygon}
use Rattle.cif_read.specs.declared.file.TheConstants.{MAX_SYMBOLS}
use Rattle.cif_read.specs.Binding.{edge_of}
use Rattle.cif_read.specs.Content.{current_cell, current_scale}
use Rattle.cif_read.specs.Scales.{IsRatio}
use Rattle.cif_read.specs.Contents.{element_calls}

-- what may be drawn before the calls are bound
abbrev pub IsKeptFigure : Figure → Type 0
IsKeptFigure (Polygon layer ring) = IsRing ring
IsKeptFigure (Call target turn) = IsTrue (is_in_range turn.shift)

abbrev pub IsKeptElement : List ℕ → Element → Type 0
IsKeptElement symbols e = IsTrue (has_cell symbols e.cell) × IsKeptFigure e.figure

-- what commands keep
pub record IsKept (content : Content) : Type 0 where
  pub few : length content.symbols ≤ MAX_SYMBOLS
  pub numbers : All (λ n. n ≤ MAX_SYMBOL) content.symbols
  pub scale : IsRatio (current_scale content.definition)
  pub inside : IsTrue (has_cell content.symbols (current_cell content.definition))
  pub elements : All (IsKeptElement content.symbols) content.elements
  pub calls : map edge_of content.calls ≡ element_calls content.elements
