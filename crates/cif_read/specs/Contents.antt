-- What a text is read as: its symbols, and its elements in text order.
-- Source: Caltech Intermediate Form 2.0, symbol definitions and calls.
use Rattle.std.specs.Prelude.{ℕ, ◌≤◌, List, [], ◌∷◌, length, All, IsTrue}
use Rattle.lay_point.specs.Points.{is_in_range}
use Rattle.lay_point.specs.Rings.{IsRing}
use Rattle.lay_cells.specs.declared.cell_id.CellId.{CellId}
use Rattle.lay_cells.specs.declared.cells.TheConstants.{MAX_SYMBOL}
use Rattle.lay_cells.specs.Symbols.{has_cell, has_symbol}
use Rattle.lay_cells.specs.Walks.{IsAcyclic}
use Rattle.cif_read.specs.declared.element.Element.{Element}
use Rattle.cif_read.specs.declared.element.Figure.{Figure}
use Rattle.cif_read.specs.declared.element.Figure.TheVariants.{Call, Polygon}
use Rattle.cif_read.specs.declared.file.TheConstants.{MAX_SYMBOLS}

-- the symbols' numbers in the order of their definitions, the kept elements in text order, and how many extensions and
-- elements that aren't kept there are
pub record Contents : Type 0 where
  pub symbols : List ℕ
  pub elements : List Element
  pub extensions : ℕ
  pub dropped : ℕ

-- the calls among elements, each with the cell that it stands in, in order
abbrev pub with_call : CellId → Figure → List (CellId × ℕ) → List (CellId × ℕ)
with_call cell (Polygon layer ring) calls = calls
with_call cell (Call target turn) calls = (cell, target) ∷ calls

abbrev pub element_calls : List Element → List (CellId × ℕ)
element_calls [] = []
element_calls (e ∷ es) = with_call e.cell e.figure (element_calls es)

-- what may be drawn where these symbols are
abbrev pub IsSoundFigure : List ℕ → Figure → Type 0
IsSoundFigure symbols (Polygon layer ring) = IsRing ring
IsSoundFigure symbols (Call target turn) = IsTrue (has_symbol symbols target) × IsTrue (is_in_range turn.shift)

abbrev pub IsSoundElement : List ℕ → Element → Type 0
IsSoundElement symbols e = IsTrue (has_cell symbols e.cell) × IsSoundFigure symbols e.figure

-- what a file keeps: it is the contents of a sound layout; that no symbol is there twice is kept by their own type
pub record IsSoundFile (file : Contents) : Type 0 where
  pub few : length file.symbols ≤ MAX_SYMBOLS
  pub numbers : All (λ n. n ≤ MAX_SYMBOL) file.symbols
  pub elements : All (IsSoundElement file.symbols) file.elements
  pub acyclic : IsAcyclic (element_calls file.elements)
