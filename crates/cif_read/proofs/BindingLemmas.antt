-- What is so of elements whose calls are bound.
use Rattle.std.proofs.Common.{ℕ, List, [], ◌∷◌, map, sym, subst, All}
use Rattle.std.specs.Prelude.{IsTrue}
use Rattle.std.proofs.lemmas.List.Elements.{All-cons, All-head, All-map, All-nil, All-tail}
use Rattle.lay_cells.specs.declared.cell_id.CellId.{CellId}
use Rattle.lay_cells.specs.Symbols.{has_cell, has_symbol}
use Rattle.lay_cells.specs.Walks.{IsAcyclic}
use Rattle.cif_read.specs.declared.content.Content.{Content}
use Rattle.cif_read.specs.declared.element.Element.{Element}
use Rattle.cif_read.specs.declared.element.Figure.{Figure}
use Rattle.cif_read.specs.declared.element.Figure.TheVariants.{Call, Polygon}
use Rattle.cif_read.specs.Binding.{IsBound, contents_of, edge_of}
use Rattle.cif_read.specs.Contents.{IsSoundElement, IsSoundFigure, IsSoundFile, element_calls, with_call}
use Rattle.cif_read.specs.Kept.{IsKept, IsKeptElement, IsKeptFigure}

pub unmapped : {X Y : Type 0} (P : X → Type 0) (f : Y → X) (ys : List Y) → All P (map f ys) → All (λ y. P (f y)) ys
unmapped P f [] h = All-nil (λ y. P (f y))
unmapped P f (y ∷ ys) h = All-cons (λ y. P (f y)) y ys (All-head P (f y) (map f ys) h) (unmapped P f ys (All-tail P (f y) (map f ys) h))

-- the calls of elements stand in cells
callers : (symbols : List ℕ) (es : List Element) → All (IsKeptElement symbols) es
    → All (λ c. IsTrue (has_cell symbols c.0)) (element_calls es)
callers symbols [] h = All-nil (λ c. IsTrue (has_cell symbols c.0))
callers symbols (e ∷ es) h =
    by e.figure (callers symbols es (All-tail (IsKeptElement symbols) e es h)) where
      by : (f : Figure) → All (λ c. IsTrue (has_cell symbols c.0)) (element_calls es)
          → All (λ c. IsTrue (has_cell symbols c.0)) (with_call e.cell f (element_calls es))
      by (Polygon layer ring) rest = rest
      by (Call target turn) rest =
          All-cons (λ c. IsTrue (has_cell symbols c.0)) (e.cell, target) (element_calls es) (All-head (IsKeptElement symbols) e es h).0 rest

pub placed : (content : Content) → IsKept content → All (λ c. IsTrue (has_cell content.symbols c.caller)) content.calls
placed content kept =
    unmapped (λ c. IsTrue (has_cell content.symbols c.0)) edge_of content.calls
    (subst (λ (cs : List (CellId × ℕ)). All (λ c. IsTrue (has_cell content.symbols c.0)) cs) (sym kept.calls)
    (callers content.symbols content.elements kept.elements))

-- elements whose calls are bound are sound
sound_elements : (symbols : List ℕ) (es : List Element) → All (IsKeptElement symbols) es
    → All (λ c. IsTrue (has_symbol symbols c.1)) (element_calls es) → All (IsSoundElement symbols) es
sound_elements symbols [] h bound = All-nil (IsSoundElement symbols)
sound_elements symbols (e ∷ es) h bound =
    let first = All-head (IsKeptElement symbols) e es h in
    let step = by e.figure first.1 bound in
    All-cons (IsSoundElement symbols) e es (first.0, step.0)
    (sound_elements symbols es (All-tail (IsKeptElement symbols) e es h) step.1)
  where
    by : (f : Figure) → IsKeptFigure f → All (λ c. IsTrue (has_symbol symbols c.1)) (with_call e.cell f (element_calls es))
        → IsSoundFigure symbols f × All (λ c. IsTrue (has_symbol symbols c.1)) (element_calls es)
    by (Polygon layer ring) kept rest = (kept, rest)
    by (Call target turn) kept rest = (
      (All-head (λ c. IsTrue (has_symbol symbols c.1)) (e.cell, target) (element_calls es) rest, kept),
      All-tail (λ c. IsTrue (has_symbol symbols c.1)) (e.cell, target) (element_calls es) rest,
    )

pub sound_file : (content : Content) → IsKept content → All (IsBound content.symbols) content.calls → IsAcyclic (map edge_of content.calls)
    → IsSoundFile (contents_of content)
sound_file content kept bound acyclic = record {
  few = kept.few;
  numbers = kept.numbers;
  elements = sound_elements content.symbols content.elements kept.elements
      (subst (λ (cs : List (CellId × ℕ)). All (λ c. IsTrue (has_symbol content.symbols c.1)) cs) kept.calls
      (All-map (λ c. IsTrue (has_symbol content.symbols c.1)) edge_of content.calls bound));
  acyclic = subst IsAcyclic kept.calls acyclic;
}
