-- Names and labels stand in a written text on lines of their own, and change nothing of its layout.
-- Source: this project's own.
-- Checked on: tests/names.
use Rattle.std.specs.Prelude.{◌≡◌, ℕ, List}
use Rattle.lay_layouts.specs.Layout.{Layout}
use Rattle.cif_write.specs.declared.boxes.Rectangles.TheVariants.{Boxes}
use Rattle.cif_write.specs.Boxes.{text_as}
use Rattle.cif_write.specs.Text.{text}
use Rattle.cif_names.specs.Laws.{HasNoNames, without_names}
use Rattle.cif_names.specs.Names.{names_of, within}
use Rattle.cif_names.specs.Woven.{with_names}
use Rattle.cif_laws.specs.Laws.{FitsText, IsAnsweredAlike, IsAnsweredAs, IsReadAlike, IsReadAs}

-- a text with the names and labels of another, those of these symbols and of none
abbrev pub named : List ℕ → List ℕ → List ℕ → List ℕ
named bytes source symbols = with_names (within symbols (names_of source)) bytes

-- no line of the text begins as one of a name or a label; so without such lines it is the same, whatever it was given
pub record NamesAreApart (bytes : List ℕ) : Type 0 where
  pub none : HasNoNames bytes
  pub same : (source symbols : List ℕ) → without_names (named bytes source symbols) ≡ bytes

-- so it is with a written text, with boxes too
abbrev pub NamesStandApart : Type 0
NamesStandApart = (layout : Layout) → FitsText layout → NamesAreApart (text layout) × NamesAreApart (text_as Boxes layout)

-- with names and labels, the text is read as that layout, wrapped
pub record IsReadNamed (layout : Layout) (source symbols : List ℕ) : Type 0 where
  pub read : IsReadAs layout (named (text layout) source symbols)
  pub answered : IsAnsweredAs layout (named (text layout) source symbols)
  -- with boxes too, but for the order of points
  pub boxes_read : IsReadAlike layout (named (text_as Boxes layout) source symbols)
  pub boxes_answered : IsAnsweredAlike layout (named (text_as Boxes layout) source symbols)

abbrev pub NamesChangeNothing : Type 0
NamesChangeNothing = (layout : Layout) → FitsText layout → (source symbols : List ℕ) → IsReadNamed layout source symbols
