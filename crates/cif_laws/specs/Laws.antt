-- What is written of a layout is read back as that layout, wrapped.
-- Source: Caltech Intermediate Form 2.0, its formal grammar, symbol definitions and calls.
-- Checked on: the rows of tests/jobs/cif-layouts.table.
use Rattle.std.specs.Prelude.{◌≡◌, ◌⊎◌, ℕ, ◌≤◌, List, length, Some, Result, Ok, Err, IsTrue}
use Rattle.lay_point.specs.Names.{is_layer_name}
use Rattle.lay_layouts.specs.declared.id.ItemId.{ItemId}
use Rattle.lay_layouts.specs.declared.item.Item.{Item}
use Rattle.lay_layouts.specs.declared.item.Item.TheVariants.{Placed, Shape}
use Rattle.lay_layouts.specs.Layout.{Layout, item_at}
use Rattle.lay_layouts.specs.Sound.{IsSound}
use Rattle.cif_grammar.specs.Commands.{Command}
use Rattle.cif_grammar.specs.Grammar.{Reads}
use Rattle.cif_read.specs.declared.content.Content.{Content}
use Rattle.cif_read.specs.declared.fault.CifFault.{CifFault}
use Rattle.cif_read.specs.declared.file.TheConstants.{MAX_SYMBOLS, MAX_TEXT}
use Rattle.cif_read.specs.Binding.{IsBoundAs}
use Rattle.cif_read.specs.Content.{content_of}
use Rattle.cif_read.specs.Contents.{Contents}
use Rattle.cif_read.specs.Meaning.{AnswersMeaning, no_memory}
use Rattle.cif_layout.specs.FromCif.{layout_of}
use Rattle.cif_write.specs.declared.boxes.Rectangles.TheVariants.{Boxes}
use Rattle.cif_write.specs.Boxes.{text_as}
use Rattle.cif_write.specs.Text.{text}
use Rattle.cif_write.specs.Wrap.{wrap, written}
use Rattle.cif_laws.specs.SameRings.{IsSameLayout}

-- a shape is on a layer that has a name
abbrev pub IsOnNamedLayer : Item → Type 0
IsOnNamedLayer (Shape cell layer rings) = IsTrue (is_layer_name layer)
IsOnNamedLayer (Placed cell target turn) = Unit {0}

-- all shapes of a layout are
abbrev pub AreOnNamedLayers : Layout → Type 0
AreOnNamedLayers layout = (id : ItemId) (item : Item) → item_at layout id ≡ Some item → IsOnNamedLayer item

-- a text is commands of the grammar, whose meaning is bound as a file that has a layout as wanted
abbrev pub IsReadWith : (Layout → Type 0) → List ℕ → Type 0
IsReadWith Wanted bytes = (commands : List (ℕ × Command)) × (last : Content) × (file : Contents)
    × Reads bytes commands × (content_of commands ≡ Ok last) × IsBoundAs last (Ok file) × Wanted (layout_of file)

-- where it isn't too long, whatever it may be answered with, but out of memory, is such a file
abbrev pub IsAnsweredWith : (Layout → Type 0) → List ℕ → Type 0
IsAnsweredWith Wanted bytes = length bytes ≤ MAX_TEXT → (result : Result Contents CifFault) → AnswersMeaning bytes result
    → (result ≡ Err no_memory) ⊎ ((file : Contents) × (result ≡ Ok file) × Wanted (layout_of file))

-- as the layout, wrapped
abbrev pub IsReadAs : Layout → List ℕ → Type 0
IsReadAs layout bytes = IsReadWith (λ read. read ≡ wrap layout) bytes

abbrev pub IsAnsweredAs : Layout → List ℕ → Type 0
IsAnsweredAs layout bytes = IsAnsweredWith (λ read. read ≡ wrap layout) bytes

-- as the layout, wrapped, but for where its rings begin and which way they run
abbrev pub IsReadAlike : Layout → List ℕ → Type 0
IsReadAlike layout bytes = IsReadWith (IsSameLayout (wrap layout)) bytes

abbrev pub IsAnsweredAlike : Layout → List ℕ → Type 0
IsAnsweredAlike layout bytes = IsAnsweredWith (IsSameLayout (wrap layout)) bytes

abbrev pub IsReadBack : Layout → Type 0
IsReadBack layout = IsReadAs layout (text layout)

abbrev pub IsReread : Layout → Type 0
IsReread layout = IsAnsweredAs layout (text layout)

-- a layout that a text can hold: it is sound, its layers have names, and no more symbols are written than a text may define
pub record FitsText (layout : Layout) : Type 0 where
  pub sound : IsSound layout
  pub named : AreOnNamedLayers layout
  pub room : length (written layout).definitions ≤ MAX_SYMBOLS

abbrev pub WhatIsWrittenIsReadBack : Type 0
WhatIsWrittenIsReadBack = (layout : Layout) → FitsText layout → IsReadBack layout × IsReread layout

-- with boxes too, but for the order of points
abbrev pub BoxesAreReadBack : Type 0
BoxesAreReadBack =
    (layout : Layout) → FitsText layout → IsReadAlike layout (text_as Boxes layout) × IsAnsweredAlike layout (text_as Boxes layout)

abbrev pub WhatIsWrappedIsSound : Type 0
WhatIsWrappedIsSound = (layout : Layout) → FitsText layout → IsSound (wrap layout)

-- the layout that is read is written as the first was
abbrev pub WhatIsReadIsWrittenTheSame : Type 0
WhatIsReadIsWrittenTheSame = (layout : Layout) → FitsText layout → text (wrap layout) ≡ text layout
