-- How a layout is shown: with the names and labels of a text, and with its shapes directed.
-- Source: this project's own.
use Rattle.std.specs.Prelude.{◌≡◌, ℕ, List, [], Bool, true, false, Option, None, Some}
use Rattle.cif_names.specs.declared.names.Names.{Names}
use Rattle.cif_names.specs.Names.{names_of, within}
use Rattle.cif_names.specs.Woven.{with_names}
use Rattle.cif_write.specs.Boxes.{text_as}
use Rattle.cif_write.specs.Text.{text}
use Rattle.cif_write.specs.declared.boxes.Rectangles.TheVariants.{Boxes}
use Rattle.lay_cells.specs.declared.cell_id.CellId.{CellId}
use Rattle.lay_layouts.specs.declared.id.ItemId.{ItemId}
use Rattle.lay_layouts.specs.Layout.{Layout}
use Rattle.lay_layouts.specs.SlotOrder.{in_slot_order}
use Rattle.lay_oriented.specs.Directed.{IsDirected, IsDirectedNaming}
use Rattle.live_run.specs.declared.showing.Showing.{Showing}
use Rattle.live_run.specs.declared.showing.View.{View}

-- the text of a layout, with boxes where that is asked for
abbrev pub layout_text : Bool → Layout → List ℕ
layout_text false layout = text layout
layout_text true layout = text_as Boxes layout

-- the names and labels of a text, where they are asked for
abbrev pub names_when : Bool → List ℕ → Option Names
names_when false text = None
names_when true text = Some (names_of text)

-- those of the symbols that are in the layout, and those of none
abbrev pub names_for : Option Names → Layout → Option Names
names_for None layout = None
names_for (Some names) layout = Some (within (in_slot_order layout.symbols) names)

-- the text that is written, with these names and labels in it, if there are any
abbrev pub text_with : Option Names → List ℕ → List ℕ
text_with None text = text
text_with (Some names) text = with_names names text

-- the text of a layout, with those of these names and labels in it whose symbols it has, and those of none
abbrev pub text_named : Option Names → Layout → List ℕ
text_named names layout = text_with (names_for names layout) (text layout)

-- how a layout is shown that was read from this text
abbrev pub view_of : Showing → List ℕ → View
view_of showing cif = record { names = names_when showing.named cif; oriented = showing.oriented }

-- what is seen of a layout: the layout itself, or where shapes are to be directed one with them directed, but for some that stay
abbrev pub IsShown : Bool → Layout → Layout → Type 0
IsShown false layout seen = seen ≡ layout
IsShown true layout seen = (staying : ℕ) × IsDirected layout seen staying

-- the same, and how many shapes stay though they were to be directed, with the first three of them; else none
abbrev pub IsShownNaming : Bool → Layout → Layout → ℕ → List (CellId × ItemId) → Type 0
IsShownNaming false layout seen staying first = (seen ≡ layout) × (staying ≡ 0) × (first ≡ [])
IsShownNaming true layout seen staying first = IsDirectedNaming layout seen staying first

-- how many names and labels are left out, where any are shown
abbrev pub left_out_of : Option Names → ℕ
left_out_of None = 0
left_out_of (Some names) = names.left_out
