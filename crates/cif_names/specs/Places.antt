-- Where a command of a text stands: in which definition, at which scale, and with which layer set.
-- Source: Caltech Intermediate Form 2.0; a layer is unset where a definition begins, and set again as before where it ends, as
-- for the reader.
-- Checked on: in `L A; DS 1; L B; DF; 94 T 0 0; E` the label is on A.
use Rattle.std.specs.Prelude.{ℕ, ◌==◌, List, [], ◌∷◌, ◌&&◌, Option, None, Some, if◌then◌else◌}
use Rattle.std.specs.List.{list_all}
use Rattle.lay_point.specs.Names.{layer_name_of}
use Rattle.cif_grammar.specs.Bytes.{is_blank, skip}
use Rattle.byte_io.specs.Steps.{◌>>=◌}
use Rattle.cif_grammar.specs.declared.definitions.Definition.{Definition}
use Rattle.cif_grammar.specs.Definitions.{definition_of, plain_scale}
use Rattle.cif_grammar.specs.Layers.{layer_of}
use Rattle.cif_names.specs.declared.place.Place.{Place}

-- in no definition, with no layer set
abbrev pub outside : Place
outside = record { symbol = None; scale = plain_scale; layer = None; saved = None }

-- a definition that is read opens its symbol
abbrev pub place_opened : Place → Option Definition → Place
place_opened place None = place
place_opened place (Some d) = record { symbol = Some d.symbol; scale = d.scale; layer = None; saved = place.layer }

-- behind the end of a definition the layer is set that was saved where it began
abbrev pub place_closed : Place → Place
place_closed place = record { symbol = None; scale = plain_scale; layer = place.saved; saved = None }

-- behind a `D` and blanks: an `S` and a definition, or an `F`
abbrev pub after_bracket : Place → List ℕ → Place
after_bracket place [] = place
after_bracket place (b ∷ bs) =
    if b == 83 then place_opened place (definition_of bs)
    else if b == 70 && list_all is_blank bs then place_closed place
    else place

-- the layer that is set by a name
abbrev pub layered : Place → Option (List ℕ) → Place
layered place None = place
layered place (Some name) = record place { layer = Some name }

-- the layer behind an `L`
unfoldable pub layer_at : List ℕ → Option (List ℕ)
layer_at bytes = do
  name ← layer_of bytes
  layer_name_of name

-- the place behind a command
unfoldable pub place_after : Place → List ℕ → Place
place_after place [] = place
place_after place (b ∷ bs) =
    if b == 68 then after_bracket place (skip is_blank bs)
    else if b == 76 then layered place (layer_at bs)
    else place
